use Rattle.tpcc_text.specs.Script.{script_of}
use Rattle.tpcc_script.specs.Session.{book_of}
use Rattle.tpcc_script.proofs.Runs.{not_begun}
use Rattle.tpcc_script.proofs.session.Session.run.Goals as goal

pub returns-in_default : goal.returns-in_default
returns-in_default g c = record { counted = λ bytes known. not_begun (book_of c.args.self.now) (script_of bytes) (g.W.Write.contents c.args.out.now) }
