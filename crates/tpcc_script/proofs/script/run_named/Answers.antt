use Rattle.tpcc_text.specs.Script.{script_of}
use Rattle.tpcc_script.specs.Session.{opened_book}
use Rattle.tpcc_script.proofs.Runs.{not_started}
use Rattle.tpcc_script.proofs.Sessions.{has_run}
use Rattle.tpcc_script.proofs.script.run_named.Goals as goal

pub returns-in-Ok : goal.returns-in-Ok
returns-in-Ok g c = record {
  run = λ bytes known.
      has_run c.args.opening.now c.in-Ok.session c.run.new.self (script_of bytes) (g.W.Write.contents c.args.out.now) (g.W.Write.contents c.run.new.out) c.run.result
      c.in-Ok.ensures.started (c.run.ensures.counted bytes known);
}

pub returns-in-Err : goal.returns-in-Err
returns-in-Err g c = record {
  run = λ bytes known. not_started (opened_book c.args.opening.now) (script_of bytes) (g.W.Write.contents c.args.out.now);
}
