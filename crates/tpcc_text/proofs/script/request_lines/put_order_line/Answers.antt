use Rattle.std.proofs.Common.{◌∷◌, append-nil}
use Rattle.tpcc_text.specs.RequestLines.{order_line_word}
use Rattle.tpcc_text.proofs.Chains.{told}
use Rattle.tpcc_text.proofs.script.request_lines.put_order_line.Goals as goal

pub returns : goal.returns
returns c =
    told c.args.screen.now c.put_all.new.self _ (32 ∷ order_line_word c.args.line.now) c.put_all.result
    (rw append-nil) c.put_all.ensures
