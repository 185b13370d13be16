use Rattle.std.proofs.Common.{◌++◌, take}
use Rattle.std.specs.Prelude.{flat_map}
use Rattle.tpcc_text.specs.Prefix.{PassesBytes}
use Rattle.tpcc_run.specs.ShownRun.{receipt_lines}
use Rattle.tpcc_run.proofs.receipt_lines.put_all.Given as goal

abbrev pub invariant-loop-held : goal.invariant-loop-held
invariant-loop-held g l = PassesBytes (g.W.Write.contents l.fn.out) (g.W.Write.contents l.out) (l.fn.blocks ++ flat_map (λ held. receipt_lines held.items) (take l.held-index l.receipts)) l.blocks
