use Rattle.std.proofs.Common.{◌++◌, take}
use Rattle.tpcc_text.specs.Prefix.{PassesBytes}
use Rattle.tpcc_run.specs.ShownRun.{receipt_lines}
use Rattle.tpcc_run.proofs.receipt_lines.put_lines.Given as goal

abbrev pub invariant-loop-receipt : goal.invariant-loop-receipt
invariant-loop-receipt g l = PassesBytes (g.W.Write.contents l.fn.out) (g.W.Write.contents l.out) (l.fn.blocks ++ receipt_lines (take l.receipt-index l.receipts)) l.blocks
