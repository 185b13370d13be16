use Rattle.std.proofs.Common.{take}
use Rattle.std.specs.Prelude.{flat_map}
use Rattle.tpcc_text.specs.Internal.Adding.{Adds}
use Rattle.tpcc_text.specs.Screens.{ordered_line}
use Rattle.tpcc_text.proofs.screens.order_status.put_ordered_lines.Given as goal

abbrev pub invariant-loop-line : goal.invariant-loop-line
invariant-loop-line l = Adds l.fn.screen l.screen (flat_map ordered_line (take l.line-index l.lines))
