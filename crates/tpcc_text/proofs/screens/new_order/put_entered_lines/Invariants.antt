use Rattle.std.proofs.Common.{take}
use Rattle.std.specs.Prelude.{flat_map}
use Rattle.tpcc_text.specs.Internal.Adding.{Adds}
use Rattle.tpcc_text.specs.Screens.{entered_line}
use Rattle.tpcc_text.proofs.screens.new_order.put_entered_lines.Given as goal

abbrev pub invariant-loop-line : goal.invariant-loop-line
invariant-loop-line l = Adds l.fn.screen l.screen (flat_map entered_line (take l.line-index l.lines))
