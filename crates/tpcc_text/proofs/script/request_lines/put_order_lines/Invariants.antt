use Rattle.std.proofs.Common.{◌∷◌, take}
use Rattle.std.specs.Prelude.{flat_map}
use Rattle.tpcc_text.specs.Internal.Adding.{Adds}
use Rattle.tpcc_text.specs.RequestLines.{order_line_word}
use Rattle.tpcc_text.proofs.script.request_lines.put_order_lines.Given as goal

abbrev pub invariant-loop-line : goal.invariant-loop-line
invariant-loop-line l = Adds l.fn.screen l.screen (flat_map (λ x. 32 ∷ order_line_word x) (take l.line-index l.order))
