use Rattle.std.proofs.Common.{◌≡◌, drop}
use Rattle.std.specs.Prelude.{map}
use Rattle.tpcc_text.specs.Script.{order_lines_of}
use Rattle.tpcc_text.proofs.Ordering.{with_front}
use Rattle.tpcc_text.proofs.script.parse.order_lines.Given as goal

abbrev pub invariant-loop-word : goal.invariant-loop-word
invariant-loop-word l = order_lines_of (map (λ w. w.now) l.words) ≡ with_front l.lines.items (order_lines_of (map (λ w. w.now) (drop l.word-index l.words)))
