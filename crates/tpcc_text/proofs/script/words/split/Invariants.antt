use Rattle.std.proofs.Common.{◌≡◌, ◌++◌, length}
use Rattle.std.specs.Prelude.{map}
use Rattle.tpcc_text.specs.Script.{parts_of}
use Rattle.tpcc_text.proofs.script.words.split.Given as goal

abbrev pub invariant-loop-part : goal.invariant-loop-part
invariant-loop-part l = parts_of l.divider l.bytes ≡ map (λ part. part.now) l.parts.items ++ parts_of l.divider l.rest

abbrev pub decreases-loop-part : goal.decreases-loop-part
decreases-loop-part l = length l.rest
