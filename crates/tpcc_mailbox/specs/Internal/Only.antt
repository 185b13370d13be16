-- The one item of a list that has one.
use Rattle.std.specs.Prelude.{◌≡◌, List, [], ◌∷◌, length}
use Rattle.std.proofs.Common.{sym}
use Rattle.std.proofs.Math.Nat.{suc-ne-zero}

module _ {A : Type 0} where
  abbrev pub only : (xs : List A) → length xs ≡ 1 → A
  only (x ∷ xs) one = x
  only [] one = absurd (suc-ne-zero 0 (sym one))
