-- The texts of a record.
use Rattle.std.proofs.Common.{◌≡◌, ◌∙◌, ℕ, List}
use Rattle.std.specs.Prelude.{Result, Ok, Err, OnOk}

-- the same texts in other words
pub told : {E : Type 0} (now texts said : List (List ℕ)) (r : Result (Unit {0}) E) → texts ≡ said → OnOk r (now ≡ texts) → OnOk r (now ≡ said)
told now texts said (Ok done) e h = h ∙ e
told now texts said (Err refused) e h = tt
