-- The numbers that conditions compare.
use Rattle.std.proofs.Common.{◌≡◌, ℕ, List, [], ◌∷◌, length, refl, arith, true, None}
use Rattle.std.specs.Prelude.{pos, ◌==◌}
use Rattle.std.specs.Ordering.{int_eq}
use Rattle.std.proofs.lemmas.Int.{ints}
use Rattle.std.proofs.lemmas.Bool.Decides.{nat_tests}
use Rattle.tpcc_rows.specs.Lists.{largest, smallest}

pub pos_eq : (a b : ℕ) → int_eq (pos a) (pos b) ≡ (a == b)
pos_eq a b = grind (arith, ints, nat_tests)

-- there is no largest or smallest number exactly where there is none
pub none_largest : (ns : List ℕ) → largest ns ≡ None → (length ns == 0) ≡ true
none_largest [] e = refl
none_largest (n ∷ ns) e = cc

pub none_smallest : (ns : List ℕ) → smallest ns ≡ None → (length ns == 0) ≡ true
none_smallest [] e = refl
none_smallest (n ∷ ns) e = cc
