-- Sums over the first rows of DISTRICT.
use Rattle.std.proofs.Common.{◌≡◌, ℕ, zero, suc, ◌+◌, List, [], ◌∷◌, take, refl, ◌∙◌, arith}
use Rattle.std.specs.Prelude.{◌==◌, ◌+ℤ◌, filter, slice_get}
use Rattle.std.proofs.lemmas.Int.{ints}
use Rattle.tpcc_money.specs.Amounts.{total}
use Rattle.tpcc_rows.specs.declared.tables.rows.DistrictRow.{DistrictRow}
use Rattle.tpcc_conditions.specs.Internal.DistrictTotals.{total_in, found_total}

next_row : (w : ℕ) (ds : List DistrictRow) (i : ℕ) → total (total_in w) (take (suc i) ds) ≡ total (total_in w) (take i ds) +ℤ found_total w (slice_get ds i)
next_row w [] zero = omega (arith, ints)
next_row w [] (suc i) = omega (arith, ints)
next_row w (d ∷ ds) zero = omega (arith, ints)
next_row w (d ∷ ds) (suc i) = omega (arith, ints, next_row w ds i)

pub next_total : (w : ℕ) (ds : List DistrictRow) (i : ℕ) → total (total_in w) (take (i + 1) ds) ≡ total (total_in w) (take i ds) +ℤ found_total w (slice_get ds i)
next_total w ds i = let e : i + 1 ≡ suc i = omega arith in (λ j. total (total_in w) (take (e j) ds)) ∙ next_row w ds i

-- all rows, of which those of other warehouses add nothing
pub whole_total : (w : ℕ) (ds : List DistrictRow) → total (total_in w) ds ≡ total (λ d. d.ytd) (filter (λ d. d.warehouse == w) ds)
whole_total w [] = refl
whole_total w (d ∷ ds) = grind (arith, ints, whole_total w ds)
