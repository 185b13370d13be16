-- The sum of W_YTD over the first WAREHOUSE rows.
use Rattle.std.proofs.Common.{◌≡◌, ◌∙◌, ℕ, zero, suc, ◌+◌, List, [], ◌∷◌, length, take, refl, arith}
use Rattle.std.specs.Prelude.{ℤ, pos, ◌+ℤ◌, option_map, unwrap_or, slice_get}
use Rattle.std.proofs.lemmas.Int.{ints}
use Rattle.tpcc_money.specs.Amounts.{total}
use Rattle.tpcc_rows.specs.declared.tables.rows.WarehouseRow.{WarehouseRow}
use Rattle.tpcc_rows.specs.Tables.{Rows}
use Rattle.tpcc_tables.specs.Positions.{count_of}
use Rattle.tpcc_rows.specs.declared.tables.row.Table.TheVariants as table

abbrev amount_at : List WarehouseRow → ℕ → ℤ
amount_at rows i = unwrap_or (option_map (λ w. w.ytd) (slice_get rows i)) (pos 0)

next : (rows : List WarehouseRow) (i : ℕ) → total (λ w. w.ytd) (take (suc i) rows) ≡ total (λ w. w.ytd) (take i rows) +ℤ amount_at rows i
next [] zero = omega (arith, ints)
next [] (suc i) = omega (arith, ints)
next (w ∷ rows) zero = omega (arith, ints)
next (w ∷ rows) (suc i) = omega (arith, ints, next rows i)

-- one row more adds its W_YTD
pub next_row : (rows : List WarehouseRow) (i : ℕ) → total (λ w. w.ytd) (take (i + 1) rows) ≡ total (λ w. w.ytd) (take i rows) +ℤ amount_at rows i
next_row rows i = let e : i + 1 ≡ suc i = omega arith in (λ j. total (λ w. w.ytd) (take (e j) rows)) ∙ next rows i

all : (rows : List WarehouseRow) → total (λ w. w.ytd) (take (length rows) rows) ≡ total (λ w. w.ytd) rows
all [] = refl
all (w ∷ rows) = omega (arith, ints, all rows)

-- the first rows, as many as there are, are all
pub all_rows : (rows : Rows) → total (λ w. w.ytd) (take (count_of rows table.Warehouse) rows.warehouses) ≡ total (λ w. w.ytd) rows.warehouses
unfolding count_of
all_rows rows = all rows.warehouses
