-- Whole tables tested row by row.
use Rattle.std.proofs.Common.{◌≡◌, ℕ, zero, suc, ◌+◌, Bool, true, false, List, [], ◌∷◌, length, take, refl, sym, ◌∙◌, arith}
use Rattle.tpcc_rows.specs.declared.tables.rows.ItemRow.{ItemRow}
use Rattle.tpcc_rows.specs.declared.tables.rows.WarehouseRow.{WarehouseRow}
use Rattle.std.specs.List.{list_all}
use Rattle.tpcc_rows.specs.declared.tables.row.Table.TheVariants as table
use Rattle.tpcc_rows.specs.Tables.{Rows}
use Rattle.tpcc_tables.specs.Positions.{count_of}
use Rattle.tpcc_conditions.specs.Internal.Stocked.{passes_at}

take_suc : {X : Type 0} (p : X → Bool) (xs : List X) (i : ℕ) → list_all p (take i xs) ≡ true → passes_at p xs i ≡ true → list_all p (take (suc i) xs) ≡ true
take_suc p [] i h k = refl
take_suc p (x ∷ xs) zero h k = grind arith
take_suc p (x ∷ xs) (suc i) h k = grind (arith, take_suc p xs i)

-- the rows up to a place pass, and so does the one that stands there
pub all_more : {X : Type 0} (p : X → Bool) (xs : List X) (i : ℕ) → list_all p (take i xs) ≡ true → passes_at p xs i ≡ true → list_all p (take (i + 1) xs) ≡ true
all_more p xs i h k = let next : i + 1 ≡ suc i = omega arith in (λ j. list_all p (take (next j) xs)) ∙ take_suc p xs i h k

-- one that fails
pub some_fails : {X : Type 0} (p : X → Bool) (xs : List X) (i : ℕ) → passes_at p xs i ≡ false → list_all p xs ≡ false
some_fails p [] i h = cc h
some_fails p (x ∷ xs) zero h = grind arith
some_fails p (x ∷ xs) (suc i) h = grind (arith, some_fails p xs i)

all_taken : {X : Type 0} (p : X → Bool) (xs : List X) → list_all p (take (length xs) xs) ≡ list_all p xs
all_taken p [] = refl
all_taken p (x ∷ xs) = grind (arith, all_taken p xs)

pub all_items : (rows : Rows) (p : ItemRow → Bool) (n : ℕ) → n ≡ count_of rows table.Item → list_all p (take n rows.items) ≡ true → list_all p rows.items ≡ true
unfolding count_of
all_items rows p n e h = sym (all_taken p rows.items) ∙ (λ j. list_all p (take (sym e j) rows.items)) ∙ h

pub all_warehouses : (rows : Rows) (p : WarehouseRow → Bool) (n : ℕ) → n ≡ count_of rows table.Warehouse → list_all p (take n rows.warehouses) ≡ true → list_all p rows.warehouses ≡ true
unfolding count_of
all_warehouses rows p n e h = sym (all_taken p rows.warehouses) ∙ (λ j. list_all p (take (sym e j) rows.warehouses)) ∙ h
