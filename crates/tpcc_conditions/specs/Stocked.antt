-- Stock of each item in each warehouse (1.4).
use Rattle.std.specs.Prelude.{ℕ, Bool, is_some}
use Rattle.std.specs.List.{list_all}
use Rattle.tpcc_rows.specs.Tables.{Rows, find_stock}

abbrev pub has_items : Rows → ℕ → Bool
has_items rows warehouse = list_all (λ i. is_some (find_stock rows warehouse i.id)) rows.items

-- what `IsStocked` asks to be true
abbrev pub are_stocked : Rows → Bool
are_stocked rows = list_all (λ w. has_items rows w.id) rows.warehouses
