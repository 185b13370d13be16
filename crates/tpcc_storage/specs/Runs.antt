-- Lines of a district's orders, by the orders' numbers.
use Rattle.std.specs.Prelude.{ℕ, Bool, ◌&&◌, ◌==◌, nat_le, nat_lt}
use Rattle.tpcc_rows.specs.declared.tables.rows.OrderLineRow.{OrderLineRow}

-- a line of one of the district's orders that are numbered from `first` on, and below `next`
abbrev pub is_line_between : ℕ → ℕ → ℕ → ℕ → OrderLineRow → Bool
is_line_between warehouse district first next l = (l.warehouse == warehouse) && (l.district == district) && (nat_le first l.order && nat_lt l.order next)
