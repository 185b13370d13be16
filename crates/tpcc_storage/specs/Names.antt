-- 2.5.2.2, 2.6.2.2: the names of customers, in order, and the middle one of those with a last name.
use Rattle.std.specs.Prelude.{ℕ, ◌+◌, ◌-◌, ◌/◌, ◌==◌, Bool, ◌&&◌, List, length, map, filter, Option, option_map, slice_get}
use Rattle.std.specs.declared.cmp.Ordering.{Ordering}
use Rattle.std.specs.Ordering.{is_lt, nat_cmp, ordering_then}
use Rattle.std.specs.Cmp.Lexicographic.{slice_cmp}
use Rattle.std.specs.Str.{bytes_eq}
use Rattle.tpcc_rows.specs.declared.tables.rows.CustomerRow.{CustomerRow}
use Rattle.tpcc_rows.specs.Lists.{sorted}
use Rattle.tpcc_storage.specs.declared.names.CustomerName.{CustomerName}

-- how a name stands to the names of a district with a last name
abbrev pub last_cmp : CustomerName → ℕ → ℕ → List ℕ → Ordering
last_cmp n warehouse district last = ordering_then (nat_cmp n.warehouse warehouse) (ordering_then (nat_cmp n.district district) (slice_cmp nat_cmp n.last last))

-- by warehouse, district and last name; then by C_FIRST, and then by C_ID
abbrev pub name_cmp : CustomerName → CustomerName → Ordering
name_cmp a b = ordering_then (last_cmp a b.warehouse b.district b.last) (ordering_then (slice_cmp nat_cmp a.first b.first) (nat_cmp a.id b.id))

abbrev pub name_before : CustomerName → CustomerName → Bool
name_before a b = is_lt (name_cmp a b)

abbrev pub name_of : CustomerRow → CustomerName
name_of c = record { warehouse = c.warehouse; district = c.district; last = c.last; first = c.first; id = c.id }

-- the names of customers, in order
abbrev pub names_of : List CustomerRow → List CustomerName
names_of rows = sorted name_before (map name_of rows)

abbrev pub is_named : ℕ → ℕ → List ℕ → CustomerName → Bool
is_named warehouse district last n = (n.warehouse == warehouse) && (n.district == district) && bytes_eq n.last last

-- of the n names of a district with that last name the C_ID of the one at position n/2, rounded up, counted from 1
abbrev pub middle_id : ℕ → ℕ → List ℕ → List CustomerName → Option ℕ
middle_id warehouse district last names =
    let named = filter (is_named warehouse district last) names in option_map (λ n. n.id) (slice_get named ((length named + 1) / 2 - 1))
