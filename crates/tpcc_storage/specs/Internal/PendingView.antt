-- How the orders that wait in a district are seen, and what always holds of them.
use Rattle.std.specs.Prelude.{◌≡◌, ◌<◌, ◌≤◌, ◌++◌, [], length, vec_capacity}
use Rattle.tpcc_rows.specs.declared.tables.rows.NewOrderRow.{NewOrderRow}
use Rattle.tpcc_storage.specs.declared.by_district.pending.PendingRows.TheInside.{Inside}
use Rattle.tpcc_storage.specs.KeptRows.{KeptRows}

abbrev pub pending_rows : Inside → KeptRows NewOrderRow
pending_rows w = record { items = w.range ++ w.listed.items; capacity = vec_capacity w.listed }

-- a range has no list beside it, but the list has its room
pub record IsPending (w : Inside) : Type 0 where
  pub alone : 0 < length w.range → w.listed.items ≡ []
  pub room : length w.range ≤ vec_capacity w.listed
