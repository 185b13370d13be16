-- What a register keeps in its fields, and how its rise grows.
use Rattle.std.specs.Prelude.{◌≡◌, ◌≤◌, ◌<◌, length, ℤ, pos, ◌≤ℤ◌, ◌+ℤ◌}
use Rattle.tpcc_money.specs.Amounts.{total}
use Rattle.tpcc_rows.specs.declared.transactions.requests.Request.{Request}
use Rattle.tpcc_rows.specs.Replay.{paid_by_request}
use Rattle.tpcc_population.specs.Opening.{opening_rows}
use Rattle.tpcc_book.specs.Past.{IsKept, Past, most_entries, rise_of}

-- what a register keeps: its past, and the sum of W_YTD over its opening's rows
pub record IsRegistered (year_to_date : ℤ) (p : Past) : Type 0 where
  pub kept : IsKept p
  pub opening_sum : year_to_date ≡ total (λ w. w.ytd) (opening_rows p.opening).warehouses

-- the rise goes up by what a request pays, and both totals stay far below what 63 bits hold
pub record Rises (old : Past) (request : Request) (new : Past) : Type 0 where
  pub by : rise_of new ≡ rise_of old +ℤ paid_by_request request
  pub least : pos 0 ≤ℤ paid_by_request request
  pub below : rise_of new ≤ℤ pos 500000000000000
  pub room : length old.entries < most_entries
