use Rattle.std.proofs.Common.{◌≡◌, ◌*◌, ◌^◌, pos, ◌≤ℤ◌, take}
use Rattle.std.specs.Prelude.{neg_ℤ}
use Rattle.tpcc_money.specs.Amounts.{total}
use Rattle.tpcc_conditions.specs.Internal.DistrictTotals.{total_in}
use Rattle.tpcc_conditions.proofs.district_totals.district_totals.Given as goal

abbrev pub invariant-loop-position : goal.invariant-loop-position
invariant-loop-position l = record {
  summed : l.sum ≡ total (total_in l.warehouse) (take l.position l.tables.rows.districts);
  low : neg_ℤ (pos (l.position * 2 ^ 63)) ≤ℤ l.sum;
  high : l.sum ≤ℤ pos (l.position * 2 ^ 63);
}
