use Rattle.std.proofs.Common.{◌≡◌, ◌*◌, ◌^◌, pos, ◌≤ℤ◌, take}
use Rattle.std.specs.Prelude.{neg_ℤ}
use Rattle.tpcc_money.specs.Amounts.{total}
use Rattle.tpcc_book.proofs.register.year_to_date.year_to_date.Given as goal

abbrev pub invariant-loop-position : goal.invariant-loop-position
invariant-loop-position l = record {
  summed : l.sum ≡ total (λ w. w.ytd) (take l.position l.tables.rows.warehouses);
  low : neg_ℤ (pos (l.position * 2 ^ 63)) ≤ℤ l.sum;
  high : l.sum ≤ℤ pos (l.position * 2 ^ 63);
}
