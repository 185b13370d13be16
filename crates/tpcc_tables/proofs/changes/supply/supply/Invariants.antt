use Rattle.std.proofs.Common.{◌≡◌, true, take}
use Rattle.std.specs.Prelude.{fold}
use Rattle.std.specs.List.{list_all}
use Rattle.tpcc_rows.specs.Lists.{is_ascending}
use Rattle.tpcc_rows.specs.Tables.{stock_key}
use Rattle.tpcc_tables.specs.Writes.{line_of}
use Rattle.tpcc_tables.specs.Internal.Supplies.{is_near}
use Rattle.tpcc_tables.proofs.Supplies.{after_line}
use Rattle.tpcc_tables.proofs.changes.supply.supply.Given as goal

abbrev pub invariant-loop-line : goal.invariant-loop-line
invariant-loop-line l = record {
  rows : l.rows.items ≡ fold (λ ss x. after_line l.home ss (line_of x)) l.fn.rows.items (take l.line-index l.lines);
  keyed : is_ascending stock_key l.rows.items ≡ true;
  near : list_all (is_near l.line-index) l.rows.items ≡ true;
}
