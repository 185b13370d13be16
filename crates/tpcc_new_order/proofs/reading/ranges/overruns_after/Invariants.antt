use Rattle.std.proofs.Common.{◌≡◌, take, map}
use Rattle.tpcc_rows.specs.Tables.{stock_at}
use Rattle.tpcc_rows.specs.NewOrder.{stock_after}
use Rattle.tpcc_new_order.specs.Internal.Tests.{overruns_of}
use Rattle.tpcc_new_order.proofs.reading.ranges.overruns_after.Given as goal

abbrev pub invariant-loop-line : goal.invariant-loop-line
invariant-loop-line l = record { over : l.over ≡ overruns_of (map (λ x. stock_after l.home l.lines (stock_at l.tables.rows x.supply x.item)) (take l.line-index l.lines)) }
