use Rattle.std.proofs.Common.{ap}
use Rattle.tpcc_rows.specs.Lookups.{stock_reply}
use Rattle.tpcc_lookups.proofs.Low.{level_is}
use Rattle.tpcc_lookups.proofs.stocks.stock_level.Goals as goal

pub returns-clause-reply : goal.returns-clause-reply
returns-clause-reply c =
    let rows = c.args.tables.now.rows in
    let query = c.args.query.now in
    ap (λ n. record (stock_reply rows query) { low_stock = n })
    (level_is rows query c.in_ok-next.field-0.now c.low_stock.result c.in_ok-next.ensures.district c.low_stock.ensures.count)
