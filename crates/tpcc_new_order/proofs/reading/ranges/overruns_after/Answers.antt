use Rattle.std.proofs.Common.{◌∙◌, get_or}
use Rattle.tpcc_rows.specs.declared.transactions.requests.Line.{Line}
use Rattle.tpcc_rows.specs.Tables.{stock_at}
use Rattle.tpcc_rows.specs.NewOrder.{stock_after}
use Rattle.tpcc_new_order.specs.Internal.Supplied.{numbers_of}
use Rattle.tpcc_new_order.specs.Internal.Tests.{overruns_with}
use Rattle.tpcc_new_order.proofs.OrderLines.{no_line, overruns_more}
use Rattle.tpcc_new_order.proofs.reading.ranges.overruns_after.Goals as goal

pub loop-line-preserved : goal.loop-line-preserved
loop-line-preserved c =
    record {
      over = c.with_line-over.ensures
          ∙ (λ i. overruns_with (c.loop-line.invariant.over i) (numbers_of (stock_after c.args.home c.args.lines.now (stock_at c.args.tables.now.rows (get_or c.args.lines.now c.loop-line.line-index no_line).supply (get_or c.args.lines.now c.loop-line.line-index no_line).item))))
          ∙ overruns_more (λ (x : Line). stock_after c.args.home c.args.lines.now (stock_at c.args.tables.now.rows x.supply x.item)) c.args.lines.now c.loop-line.line-index c.loop-line-test.true;
    }
