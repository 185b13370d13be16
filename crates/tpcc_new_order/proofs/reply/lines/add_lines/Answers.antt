use Rattle.std.proofs.Common.{◌∙◌, sym, ap, arith, ◌++◌, ◌∷◌, [], ℕ, ◌+◌, List, length, length-append, get_or}
use Rattle.std.specs.Prelude.{◌+ℤ◌}
use Rattle.std.specs.List.{list_all}
use Rattle.std.proofs.lemmas.Int.{ints}
use Rattle.tpcc_rows.specs.Ranges.{is_within}
use Rattle.tpcc_rows.specs.declared.transactions.requests.Line.{Line}
use Rattle.tpcc_rows.specs.NewOrder.{amount_of, entered_line, order_line_row, entered_line_from}
use Rattle.tpcc_new_order.specs.Internal.Prepares.{order_line_from}
use Rattle.tpcc_new_order.proofs.OrderLines.{no_line, numbered_more, quantities, total_more}
use Rattle.tpcc_new_order.proofs.reply.lines.add_lines.Goals as goal

pub entered_line-entered-requires-clause-quantities : goal.entered_line-entered-requires-clause-quantities
entered_line-entered-requires-clause-quantities c =
    ap (λ (ls : List Line). list_all (λ (l : Line). is_within 1 10 l.quantity) ls) (sym c.requires.lines) ∙ quantities c.args.tables.now.rows c.args.lines.now c.requires.servable.each

pub loop-index-preserved : goal.loop-index-preserved
loop-index-preserved c =
    let rows = c.args.tables.now.rows in
    let o = c.args.order.now in
    let lines = c.args.lines.now in
    let index = c.loop-index.index in
    let line = get_or lines index no_line in
    let shown = c.entered_line-entered.ensures.shown ∙ (λ i. entered_line_from o (index + 1) line (c.item_of.ensures.row i) (c.stock_of-stock.ensures.row i)) in
    let row = c.order_line.ensures ∙ (λ i. order_line_from o (c.requires.id i) (shown i) (c.stock_of-stock.ensures.row i)) in
    record {
      rows = c.push.ensures.pushed
          ∙ (λ i. c.loop-index.invariant.rows i ++ row i ∷ [])
          ∙ sym (numbered_more (λ (x : ℕ × Line). order_line_row rows o x.0 x.1) lines index c.loop-index-test.true);
      shown = c.push-in-loop-index.ensures.pushed
          ∙ (λ i. c.loop-index.invariant.shown i ++ shown i ∷ [])
          ∙ sym (numbered_more (λ (x : ℕ × Line). entered_line rows o x.0 x.1) lines index c.loop-index-test.true);
      sum = c.plus-sum.ensures ∙ (λ i. c.loop-index.invariant.sum i +ℤ (shown i).amount) ∙ sym (total_more (amount_of rows) lines index c.loop-index-test.true);
      count = ap length c.push.ensures.pushed ∙ length-append c.loop-index.rows (c.order_line.result ∷ []) ∙ ap (λ n. n + 1) c.loop-index.invariant.count;
      count_shown = ap length c.push-in-loop-index.ensures.pushed ∙ length-append c.loop-index.shown (c.entered_line-entered.result ∷ []) ∙ ap (λ n. n + 1) c.loop-index.invariant.count_shown;
      low = omega (arith, ints);
      high = omega (arith, ints);
    }
