use Rattle.std.proofs.Common.{◌≡◌, ◌∙◌, ◌-◌, ap, arith, length, map, filter}
use Rattle.std.specs.Prelude.{◌&&◌, nat_lt}
use Rattle.std.specs.List.{list_any}
use Rattle.tpcc_rows.specs.Lists.{distinct}
use Rattle.tpcc_rows.specs.Lookups.{is_low}
use Rattle.tpcc_rows.specs.Tables.{is_stock}
use Rattle.tpcc_storage.specs.Runs.{is_line_between}
use Rattle.tpcc_tables.specs.TablesView.{TablesView}
use Rattle.tpcc_tables.specs.Internal.View.{rows_of}
use Rattle.tpcc_tables.proofs.Line.{between_chosen, few_recent, lines_between}
use Rattle.tpcc_tables.proofs.tables.Tables.low_stock.Goals as goal

pub count_short-requires-clause-few : goal.count_short-requires-clause-few
count_short-requires-clause-few c =
    let rows = rows_of c.self.inside in
    let w = c.args.warehouse in
    let d = c.args.district in
    let next = c.args.next in
    let chosen : c.lines_between-lines.result.now ≡ lines_between rows w d (next - 20) next = c.lines_between-lines.ensures ∙ (λ i. filter (is_line_between w d (c.saturating_sub-first.ensures i) next) rows.order_lines) ∙ between_chosen rows w d (next - 20) next in
    omega (arith, ap length chosen, few_recent rows w d next c.self.invariant.well_keyed)

pub returns : goal.returns
returns c =
    let rows = rows_of c.self.inside in
    let w = c.args.warehouse in
    let d = c.args.district in
    let next = c.args.next in
    let chosen : c.lines_between-lines.result.now ≡ lines_between rows w d (next - 20) next = c.lines_between-lines.ensures ∙ (λ i. filter (is_line_between w d (c.saturating_sub-first.ensures i) next) rows.order_lines) ∙ between_chosen rows w d (next - 20) next in
    record {
      count = c.count_short.ensures
          ∙ (λ i. length (filter (λ item. list_any (λ s. is_stock w item s && nat_lt s.quantity c.args.threshold) rows.stocks) (distinct (map (λ l. l.item) (chosen i)))))
          ∙ ap (λ (t : TablesView). length (filter (is_low t.rows w c.args.threshold) (distinct (map (λ l. l.item) (lines_between t.rows w d (next - 20) next))))) c.self.view_is;
    }
