use Rattle.std.proofs.Common.{◌∙◌, ap, arith, List, length}
use Rattle.tpcc_laws.proofs.Numbers.{is_in}
use Rattle.tpcc_tables.proofs.Enter.{order_is}
use Rattle.tpcc_rows.specs.declared.tables.rows.OrderLineRow.{OrderLineRow}
use Rattle.tpcc_new_order.proofs.Preparations.{few_lines, lines_length, number_shown, written_is}
use Rattle.tpcc_new_order.proofs.writing.rows.write_order.Goals as goal
use Rattle.tpcc_money.specs.declared.moment.TheConstants.Moment.{LAST_SECOND}
use Rattle.tpcc_rows.specs.NewOrder.{order_row_from}

pub order_row-requires : goal.order_row-requires
order_row-requires c = record { few = few_lines c.args.tables.now.rows c.args.order.now c.requires.accepted }

pub append_order-requires-clause-room : goal.append_order-requires-clause-room
append_order-requires-clause-room c =
    let lines = c.as_slice.ensures.items ∙ c.show_order-shown.ensures.rows in
    let long = ap (λ (ls : List OrderLineRow). length ls) lines ∙ lines_length c.args.tables.now.rows c.args.order.now 1 c.args.order.now.lines in
    omega (arith, long, c.requires.room)

pub append_order-requires-clause-order : goal.append_order-requires-clause-order
append_order-requires-clause-order c =
    let rows = c.args.tables.now.rows in
    let o = c.args.order.now in
    let moment = is_in 0 LAST_SECOND o.moment (omega arith) (omega (arith, c.seconds.ensures.range)) in (
      o,
      written_is rows o c.order_row.result c.as_slice.result.now c.requires.stocked c.requires.accepted c.requires.entered moment
          (c.order_row.ensures ∙ (λ i. order_row_from (number_shown rows o c.show_order-shown.result c.show_order-shown.ensures.reply i) o))
          (c.as_slice.ensures.items ∙ c.show_order-shown.ensures.rows),
    )

pub returns-clause-rows : goal.returns-clause-rows
returns-clause-rows c =
    let rows = c.args.tables.now.rows in
    let o = c.args.order.now in
    let moment = is_in 0 LAST_SECOND o.moment (omega arith) (omega (arith, c.seconds.ensures.range)) in
    let written =
    written_is rows o c.order_row.result c.as_slice.result.now c.requires.stocked c.requires.accepted c.requires.entered moment
    (c.order_row.ensures ∙ (λ i. order_row_from (number_shown rows o c.show_order-shown.result c.show_order-shown.ensures.reply i) o))
    (c.as_slice.ensures.items ∙ c.show_order-shown.ensures.rows) in
    c.append_order.ensures.rows ∙ order_is rows c.order_row.result c.as_slice.result.now o written
