use Rattle.std.proofs.Common.{◌∙◌, ◌<◌, length, refl, sym, ap, subst}
use Rattle.tpcc_rows.specs.WellKeyed.{IsWellKeyed}
use Rattle.tpcc_rows.specs.Tables.{Rows, is_district}
use Rattle.tpcc_rows.specs.NewOrder.{with_next_order}
use Rattle.tpcc_tables.specs.TablesView.{TablesView}
use Rattle.tpcc_tables.proofs.Ready.{ready-updated, ready-kept, keeps-same, parted}
use Rattle.tpcc_tables.specs.Internal.Sums.{AreSums}
use Rattle.tpcc_tables.proofs.SumRanges.{held_grow}
use Rattle.tpcc_tables.proofs.SumWrites.{order_entered, entered_lines}
use Rattle.tpcc_tables.specs.Internal.View.{rows_of}
use Rattle.tpcc_tables.specs.Writes.{IsOrder, with_entered_order}
use Rattle.tpcc_tables.proofs.Supplies.{near_starts}
use Rattle.tpcc_tables.proofs.Enter.{district_fits, enterable, entered_is_well_keyed, lines_in_order, written_rows, owned}
use Rattle.tpcc_tables.proofs.tables.Tables.append_order.Goals as goal

pub raise_next_order-requires-clause-fits : goal.raise_next_order-requires-clause-fits
raise_next_order-requires-clause-fits c = district_fits (rows_of c.self.inside) c.args.order.warehouse c.args.order.district c.self.invariant.well_keyed.ranges

pub supply-requires-clause-near : goal.supply-requires-clause-near
supply-requires-clause-near c = near_starts c.self.inside.stocks.items c.self.invariant.well_keyed.ranges.stocks

pub supply-requires-clause-few : goal.supply-requires-clause-few
supply-requires-clause-few c =
    let known = enterable (rows_of c.self.inside) c.args.order c.args.lines.now (subst (λ (t : TablesView). IsOrder t.rows c.args.order c.args.lines.now) (sym c.self.view_is) c.requires.order) in
    known.few

pub supply-requires-clause-quantities : goal.supply-requires-clause-quantities
supply-requires-clause-quantities c =
    let known = enterable (rows_of c.self.inside) c.args.order c.args.lines.now (subst (λ (t : TablesView). IsOrder t.rows c.args.order c.args.lines.now) (sym c.self.view_is) c.requires.order) in
    known.quantities

pub append_all-requires-clause-keyed : goal.append_all-requires-clause-keyed
append_all-requires-clause-keyed c =
    lines_in_order (rows_of c.self.inside) c.args.order c.args.lines.now (subst (λ (t : TablesView). IsOrder t.rows c.args.order c.args.lines.now) (sym c.self.view_is) c.requires.order) c.self.invariant.well_keyed

pub invariant_of-self : goal.invariant_of-self
invariant_of-self c =
    let written = written_rows (rows_of c.self.inside) c.args.order c.args.lines.now c.args.lines.now c.raise_next_order.new.rows.items c.append-2.new.self.rows c.append_all.new.self.rows c.append.new.self.rows c.supply.new.rows.items
    refl c.raise_next_order.ensures c.append-2.ensures.rows c.append_all.ensures.rows c.append.ensures.rows c.supply.ensures in
    record {
      well_keyed = subst IsWellKeyed (sym written) (entered_is_well_keyed (rows_of c.self.inside) c.args.order c.args.lines.now (subst (λ (t : TablesView). IsOrder t.rows c.args.order c.args.lines.now) (sym c.self.view_is) c.requires.order) c.self.invariant.well_keyed);
      names = c.self.invariant.names;
      sums = subst (λ (rows : Rows). AreSums rows c.enter.new.self) (sym written) (order_entered (rows_of c.self.inside) c.args.order c.args.lines.now c.new.result c.self.inside.sums c.enter.new.self (subst (λ (t : TablesView). IsOrder t.rows c.args.order c.args.lines.now) (sym c.self.view_is) c.requires.order) c.self.invariant.well_keyed.parents c.new.ensures c.self.invariant.sums c.enter.ensures);
      ready = rw c.raise_next_order.ensures (ready-updated c.self.inside.are_open 0 (is_district c.args.order.warehouse c.args.order.district) with_next_order c.self.inside.districts.items c.append-2.new.self c.append_all.new.self c.append.new.self (λ d. refl)
          (ready-kept c.self.inside.are_open c.self.inside.order_room c.self.inside.districts.items c.self.inside.orders c.append-2.new.self c.self.inside.order_lines c.append_all.new.self c.self.inside.new_orders c.append.new.self (keeps-same _ _ c.append-2.ensures.owners) (keeps-same _ _ c.append_all.ensures.owners) (keeps-same _ _ c.append.ensures.owners) c.self.invariant.ready));
      payments = c.self.invariant.payments;
    }

pub returns-clause-rows : goal.returns-clause-rows
returns-clause-rows c =
    written_rows (rows_of c.self.inside) c.args.order c.args.lines.now c.args.lines.now c.raise_next_order.new.rows.items c.append-2.new.self.rows c.append_all.new.self.rows c.append.new.self.rows c.supply.new.rows.items
    refl c.raise_next_order.ensures c.append-2.ensures.rows c.append_all.ensures.rows c.append.ensures.rows c.supply.ensures
    ∙ ap (λ (t : TablesView). with_entered_order t.rows c.args.order c.args.lines.now) c.self.view_is

pub append_all-requires-clause-owners : goal.append_all-requires-clause-owners
append_all-requires-clause-owners c =
    let room = subst (λ (t : TablesView). length c.args.lines.now < t.order_room) (sym c.self.view_is) c.requires.room in
    let parts = parted c.self.inside.are_open c.self.inside.order_room (length c.args.lines.now) c.self.inside.districts.items c.self.inside.orders c.self.inside.order_lines c.self.inside.new_orders c.self.invariant.ready room in
    (owned c.self.inside.order_lines.owners (rows_of c.self.inside) c.args.order c.args.lines.now (subst (λ (t : TablesView). IsOrder t.rows c.args.order c.args.lines.now) (sym c.self.view_is) c.requires.order) parts.lines).lines_are

pub append-requires-clause-owner : goal.append-requires-clause-owner
append-requires-clause-owner c =
    let room = subst (λ (t : TablesView). length c.args.lines.now < t.order_room) (sym c.self.view_is) c.requires.room in
    let parts = parted c.self.inside.are_open c.self.inside.order_room (length c.args.lines.now) c.self.inside.districts.items c.self.inside.orders c.self.inside.order_lines c.self.inside.new_orders c.self.invariant.ready room in
    (owned c.self.inside.new_orders.owners (rows_of c.self.inside) c.args.order c.args.lines.now (subst (λ (t : TablesView). IsOrder t.rows c.args.order c.args.lines.now) (sym c.self.view_is) c.requires.order) parts.news).news

pub append-requires-2-clause-owner : goal.append-requires-2-clause-owner
append-requires-2-clause-owner c =
    let room = subst (λ (t : TablesView). length c.args.lines.now < t.order_room) (sym c.self.view_is) c.requires.room in
    let parts = parted c.self.inside.are_open c.self.inside.order_room (length c.args.lines.now) c.self.inside.districts.items c.self.inside.orders c.self.inside.order_lines c.self.inside.new_orders c.self.invariant.ready room in
    (owned c.self.inside.orders.owners (rows_of c.self.inside) c.args.order c.args.lines.now (subst (λ (t : TablesView). IsOrder t.rows c.args.order c.args.lines.now) (sym c.self.view_is) c.requires.order) parts.orders).order

pub enter-requires-clause-room : goal.enter-requires-clause-room
enter-requires-clause-room c = held_grow c.self.inside c.self.invariant

pub enter-requires-clause-lines : goal.enter-requires-clause-lines
enter-requires-clause-lines c = entered_lines (rows_of c.self.inside) c.args.order c.args.lines.now (subst (λ (t : TablesView). IsOrder t.rows c.args.order c.args.lines.now) (sym c.self.view_is) c.requires.order) c.self.invariant.well_keyed
