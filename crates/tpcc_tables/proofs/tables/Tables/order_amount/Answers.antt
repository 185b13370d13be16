use Rattle.std.proofs.Common.{sym, subst, take, List}
use Rattle.std.specs.Prelude.{FitsSigned}
use Rattle.std.specs.Int.{w64}
use Rattle.tpcc_money.specs.Amounts.{total}
use Rattle.tpcc_rows.specs.declared.tables.rows.OrderLineRow.{OrderLineRow}
use Rattle.tpcc_tables.proofs.DeliveryFacts.{amount_fits}
use Rattle.tpcc_tables.specs.Internal.View.{rows_of}
use Rattle.tpcc_tables.proofs.tables.Tables.order_amount.Goals as goal

pub amount-requires : goal.amount-requires
amount-requires c =
    record { fits = λ k. subst (λ (ls : List OrderLineRow). FitsSigned w64 (total (λ l. l.amount) (take k ls))) (sym c.lines_of.ensures) (amount_fits (rows_of c.self.inside) c.args.warehouse c.args.district c.args.order k c.self.invariant.well_keyed) }
