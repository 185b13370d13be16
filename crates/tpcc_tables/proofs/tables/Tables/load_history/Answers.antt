use Rattle.std.proofs.Common.{rules, sym, subst, ◌∙◌, ◌≡◌, None}
use Rattle.tpcc_tables.specs.TablesView.{TablesView}
use Rattle.tpcc_tables.specs.Internal.View.{rows_of}
use Rattle.tpcc_tables.specs.Loads.{history_fault}
use Rattle.tpcc_tables.proofs.Load.{loaded_history}
use Rattle.tpcc_tables.proofs.SumChanges.{paid}
use Rattle.tpcc_tables.proofs.SumRanges.{held_grow}
use Rattle.tpcc_tables.proofs.tables.Tables.load_history.Goals as goal

pub invariant_of-self-2 : goal.invariant_of-self-2
invariant_of-self-2 c =
    let fault = subst (λ (t : TablesView). history_fault t.rows c.args.row ≡ None) (sym c.self.view_is) (sym c.of_history.ensures ∙ c.in_default.is) in
    record {
      well_keyed = rw c.in_default-push.ensures.appended (loaded_history (rows_of c.self.inside) c.args.row fault c.self.invariant.well_keyed);
      names = c.self.invariant.names;
      sums = rw c.in_default-push.ensures.appended (paid (rows_of c.self.inside) c.args.row c.self.inside.sums c.pay.new.self c.self.invariant.sums c.pay.ensures);
      ready = c.self.invariant.ready;
      payments = search rules;
    }

pub pay-requires : goal.pay-requires
pay-requires c = held_grow c.self.inside c.self.invariant
