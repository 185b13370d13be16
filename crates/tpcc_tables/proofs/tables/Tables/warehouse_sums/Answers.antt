use Rattle.std.proofs.Common.{ap, ◌∙◌, [], ◌∷◌}
use Rattle.std.specs.Prelude.{unwrap_or, find}
use Rattle.tpcc_rows.specs.declared.tables.rows.WarehouseRow.{WarehouseRow}
use Rattle.tpcc_tables.specs.TablesView.{TablesView}
use Rattle.tpcc_tables.specs.Internal.Sums.{warehouse_sums, warehouse_sums_key, no_warehouse_sums, has_key}
use Rattle.tpcc_tables.specs.Internal.View.{rows_of}
use Rattle.tpcc_tables.proofs.SumEntries.{warehouse_found}
use Rattle.tpcc_tables.proofs.Sum.{in_order}
use Rattle.tpcc_tables.proofs.tables.Tables.warehouse_sums.Goals as goal

pub of_warehouse-requires : goal.of_warehouse-requires
of_warehouse-requires c =
    let rows = rows_of c.self.inside in
    record { keyed = in_order (λ (x : WarehouseRow). warehouse_sums rows x.id) warehouse_sums_key c.as_slice.result.now rows.warehouses (c.as_slice.ensures.value ∙ c.self.invariant.sums.warehouses) c.self.invariant.well_keyed.keyed.warehouses }

pub returns : goal.returns
returns c =
    c.of_warehouse.ensures
    ∙ ap (λ es. unwrap_or (find (has_key warehouse_sums_key (c.args.warehouse ∷ [])) es) (no_warehouse_sums c.args.warehouse)) c.as_slice.ensures.value
    ∙ warehouse_found (rows_of c.self.inside) c.self.invariant.well_keyed.parents c.self.inside.sums c.args.warehouse c.self.invariant.sums
    ∙ ap (λ (t : TablesView). warehouse_sums t.rows c.args.warehouse) c.self.view_is
