use Rattle.std.proofs.Common.{◌∙◌, sym, [], ◌∷◌}
use Rattle.tpcc_rows.specs.declared.tables.rows.StockRow.{StockRow}
use Rattle.tpcc_rows.specs.Tables.{stock_key}
use Rattle.tpcc_rows.specs.NewOrder.{stock_after_line}
use Rattle.tpcc_storage.specs.Searches.{is_same_key}
use Rattle.tpcc_storage.proofs.Halves.{same_find}
use Rattle.tpcc_storage.proofs.Change.{same_updated}
use Rattle.tpcc_tables.specs.Writes.{line_of}
use Rattle.tpcc_tables.specs.Internal.Supplies.{is_supplied_by}
use Rattle.tpcc_tables.proofs.Supplies.{supply_test}
use Rattle.tpcc_tables.proofs.changes.supply.supply_line.Goals as goal

pub change-requires-clause-fits : goal.change-requires-clause-fits
change-requires-clause-fits c =
    λ row found. record {
      small = c.requires.quantity;
      room = c.requires.room row (sym (same_find (λ row. is_same_key (stock_key row) (c.args.line.now.supply ∷ c.args.line.now.item ∷ [])) (is_supplied_by (line_of c.args.line.now)) (supply_test (line_of c.args.line.now)) c.args.rows.now.items) ∙ found);
    }

pub returns : goal.returns
returns c =
    c.change.ensures
    ∙ same_updated (λ row. is_same_key (stock_key row) (c.args.line.now.supply ∷ c.args.line.now.item ∷ [])) (is_supplied_by (line_of c.args.line.now)) (λ (s : StockRow). stock_after_line c.args.home s (line_of c.args.line.now)) (supply_test (line_of c.args.line.now)) c.args.rows.now.items
