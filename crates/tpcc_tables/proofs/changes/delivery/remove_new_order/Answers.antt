use Rattle.std.proofs.Common.{◌∙◌, [], ◌∷◌}
use Rattle.tpcc_rows.specs.Tables.{is_new_order, new_order_key}
use Rattle.tpcc_storage.specs.Searches.{is_same_key}
use Rattle.tpcc_storage.proofs.Change.{same_filter}
use Rattle.tpcc_tables.proofs.KeyTests.{new_order_test}
use Rattle.std.specs.Prelude.{not}
use Rattle.tpcc_tables.proofs.changes.delivery.remove_new_order.Goals as goal

pub returns-clause-removed : goal.returns-clause-removed
returns-clause-removed c =
    c.remove.ensures.rows
    ∙ same_filter (λ row. not (is_same_key (new_order_key row) (c.args.warehouse ∷ c.args.district ∷ c.args.order ∷ []))) (λ row. not (is_new_order c.args.warehouse c.args.district c.args.order row)) (λ row i. not (new_order_test c.args.warehouse c.args.district c.args.order row i)) c.args.rows.now.rows
