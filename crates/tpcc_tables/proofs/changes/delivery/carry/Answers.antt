use Rattle.std.proofs.Common.{◌≡◌, ◌∙◌, sym, [], ◌∷◌, find, Some}
use Rattle.tpcc_rows.specs.Tables.{is_order, order_key}
use Rattle.tpcc_laws.proofs.DeliveryKeeps.{with_carrier}
use Rattle.tpcc_storage.specs.Searches.{is_same_key}
use Rattle.tpcc_storage.proofs.Halves.{same_find}
use Rattle.tpcc_storage.proofs.Change.{replaced, same_updated, same_key_is, found_passes, unfound_updated}
use Rattle.tpcc_tables.proofs.KeyTests.{order_test, orders_apart}
use Rattle.tpcc_tables.proofs.changes.delivery.carry.Goals as goal

pub replace-requires-clause-key : goal.replace-requires-clause-key
replace-requires-clause-key c =
    same_key_is (order_key c.in-Some.row) (c.args.warehouse ∷ c.args.district ∷ c.args.order ∷ [])
    (found_passes (λ row. is_same_key (order_key row) (c.args.warehouse ∷ c.args.district ∷ c.args.order ∷ [])) c.args.rows.now.rows c.in-Some.row (sym c.find.ensures ∙ sym c.copied.ensures ∙ c.in-Some.is))

pub returns-in-Some-clause-rows : goal.returns-in-Some-clause-rows
returns-in-Some-clause-rows c =
    let test = order_test c.args.warehouse c.args.district c.args.order in
    let passes = is_order c.args.warehouse c.args.district c.args.order in
    let found : find passes c.args.rows.now.rows ≡ Some c.in-Some.row = sym (same_find (λ row. is_same_key (order_key row) (c.args.warehouse ∷ c.args.district ∷ c.args.order ∷ [])) passes test c.args.rows.now.rows) ∙ sym c.find.ensures ∙ sym c.copied.ensures ∙ c.in-Some.is in
    c.replace.ensures.rows
    ∙ same_updated (λ row. is_same_key (order_key row) (c.args.warehouse ∷ c.args.district ∷ c.args.order ∷ [])) passes (λ row. with_carrier c.args.carrier c.in-Some.row) test c.args.rows.now.rows
    ∙ replaced order_key passes (orders_apart c.args.warehouse c.args.district c.args.order) (with_carrier c.args.carrier) c.args.rows.now.rows c.in-Some.row c.requires.keyed found

pub returns-in_default-clause-rows : goal.returns-in_default-clause-rows
returns-in_default-clause-rows c =
    unfound_updated (is_order c.args.warehouse c.args.district c.args.order) (with_carrier c.args.carrier) c.args.rows.now.rows
    (sym (same_find (λ row. is_same_key (order_key row) (c.args.warehouse ∷ c.args.district ∷ c.args.order ∷ [])) (is_order c.args.warehouse c.args.district c.args.order) (order_test c.args.warehouse c.args.district c.args.order) c.args.rows.now.rows) ∙ sym c.find.ensures ∙ sym c.copied.ensures ∙ c.in_default.is)
