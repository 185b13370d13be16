use Rattle.std.proofs.Common.{◌≡◌, ◌∙◌, ◌∷◌, ◌-◌, [], ap, sym, arith, Some, None, slice_get}
use Rattle.std.specs.Prelude.{position}
use Rattle.tpcc_rows.specs.declared.tables.rows.NewOrderRow.{NewOrderRow}
use Rattle.tpcc_rows.specs.Lists.{is_ascending}
use Rattle.tpcc_rows.specs.Tables.{new_order_key}
use Rattle.tpcc_storage.specs.Internal.OrderRange.{later}
use Rattle.tpcc_storage.specs.Searches.{is_same_key}
use Rattle.tpcc_storage.proofs.Halves.{guessed_there}
use Rattle.tpcc_storage.proofs.Range.{get_range, nowhere, range_rises}
use Rattle.tpcc_storage.proofs.by_district.range.OrderRange.place_of.Goals as goal

pub returns-then-key-self : goal.returns-then-key-self
returns-then-key-self c =
    let key = c.args.key.now in
    nowhere c.self.inside.first (c.self.inside.next - c.self.inside.first.order) key.warehouse key.district key.order (λ i lt same. absurd (omega (arith, same)))
    ∙ ap (position (λ row. is_same_key (new_order_key row) (key.warehouse ∷ key.district ∷ key.order ∷ []))) c.self.view_is

pub returns-in_err-row : goal.returns-in_err-row
returns-in_err-row c =
    let key = c.args.key.now in
    let first = c.self.inside.first in
    c.from_residual.ensures
    ∙ nowhere first (c.self.inside.next - first.order) key.warehouse key.district key.order (λ i lt same.
    let place : i ≡ c.args.key.now.order - c.self.inside.first.order = omega (arith, same) in
    let here : slice_get c.args.self.now (c.args.key.now.order - c.self.inside.first.order) ≡ Some (later first i) = ap (λ n. slice_get c.args.self.now n) (sym place) ∙ ap (λ rows. slice_get rows i) (sym c.self.view_is) ∙ get_range first (c.self.inside.next - first.order) i lt in
    let none : slice_get c.args.self.now (c.args.key.now.order - c.self.inside.first.order) ≡ None = sym c.get.ensures ∙ c.in_err-row.was in
    cc)
    ∙ ap (position (λ row. is_same_key (new_order_key row) (key.warehouse ∷ key.district ∷ key.order ∷ []))) c.self.view_is

pub returns-then-has_key : goal.returns-then-has_key
returns-then-has_key c =
    let k = c.args.key.now.warehouse ∷ c.args.key.now.district ∷ c.args.key.now.order ∷ [] in
    guessed_there new_order_key k c.args.self.now (c.args.key.now.order - c.self.inside.first.order) c.in_ok-row.row
    (ap (is_ascending new_order_key) (sym c.self.view_is) ∙ range_rises c.self.inside.first (c.self.inside.next - c.self.inside.first.order))
    (sym c.get.ensures ∙ c.in_ok-row.was) (sym c.has_key.ensures ∙ c.if-has_key.true)

pub returns : goal.returns
returns c =
    let key = c.args.key.now in
    let first = c.self.inside.first in
    nowhere first (c.self.inside.next - first.order) key.warehouse key.district key.order (λ i lt same.
    let place : i ≡ c.args.key.now.order - c.self.inside.first.order = omega (arith, same) in
    let here : slice_get c.args.self.now (c.args.key.now.order - c.self.inside.first.order) ≡ Some (later first i) = ap (λ n. slice_get c.args.self.now n) (sym place) ∙ ap (λ rows. slice_get rows i) (sym c.self.view_is) ∙ get_range first (c.self.inside.next - first.order) i lt in
    let there : slice_get c.args.self.now (c.args.key.now.order - c.self.inside.first.order) ≡ Some c.in_ok-row.row = sym c.get.ensures ∙ c.in_ok-row.was in
    let one : c.in_ok-row.row ≡ later first i = cc in
    ap (λ (row : NewOrderRow). is_same_key (new_order_key row) (key.warehouse ∷ key.district ∷ key.order ∷ [])) (sym one) ∙ sym c.has_key.ensures ∙ c.if-has_key.false)
    ∙ ap (position (λ row. is_same_key (new_order_key row) (key.warehouse ∷ key.district ∷ key.order ∷ []))) c.self.view_is
