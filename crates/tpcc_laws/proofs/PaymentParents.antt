-- A payment keeps keys and references.
use Rattle.std.proofs.Common.{◌≡◌, ℕ, Bool, true, false, List, [], ◌∷◌, refl, ◌∙◌, arith}
use Rattle.std.specs.Prelude.{◌&&◌, nat_lt, is_some, find, unwrap_or}
use Rattle.std.specs.List.{list_all}
use Rattle.std.proofs.lemmas.List.Folds.{list_all-append}
use Rattle.tpcc_rows.specs.declared.transactions.requests.Payment.{Payment}
use Rattle.tpcc_rows.specs.Lists.{updated}
use Rattle.tpcc_rows.specs.Tables.{Rows, is_warehouse, is_district, is_customer, warehouse_key, district_key, customer_key, find_warehouse, find_item, find_customer, find_district, no_district, district_at}
use Rattle.tpcc_rows.specs.WellKeyed.{IsKeyed, HasParents, has_warehouse, has_district, has_payer, has_customer, has_warehouse_and_item, is_numbered_below_next}
use Rattle.tpcc_rows.specs.Payment.{after_payment, paid_warehouse, paid_district, paid_customer, payment_history, paying_customer}
use Rattle.tpcc_laws.proofs.List.{ascending-updated, found-updated, list_all-mono, list_all-updated}

-- a column that an update leaves, of the row that a key names
pub column-updated : {X C : Type 0} (column : X → C) (q passes : X → Bool) (change : X → X) (none : X) → ((x : X) → (q (change x) ≡ q x) × (column (change x) ≡ column x)) → (xs : List X) → column (unwrap_or (find q (updated passes change xs)) none) ≡ column (unwrap_or (find q xs) none)
column-updated column q passes change none same [] = refl
column-updated column q passes change none same (x ∷ xs) = grind (arith, same x, column-updated column q passes change none same xs)

pub payment_is_keyed : (rows : Rows) (p : Payment) → IsKeyed rows → IsKeyed (after_payment rows p)
unfolding after_payment
payment_is_keyed rows p keyed =
    let c = paying_customer rows p in
    record {
      warehouses = ascending-updated warehouse_key (is_warehouse p.warehouse) (paid_warehouse p) (λ w. refl) rows.warehouses ∙ keyed.warehouses;
      districts = ascending-updated district_key (is_district p.warehouse p.district) (paid_district p) (λ d. refl) rows.districts ∙ keyed.districts;
      customers = ascending-updated customer_key (is_customer c.warehouse c.district c.id) (paid_customer p) (λ c. refl) rows.customers ∙ keyed.customers;
      orders = keyed.orders;
      order_lines = keyed.order_lines;
      new_orders = keyed.new_orders;
      items = keyed.items;
      stocks = keyed.stocks;
    }

both_true : (a b : Bool) → a ≡ true → b ≡ true → (a && b) ≡ true
both_true true b e f = f
both_true false b e f = e

-- the same rows are found after a payment
warehouse_found : (rows : Rows) (p : Payment) (w : ℕ) → is_some (find_warehouse (after_payment rows p) w) ≡ is_some (find_warehouse rows w)
unfolding after_payment
warehouse_found rows p w = found-updated (is_warehouse w) (is_warehouse p.warehouse) (paid_warehouse p) (λ x e. refl) rows.warehouses

district_found : (rows : Rows) (p : Payment) (w d : ℕ) → is_some (find_district (after_payment rows p) w d) ≡ is_some (find_district rows w d)
unfolding after_payment
district_found rows p w d = found-updated (is_district w d) (is_district p.warehouse p.district) (paid_district p) (λ x e. refl) rows.districts

customer_found : (rows : Rows) (p : Payment) (w d k : ℕ) → is_some (find_customer (after_payment rows p) w d k) ≡ is_some (find_customer rows w d k)
unfolding after_payment
customer_found rows p w d k =
    let c = paying_customer rows p in found-updated (is_customer w d k) (is_customer c.warehouse c.district c.id) (paid_customer p) (λ x e. refl) rows.customers

next_same : (rows : Rows) (p : Payment) (w d : ℕ) → (district_at (after_payment rows p) w d).next_order ≡ (district_at rows w d).next_order
unfolding after_payment
next_same rows p w d = column-updated (λ d. d.next_order) (is_district w d) (is_district p.warehouse p.district) (paid_district p) no_district (λ x. (refl, refl)) rows.districts

-- where the paying customer and the district exist
pub payment_has_parents : (rows : Rows) (p : Payment) → is_some (find_customer rows (paying_customer rows p).warehouse (paying_customer rows p).district (paying_customer rows p).id) ≡ true → is_some (find_district rows p.warehouse p.district) ≡ true → HasParents rows → HasParents (after_payment rows p)
unfolding after_payment
payment_has_parents rows p payer district h =
    let c = paying_customer rows p in
    let old : list_all (has_payer (after_payment rows p)) rows.histories ≡ true =
    list_all-mono (has_payer rows) (has_payer (after_payment rows p)) (λ x k. (λ i. customer_found rows p x.customer_warehouse x.customer_district x.customer i && district_found rows p x.warehouse x.district i) ∙ k) rows.histories h.histories in
    let new : has_payer (after_payment rows p) (payment_history rows p c) ≡ true =
    both_true _ _ (customer_found rows p c.warehouse c.district c.id ∙ payer) (district_found rows p p.warehouse p.district ∙ district) in
    record {
      districts = list_all-updated (has_warehouse rows) (has_warehouse (after_payment rows p)) (is_district p.warehouse p.district) (paid_district p) (λ d k other. warehouse_found rows p d.warehouse ∙ k) (λ d k this. warehouse_found rows p d.warehouse ∙ k) rows.districts h.districts;
      customers = list_all-updated (has_district rows) (has_district (after_payment rows p)) (is_customer c.warehouse c.district c.id) (paid_customer p) (λ c k other. district_found rows p c.warehouse c.district ∙ k) (λ c k this. district_found rows p c.warehouse c.district ∙ k) rows.customers h.customers;
      histories = list_all-append (has_payer (after_payment rows p)) rows.histories (payment_history rows p c ∷ []) ∙ (λ i. old i && (new i && true));
      orders = list_all-mono (has_customer rows) (has_customer (after_payment rows p)) (λ o k. customer_found rows p o.warehouse o.district o.customer ∙ k) rows.orders h.orders;
      order_lines = h.order_lines;
      new_orders = h.new_orders;
      stocks = list_all-mono (has_warehouse_and_item rows) (has_warehouse_and_item (after_payment rows p)) (λ s k. (λ i. warehouse_found rows p s.warehouse i && is_some (find_item rows s.item)) ∙ k) rows.stocks h.stocks;
      numbers = list_all-mono (is_numbered_below_next rows) (is_numbered_below_next (after_payment rows p)) (λ o k. (λ i. nat_lt o.id (next_same rows p o.warehouse o.district i)) ∙ k) rows.orders h.numbers;
    }
