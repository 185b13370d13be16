-- A delivery keeps keys and references.
use Rattle.std.proofs.Common.{◌≡◌, ℕ, Bool, true, List, [], ◌∷◌, refl, ◌∙◌, arith}
use Rattle.std.specs.Prelude.{◌&&◌, filter, not, is_some}
use Rattle.std.specs.List.{list_all}
use Rattle.tpcc_rows.specs.Lists.{key_before, is_ascending}
use Rattle.tpcc_rows.specs.Tables.{Rows, order_key, order_line_key, new_order_key, customer_key, is_order, is_line_of, is_new_order, is_customer, order_at, find_customer, find_district, find_order, find_stock}
use Rattle.tpcc_rows.specs.WellKeyed.{IsKeyed, HasParents, has_district, has_payer, has_customer, has_order, has_order_and_stock, is_numbered_below_next}
use Rattle.tpcc_rows.specs.Delivery.{after_delivery, delivered_customer, order_amount}
use Rattle.tpcc_laws.proofs.List.{ascending-updated, found-updated, list_all-mono, list_all-updated}
use Rattle.tpcc_laws.proofs.DeliveryKeeps.{with_carrier, with_delivery_date}

pub list_all-filter : {X : Type 0} (test q : X → Bool) (xs : List X) → list_all test xs ≡ true → list_all test (filter q xs) ≡ true
list_all-filter test q [] h = refl
list_all-filter test q (x ∷ xs) h = grind (arith, list_all-filter test q xs)

pub ascending-filter : {X : Type 0} (key : X → List ℕ) (q : X → Bool) (xs : List X) → is_ascending key xs ≡ true → is_ascending key (filter q xs) ≡ true
ascending-filter key q [] h = refl
ascending-filter key q (x ∷ xs) h = grind (arith, ascending-filter key q xs, list_all-filter (λ later. key_before (key x) (key later)) q xs)

pub delivery_is_keyed : (rows : Rows) (W D o carrier at : ℕ) → IsKeyed rows → IsKeyed (after_delivery rows W D o carrier at)
unfolding after_delivery
delivery_is_keyed rows W D o carrier at keyed =
    record {
      warehouses = keyed.warehouses;
      districts = keyed.districts;
      customers = ascending-updated customer_key (is_customer W D (order_at rows W D o).customer) (delivered_customer (order_amount rows W D o)) (λ c. refl) rows.customers ∙ keyed.customers;
      orders = ascending-updated order_key (is_order W D o) (with_carrier carrier) (λ r. refl) rows.orders ∙ keyed.orders;
      order_lines = ascending-updated order_line_key (is_line_of W D o) (with_delivery_date at) (λ l. refl) rows.order_lines ∙ keyed.order_lines;
      new_orders = ascending-filter new_order_key (λ n. not (is_new_order W D o n)) rows.new_orders keyed.new_orders;
      items = keyed.items;
      stocks = keyed.stocks;
    }

same_customers : (rows : Rows) (W D o carrier at w d k : ℕ) → is_some (find_customer (after_delivery rows W D o carrier at) w d k) ≡ is_some (find_customer rows w d k)
unfolding after_delivery
same_customers rows W D o carrier at w d k =
    found-updated (is_customer w d k) (is_customer W D (order_at rows W D o).customer) (delivered_customer (order_amount rows W D o)) (λ c e. refl) rows.customers

same_orders : (rows : Rows) (W D o carrier at w d k : ℕ) → is_some (find_order (after_delivery rows W D o carrier at) w d k) ≡ is_some (find_order rows w d k)
unfolding after_delivery
same_orders rows W D o carrier at w d k = found-updated (is_order w d k) (is_order W D o) (with_carrier carrier) (λ r e. refl) rows.orders

pub delivery_has_parents : (rows : Rows) (W D o carrier at : ℕ) → HasParents rows → HasParents (after_delivery rows W D o carrier at)
unfolding after_delivery
delivery_has_parents rows W D o carrier at h =
    let after = after_delivery rows W D o carrier at in
    record {
      districts = h.districts;
      customers = list_all-updated (has_district rows) (has_district after) (is_customer W D (order_at rows W D o).customer) (delivered_customer (order_amount rows W D o)) (λ c k other. k) (λ c k this. k) rows.customers h.customers;
      histories = list_all-mono (has_payer rows) (has_payer after) (λ x k. (λ i. same_customers rows W D o carrier at x.customer_warehouse x.customer_district x.customer i && is_some (find_district rows x.warehouse x.district)) ∙ k) rows.histories h.histories;
      orders = list_all-updated (has_customer rows) (has_customer after) (is_order W D o) (with_carrier carrier) (λ r k other. same_customers rows W D o carrier at r.warehouse r.district r.customer ∙ k) (λ r k this. same_customers rows W D o carrier at r.warehouse r.district r.customer ∙ k) rows.orders h.orders;
      order_lines = list_all-updated (has_order_and_stock rows) (has_order_and_stock after) (is_line_of W D o) (with_delivery_date at) (λ l k other. (λ i. same_orders rows W D o carrier at l.warehouse l.district l.order i && is_some (find_stock rows l.supply l.item)) ∙ k) (λ l k this. (λ i. same_orders rows W D o carrier at l.warehouse l.district l.order i && is_some (find_stock rows l.supply l.item)) ∙ k) rows.order_lines h.order_lines;
      new_orders = list_all-mono (has_order rows) (has_order after) (λ n k. same_orders rows W D o carrier at n.warehouse n.district n.order ∙ k) (filter (λ n. not (is_new_order W D o n)) rows.new_orders) (list_all-filter (has_order rows) (λ n. not (is_new_order W D o n)) rows.new_orders h.new_orders);
      stocks = h.stocks;
      numbers = list_all-updated (is_numbered_below_next rows) (is_numbered_below_next after) (is_order W D o) (with_carrier carrier) (λ r k other. k) (λ r k this. k) rows.orders h.numbers;
    }
