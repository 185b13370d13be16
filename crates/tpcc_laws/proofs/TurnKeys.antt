-- Each request that is not refused keeps keys, references and stock.
use Rattle.std.proofs.Common.{◌≡◌, ℕ, Bool, true, false, List, [], ◌∷◌, refl, sym, ◌∙◌, arith}
use Rattle.std.specs.Prelude.{◌&&◌, ◌==◌, ◌||◌, Option, Some, None, is_some, is_none, unwrap_or, if◌then◌else◌}
use Rattle.std.specs.List.{list_all, list_any}
use Rattle.std.proofs.lemmas.Bool.Decides.{nat_tests}
use Rattle.tpcc_rows.specs.declared.transactions.requests.Line.{Line}
use Rattle.tpcc_rows.specs.declared.transactions.requests.Order.{Order}
use Rattle.tpcc_rows.specs.declared.transactions.requests.Payment.{Payment}
use Rattle.tpcc_rows.specs.declared.transactions.requests.QueuedTicket.{QueuedTicket}
use Rattle.tpcc_rows.specs.declared.transactions.requests.Request.{Request}
use Rattle.tpcc_rows.specs.declared.transactions.requests.Request.TheVariants as ask
use Rattle.tpcc_rows.specs.Tables.{Rows, State, is_warehouse, is_item, find_warehouse, find_district, find_customer, find_item, find_stock, no_customer}
use Rattle.tpcc_rows.specs.WellKeyed.{IsKeyed, HasParents, IsStocked}
use Rattle.tpcc_rows.specs.ChosenCustomer.{chosen_customer}
use Rattle.tpcc_rows.specs.NewOrder.{is_rolled_back, after_order, order_refusal, order_refusal_by_input, order_input_tests}
use Rattle.tpcc_rows.specs.Payment.{payment_refusal, payment_tests, after_payment, paying_customer, paid_warehouse}
use Rattle.tpcc_rows.specs.Delivery.{oldest_new_order, rows_after_district, after_delivery, state_after_run}
use Rattle.tpcc_rows.specs.Turn.{refusal, state_after}
use Rattle.tpcc_laws.proofs.List.{list_all-mono, list_all-updated}
use Rattle.tpcc_laws.proofs.Remove.{found_passes}
use Rattle.tpcc_laws.proofs.Chosen.{chosen_is_found}
use Rattle.tpcc_laws.proofs.PaymentParents.{payment_is_keyed, payment_has_parents}
use Rattle.tpcc_laws.proofs.OrderKeys.{order_is_keyed}
use Rattle.tpcc_laws.proofs.OrderParents.{order_has_parents, found_stock}
use Rattle.tpcc_laws.proofs.DeliveryKeys.{delivery_is_keyed, delivery_has_parents}
use Rattle.tpcc_laws.proofs.DeliveryKeeps.{some_of}
use Rattle.tpcc_laws.proofs.TurnKeeps.{all_false, some_if, neither, first_none, order_district}

pub record IsSound (rows : Rows) : Type 0 where
  pub keyed : IsKeyed rows
  pub parents : HasParents rows
  pub stocked : IsStocked rows

-- ---- Payment

pub payment_is_sound : (rows : Rows) (p : Payment) → payment_refusal rows p ≡ None → IsSound rows → IsSound (after_payment rows p)
unfolding payment_tests after_payment
payment_is_sound rows p e h =
    let tests = all_false (payment_tests rows p) e in
    let district : is_some (find_district rows p.warehouse p.district) ≡ true = some_if (find_district rows p.warehouse p.district) (neither (is_none (find_district rows p.warehouse p.district)) _ tests.1.0) in
    let chosen = some_of (chosen_customer rows p.customer_warehouse p.customer_district p.who) (some_if (chosen_customer rows p.customer_warehouse p.customer_district p.who) tests.1.1.0) in
    let is_payer : chosen.0 ≡ paying_customer rows p = λ i. unwrap_or (sym chosen.1 i) no_customer in
    let payer = (λ i. is_some (find_customer rows (sym is_payer i).warehouse (sym is_payer i).district (sym is_payer i).id)) ∙ chosen_is_found rows p.customer_warehouse p.customer_district p.who chosen.0 chosen.1 in
    record {
      keyed = payment_is_keyed rows p h.keyed;
      parents = payment_has_parents rows p payer district h.parents;
      stocked = list_all-updated (λ w. list_all (λ i. is_some (find_stock rows w.id i.id)) rows.items) (λ w. list_all (λ i. is_some (find_stock rows w.id i.id)) rows.items) (is_warehouse p.warehouse) (paid_warehouse p) (λ w k other. k) (λ w k this. k) rows.warehouses h.stocked;
    }

-- ---- New-Order

number_is : (a b : ℕ) → (a == b) ≡ true → a ≡ b
number_is a b e = grind (arith, nat_tests)

-- in stocked tables each item has a STOCK row in each warehouse
stock_exists : (rows : Rows) (w i : ℕ) → IsStocked rows → is_some (find_warehouse rows w) ≡ true → is_some (find_item rows i) ≡ true → is_some (find_stock rows w i) ≡ true
stock_exists rows w i stocked some_w some_i =
    let warehouse = some_of (find_warehouse rows w) some_w in
    let item = some_of (find_item rows i) some_i in
    let of_w = found_passes (is_warehouse w) (λ w. list_all (λ i. is_some (find_stock rows w.id i.id)) rows.items) rows.warehouses warehouse.0 warehouse.1 stocked in
    let of_i = found_passes (is_item i) (λ i. is_some (find_stock rows warehouse.0.id i.id)) rows.items item.0 item.1 of_w.1 in
    (λ j. is_some (find_stock rows (sym (number_is warehouse.0.id w of_w.0) j) (sym (number_is item.0.id i of_i.0) j))) ∙ of_i.1

neither_is : (a b : Bool) → (a || b) ≡ false → (a ≡ false) × (b ≡ false)
neither_is true b e = cc
neither_is false b e = (refl, e)

pub lines_stocked : (rows : Rows) (lines : List Line) → IsStocked rows → list_any (λ l. is_none (find_warehouse rows l.supply)) lines ≡ false → list_any (λ l. is_none (find_item rows l.item)) lines ≡ false → list_all (λ l. is_some (find_stock rows l.supply l.item)) lines ≡ true
lines_stocked rows [] stocked ws is = refl
lines_stocked rows (l ∷ lines) stocked ws is =
    let w = neither_is (is_none (find_warehouse rows l.supply)) (list_any (λ l. is_none (find_warehouse rows l.supply)) lines) ws in
    let i = neither_is (is_none (find_item rows l.item)) (list_any (λ l. is_none (find_item rows l.item)) lines) is in
    (λ j. stock_exists rows l.supply l.item stocked (some_if (find_warehouse rows l.supply) w.0) (some_if (find_item rows l.item) i.0) j && lines_stocked rows lines stocked w.1 i.1 j)

order_is_stocked : (rows : Rows) (order : Order) → IsStocked rows → IsStocked (after_order rows order)
unfolding after_order
order_is_stocked rows order h =
    list_all-mono (λ w. list_all (λ i. is_some (find_stock rows w.id i.id)) rows.items) (λ w. list_all (λ i. is_some (find_stock (after_order rows order) w.id i.id)) rows.items)
    (λ w k. list_all-mono (λ i. is_some (find_stock rows w.id i.id)) (λ i. is_some (find_stock (after_order rows order) w.id i.id)) (λ i m. found_stock rows order w.id i.id ∙ m) rows.items k)
    rows.warehouses h

delivery_is_stocked : (rows : Rows) (W D o carrier at : ℕ) → IsStocked rows → IsStocked (after_delivery rows W D o carrier at)
unfolding after_delivery
delivery_is_stocked rows W D o carrier at h = h

pub order_is_sound : (rows : Rows) (order : Order) → is_rolled_back rows order ≡ false → order_refusal rows order ≡ None → IsSound rows → IsSound (after_order rows order)
unfolding order_input_tests
order_is_sound rows order e none h =
    let tests = all_false (order_input_tests rows order) (first_none (order_refusal_by_input rows order) _ none) in
    let customer : is_some (find_customer rows order.warehouse order.district order.customer) ≡ true = some_if (find_customer rows order.warehouse order.district order.customer) tests.1.1.0 in
    let stocks = lines_stocked rows order.lines h.stocked tests.1.1.1.1.1.0 e in
    record {
      keyed = order_is_keyed rows order h.parents h.keyed;
      parents = order_has_parents rows order (order_district rows order none) customer stocks h.parents;
      stocked = order_is_stocked rows order h.stocked;
    }

order_cases : (rows : Rows) (order : Order) (b : Bool) → is_rolled_back rows order ≡ b → order_refusal rows order ≡ None → IsSound rows → IsSound (if b then rows else after_order rows order)
order_cases rows order true e none h = h
order_cases rows order false e none h = order_is_sound rows order e none h

-- ---- Delivery

pub delivery_is_sound : (rows : Rows) (W D o carrier at : ℕ) → IsSound rows → IsSound (after_delivery rows W D o carrier at)
delivery_is_sound rows W D o carrier at h =
    record {
      keyed = delivery_is_keyed rows W D o carrier at h.keyed;
      parents = delivery_has_parents rows W D o carrier at h.parents;
      stocked = delivery_is_stocked rows W D o carrier at h.stocked;
    }

district_is_sound : (rows : Rows) (W D carrier at : ℕ) (o : Option ℕ) → IsSound rows → IsSound (rows_after_district rows W D carrier at o)
district_is_sound rows W D carrier at None h = h
district_is_sound rows W D carrier at (Some o) h = delivery_is_sound rows W D o carrier at h

run_is_sound : (rows : Rows) (queue : List QueuedTicket) (at : ℕ) → IsSound rows → IsSound (state_after_run rows queue at).rows
run_is_sound rows [] at h = h
run_is_sound rows (q ∷ queue) at h = district_is_sound rows q.ticket.warehouse q.next q.ticket.carrier at (oldest_new_order rows q.ticket.warehouse q.next) h

-- whatever is asked and not refused, keys, references and stock stay
pub turn_is_sound : (s : State) (request : Request) → refusal s request ≡ None → IsSound s.rows → IsSound (state_after s request).rows
unfolding refusal state_after
turn_is_sound s (ask.NewOrder order) e h = order_cases s.rows order (is_rolled_back s.rows order) refl e h
turn_is_sound s (ask.Payment payment) e h = payment_is_sound s.rows payment e h
turn_is_sound s (ask.Status query) e h = h
turn_is_sound s (ask.Stock query) e h = h
turn_is_sound s (ask.Delivery ticket) e h = h
turn_is_sound s (ask.Deliver at) e h = run_is_sound s.rows s.queue at h
