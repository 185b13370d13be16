-- A run that nothing refuses keeps the ranges of all columns and of the queue.
use Rattle.std.proofs.Common.{◌≡◌, ℕ, ◌+◌, ◌==◌, Bool, true, false, List, [], ◌∷◌, refl, sym, ap, ◌∙◌, arith, Some, None, Option}
use Rattle.std.specs.Prelude.{ℤ, ◌+ℤ◌, ◌&&◌, not, find, unwrap_or, if◌then◌else◌}
use Rattle.std.specs.List.{list_all, list_any}
use Rattle.std.proofs.lemmas.Bool.Decides.{nat_tests}
use Rattle.std.proofs.lemmas.List.Folds.{list_all-append}
use Rattle.tpcc_rows.specs.declared.tables.rows.OrderRow.{OrderRow}
use Rattle.tpcc_rows.specs.declared.tables.rows.OrderLineRow.{OrderLineRow}
use Rattle.tpcc_rows.specs.declared.tables.rows.CustomerRow.{CustomerRow}
use Rattle.tpcc_rows.specs.declared.transactions.requests.QueuedTicket.{QueuedTicket}
use Rattle.tpcc_rows.specs.declared.transactions.requests.Ticket.{Ticket}
use Rattle.tpcc_rows.specs.Lists.{updated}
use Rattle.tpcc_rows.specs.Ranges.{is_order_row, is_order_line_row, is_customer_row, is_new_order_row, is_queued_ticket, is_carrier, is_moment, is_balance, is_count, is_district_id, is_null_or, is_total, is_text}
use Rattle.tpcc_rows.specs.Tables.{Rows, is_order, is_line_of, is_customer, is_new_order, order_at, customer_at, no_customer}
use Rattle.tpcc_rows.specs.WellKeyed.{IsKeyed, IsInRange, IsQueueInRange}
use Rattle.tpcc_rows.specs.Delivery.{after_delivery, delivered_customer, order_amount, rows_after_district, state_after_run, delivery_tests, district_refusal, run_refusal, oldest_new_order, queue_with, ticket_refusal, ticket_tests}
use Rattle.tpcc_laws.proofs.List.{has_one, list_all-updated, list_all-updated_found, updated_absent}
use Rattle.tpcc_laws.proofs.DeliveryKeys.{list_all-filter}
use Rattle.tpcc_laws.proofs.DeliveryKeeps.{with_carrier, with_delivery_date}
use Rattle.tpcc_laws.proofs.Remove.{found_passes}
use Rattle.tpcc_rows.proofs.Booleans.{split, both_true}
use Rattle.tpcc_laws.proofs.TurnKeeps.{all_false}
use Rattle.tpcc_laws.proofs.Numbers.{not_false, within, is_in}
use Rattle.tpcc_laws.proofs.PaymentRanges.{one_customer}

fourth_last_changed : (x e a b c e' : Bool) → (x && e && a && b && c) ≡ true → e' ≡ true → (x && e' && a && b && c) ≡ true
fourth_last_changed x e a b c e' h k = grind arith

last_but_one : (x e f e' : Bool) → (x && e && f) ≡ true → e' ≡ true → (x && e' && f) ≡ true
last_but_one x e f e' h k = grind arith

two_tests_replaced : (x b y c d i b' d' : Bool) → (x && b && y && c && d && i) ≡ true → b' ≡ true → d' ≡ true → (x && b' && y && c && d' && i) ≡ true
two_tests_replaced x b y c d i b' d' h hb hd = grind arith

carried_row : (carrier : ℕ) (o : OrderRow) → is_carrier carrier ≡ true → is_order_row o ≡ true → is_order_row (with_carrier carrier o) ≡ true
unfolding is_order_row
carried_row carrier o h k = last_but_one _ (is_null_or is_carrier o.carrier) _ (is_carrier carrier) k h

stamped_row : (at : ℕ) (l : OrderLineRow) → is_moment at ≡ true → is_order_line_row l ≡ true → is_order_line_row (with_delivery_date at l) ≡ true
unfolding is_order_line_row
stamped_row at l h k = fourth_last_changed _ (is_null_or is_moment l.delivered) _ _ _ (is_moment at) k h

delivered_row : (amount : ℤ) (c : CustomerRow) → is_customer_row c ≡ true → is_balance (c.balance +ℤ amount) ≡ true → is_count (c.delivery_count + 1) ≡ true → is_customer_row (delivered_customer amount c) ≡ true
unfolding is_customer_row
delivered_row amount c h hb hd = two_tests_replaced _ (is_balance c.balance) (is_total c.ytd_payment) (is_count c.payment_count) (is_count c.delivery_count) (is_text 500 c.information) (is_balance (c.balance +ℤ amount)) (is_count (c.delivery_count + 1)) h hb hd

none_any : {X : Type 0} (passes : X → Bool) (xs : List X) → find passes xs ≡ None → list_any passes xs ≡ false
none_any passes [] e = refl
none_any passes (x ∷ xs) e = grind (arith, none_any passes xs)

-- an update of one row, or of none
found_or_not : {X : Type 0} (test passes : X → Bool) (change : X → X) (xs : List X) (f : Option X) → find passes xs ≡ f → list_all test xs ≡ true → ((x : X) → find passes xs ≡ Some x → has_one passes xs ≡ true) → ((x : X) → find passes xs ≡ Some x → test (change x) ≡ true) → list_all test (updated passes change xs) ≡ true
found_or_not test passes change xs None e all one changed = ap (list_all test) (updated_absent passes change xs (none_any passes xs e)) ∙ all
found_or_not test passes change xs (Some x) e all one changed = list_all-updated_found test passes change xs all (one x e) changed

charge_is_in_range : (rows : Rows) (W D o : ℕ) (c : CustomerRow) → district_refusal rows W D (Some o) ≡ None → find (is_customer W D (order_at rows W D o).customer) rows.customers ≡ Some c → is_customer_row c ≡ true → is_customer_row (delivered_customer (order_amount rows W D o) c) ≡ true
charge_is_in_range rows W D o c none e h =
    let t = all_false (delivery_tests rows W D o) none in
    let c_at : customer_at rows W D (order_at rows W D o).customer ≡ c = λ i. unwrap_or (e i) no_customer in
    delivered_row (order_amount rows W D o) c h (ap (λ (x : CustomerRow). is_balance (x.balance +ℤ order_amount rows W D o)) (sym c_at) ∙ not_false _ t.1.0) (ap (λ (x : CustomerRow). is_count (x.delivery_count + 1)) (sym c_at) ∙ not_false _ t.0)

pub delivery_in_range : (rows : Rows) (W D o carrier at : ℕ) → is_carrier carrier ≡ true → is_moment at ≡ true → district_refusal rows W D (Some o) ≡ None → IsKeyed rows → IsInRange rows → IsInRange (after_delivery rows W D o carrier at)
unfolding after_delivery
delivery_in_range rows W D o carrier at hc hm none keyed h =
    let k = (order_at rows W D o).customer in
    record {
      warehouses = h.warehouses;
      districts = h.districts;
      customers = found_or_not is_customer_row (is_customer W D k) (delivered_customer (order_amount rows W D o)) rows.customers (find (is_customer W D k) rows.customers) refl h.customers (λ x e. one_customer rows W D k x keyed e)
          (λ x e. charge_is_in_range rows W D o x none e (found_passes (is_customer W D k) is_customer_row rows.customers x e h.customers).1);
      histories = h.histories;
      orders = list_all-updated is_order_row is_order_row (is_order W D o) (with_carrier carrier) (λ r j other. j) (λ r j this. carried_row carrier r hc j) rows.orders h.orders;
      order_lines = list_all-updated is_order_line_row is_order_line_row (is_line_of W D o) (with_delivery_date at) (λ l j other. j) (λ l j this. stamped_row at l hm j) rows.order_lines h.order_lines;
      new_orders = list_all-filter is_new_order_row (λ n. not (is_new_order W D o n)) rows.new_orders h.new_orders;
      items = h.items;
      stocks = h.stocks;
    }

-- ---- a run of the first ticket

district_in_range : (rows : Rows) (W D carrier at : ℕ) (o : Option ℕ) → is_carrier carrier ≡ true → is_moment at ≡ true → district_refusal rows W D o ≡ None → IsKeyed rows → IsInRange rows → IsInRange (rows_after_district rows W D carrier at o)
district_in_range rows W D carrier at None hc hm none keyed h = h
district_in_range rows W D carrier at (Some o) hc hm none keyed h = delivery_in_range rows W D o carrier at hc hm none keyed h

ticket_tells : (q : QueuedTicket) → is_queued_ticket q ≡ true → (is_carrier q.ticket.carrier ≡ true) × (is_moment q.ticket.queued ≡ true) × (is_district_id q.next ≡ true)
unfolding is_queued_ticket
ticket_tells q h =
    let s = split (is_carrier q.ticket.carrier && is_moment q.ticket.queued) (is_district_id q.next) h in
    let t = split (is_carrier q.ticket.carrier) (is_moment q.ticket.queued) s.0 in
    (t.0, t.1, s.1)

pub is_ticket : (q : QueuedTicket) → is_carrier q.ticket.carrier ≡ true → is_moment q.ticket.queued ≡ true → is_district_id q.next ≡ true → is_queued_ticket q ≡ true
unfolding is_queued_ticket
is_ticket q hc hm hd = both_true (is_carrier q.ticket.carrier && is_moment q.ticket.queued) (is_district_id q.next) (both_true (is_carrier q.ticket.carrier) (is_moment q.ticket.queued) hc hm) hd

next_district : (n : ℕ) → is_district_id n ≡ true → (n == 10) ≡ false → is_district_id (n + 1) ≡ true
next_district n h e = let s = within 1 10 n h in is_in 1 10 (n + 1) (omega arith) (grind (arith, nat_tests))

queue_next : (q : QueuedTicket) (queue : List QueuedTicket) (b : Bool) → (q.next == 10) ≡ b → is_queued_ticket q ≡ true → list_all is_queued_ticket queue ≡ true → list_all is_queued_ticket (if b then queue else record q { next = q.next + 1 } ∷ queue) ≡ true
queue_next q queue true e h all = all
queue_next q queue false e h all =
    let t = ticket_tells q h in
    both_true (is_queued_ticket (record q { next = q.next + 1 })) (list_all is_queued_ticket queue) (is_ticket (record q { next = q.next + 1 }) t.0 t.1 (next_district q.next t.2 e)) all

pub run_in_range : (rows : Rows) (queue : List QueuedTicket) (at : ℕ) → is_moment at ≡ true → run_refusal rows queue ≡ None → IsKeyed rows → IsInRange rows → IsQueueInRange queue → IsInRange (state_after_run rows queue at).rows × IsQueueInRange (state_after_run rows queue at).queue
unfolding run_refusal
run_in_range rows [] at hm none keyed h all = (h, all)
run_in_range rows (q ∷ queue) at hm none keyed h all =
    let s = split (is_queued_ticket q) (list_all is_queued_ticket queue) all in
    let t = ticket_tells q s.0 in
    (district_in_range rows q.ticket.warehouse q.next q.ticket.carrier at (oldest_new_order rows q.ticket.warehouse q.next) t.0 hm none keyed h, queue_next q queue (q.next == 10) refl s.0 s.1)

-- ---- one more ticket

pub ticket_in_range : (rows : Rows) (queue : List QueuedTicket) (t : Ticket) → is_moment t.queued ≡ true → ticket_refusal rows queue t ≡ None → IsQueueInRange queue → IsQueueInRange (queue_with queue t)
unfolding ticket_tests
ticket_in_range rows queue t hm none all =
    let tests = all_false (ticket_tests rows queue t) none in
    list_all-append is_queued_ticket queue (record { ticket = t; next = 1 } ∷ []) ∙ both_true (list_all is_queued_ticket queue) _ all (both_true (is_queued_ticket (record { ticket = t; next = 1 })) true (is_ticket (record { ticket = t; next = 1 }) (not_false (is_carrier t.carrier) tests.1.0) hm refl) refl)
