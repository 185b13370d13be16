-- 2.7: Delivery. A ticket is queued, and each run delivers the next district of the first ticket.
use Rattle.std.specs.Prelude.{ℕ, ◌+◌, ◌==◌, not, List, [], ◌∷◌, ◌++◌, length, map, filter, ℤ, ◌+ℤ◌, is_none, Bool, Option, Some, None, if◌then◌else◌, nat_le}
use Rattle.tpcc_money.specs.Amounts.{total}
use Rattle.tpcc_rows.specs.declared.tables.rows.CustomerRow.{CustomerRow}
use Rattle.tpcc_rows.specs.declared.transactions.requests.Ticket.{Ticket}
use Rattle.tpcc_rows.specs.declared.transactions.requests.QueuedTicket.{QueuedTicket}
use Rattle.tpcc_rows.specs.declared.transactions.refusals.Refusal.{Refusal}
use Rattle.tpcc_rows.specs.declared.transactions.refusals.Refusal.TheVariants.{NoWarehouse, Carrier, QueueFull, Count, Total}
use Rattle.tpcc_rows.specs.declared.transactions.refusals.Field.TheVariants.{DeliveryCount, Balance}
use Rattle.tpcc_rows.specs.declared.transactions.replies.Delivery.{Delivery}
use Rattle.tpcc_rows.specs.declared.transactions.replies.Delivery.TheVariants.{District, NoneQueued}
use Rattle.tpcc_rows.specs.Lists.{updated, smallest, first_finding}
use Rattle.tpcc_rows.specs.Ranges.{is_balance, is_count, is_carrier}
use Rattle.tpcc_rows.specs.Tables.{Rows, State, is_order, is_new_order, is_line_of, is_customer, find_warehouse, order_at, customer_at, lines_of, new_orders_in}
use Rattle.tpcc_rows.specs.declared.limits.TheConstants.{MOST_TICKETS}

-- 2.7.4.2: the lowest NO_O_ID of the district, if there is one
abbrev pub oldest_new_order : Rows → ℕ → ℕ → Option ℕ
oldest_new_order rows warehouse district = smallest (map (λ n. n.order) (new_orders_in rows warehouse district))

-- 2.7.4.2: the sum of the order's OL_AMOUNT
abbrev pub order_amount : Rows → ℕ → ℕ → ℕ → ℤ
order_amount rows warehouse district order = total (λ l. l.amount) (lines_of rows warehouse district order)

-- 2.7.4.2: C_BALANCE rises by the sum, C_DELIVERY_CNT by one
abbrev pub delivered_customer : ℤ → CustomerRow → CustomerRow
delivered_customer amount c = record c { balance = c.balance +ℤ amount; delivery_count = c.delivery_count + 1 }

-- 2.7.4.2: the NEW-ORDER row is deleted, O_CARRIER_ID is set, OL_DELIVERY_D of the lines is set, and the customer is charged
unfoldable pub after_delivery : Rows → ℕ → ℕ → ℕ → ℕ → ℕ → Rows
after_delivery rows warehouse district order carrier at =
    let customer = (order_at rows warehouse district order).customer in
    record rows {
      new_orders = filter (λ n. not (is_new_order warehouse district order n)) rows.new_orders;
      orders = updated (is_order warehouse district order) (λ o. record o { carrier = Some carrier }) rows.orders;
      order_lines = updated (is_line_of warehouse district order) (λ l. record l { delivered = Some at }) rows.order_lines;
      customers = updated (is_customer warehouse district customer) (delivered_customer (order_amount rows warehouse district order)) rows.customers;
    }

-- 2.7.4.2: a district with no NEW-ORDER row is skipped
abbrev pub rows_after_district : Rows → ℕ → ℕ → ℕ → ℕ → Option ℕ → Rows
rows_after_district rows warehouse district carrier at None = rows
rows_after_district rows warehouse district carrier at (Some order) = after_delivery rows warehouse district order carrier at

-- the first ticket stands at its next district, and leaves the queue after the tenth
abbrev pub queue_after_run : QueuedTicket → List QueuedTicket → List QueuedTicket
queue_after_run q queue = if q.next == 10 then queue else record q { next = q.next + 1 } ∷ queue

-- 2.7.4: a run of the first ticket at a moment
abbrev pub state_after_run : Rows → List QueuedTicket → ℕ → State
state_after_run rows [] at = record { rows = rows; queue = [] }
state_after_run rows (q ∷ queue) at =
    record {
      rows = rows_after_district rows q.ticket.warehouse q.next q.ticket.carrier at (oldest_new_order rows q.ticket.warehouse q.next);
      queue = queue_after_run q queue;
    }

abbrev pub run_reply : Rows → List QueuedTicket → ℕ → Delivery
run_reply rows [] at = NoneQueued
run_reply rows (q ∷ queue) at = District (record { ticket = q.ticket; at = at; district = q.next; order = oldest_new_order rows q.ticket.warehouse q.next })

-- the customer of an order after its delivery
abbrev pub customer_after_delivery : Rows → ℕ → ℕ → ℕ → CustomerRow
customer_after_delivery rows warehouse district order =
    delivered_customer (order_amount rows warehouse district order) (customer_at rows warehouse district (order_at rows warehouse district order).customer)

abbrev pub delivery_tests : Rows → ℕ → ℕ → ℕ → List (Bool × Refusal)
delivery_tests rows warehouse district order =
    let c = customer_after_delivery rows warehouse district order in
    (not (is_count c.delivery_count), Count DeliveryCount) ∷ (not (is_balance c.balance), Total Balance) ∷ []

abbrev pub district_refusal : Rows → ℕ → ℕ → Option ℕ → Option Refusal
district_refusal rows warehouse district None = None
district_refusal rows warehouse district (Some order) = first_finding (delivery_tests rows warehouse district order)

-- why a run is refused
unfoldable pub run_refusal : Rows → List QueuedTicket → Option Refusal
run_refusal rows [] = None
run_refusal rows (q ∷ queue) = district_refusal rows q.ticket.warehouse q.next (oldest_new_order rows q.ticket.warehouse q.next)

-- 2.7.2: a ticket goes to the end of the queue, with district 1 next
abbrev pub queue_with : List QueuedTicket → Ticket → List QueuedTicket
queue_with queue t = queue ++ record { ticket = t; next = 1 } ∷ []

abbrev pub greatest_queue : ℕ
greatest_queue = MOST_TICKETS

unfoldable pub ticket_tests : Rows → List QueuedTicket → Ticket → List (Bool × Refusal)
ticket_tests rows queue t =
    (is_none (find_warehouse rows t.warehouse), NoWarehouse)
    ∷ (not (is_carrier t.carrier), Carrier)
    ∷ (nat_le greatest_queue (length queue), QueueFull)
    ∷ []

abbrev pub ticket_refusal : Rows → List QueuedTicket → Ticket → Option Refusal
ticket_refusal rows queue t = first_finding (ticket_tests rows queue t)
