-- Deliveries from the small opening, computed.
use Rattle.std.proofs.Common.{◌≡◌, refl, ℕ, List, [], ◌∷◌, ◌++◌, suc}
use Rattle.std.specs.Prelude.{pos, neg_ℤ, Some, None, Option, map, filter, not}
use Rattle.tpcc_rows.specs.declared.transactions.requests.Ticket.{Ticket}
use Rattle.tpcc_rows.specs.declared.transactions.requests.Request.{Request}
use Rattle.tpcc_rows.specs.declared.transactions.refusals.Refusal.TheVariants.{Carrier, QueueFull, NoWarehouse, Count}
use Rattle.tpcc_rows.specs.declared.transactions.refusals.Field.TheVariants.{DeliveryCount}
use Rattle.tpcc_rows.specs.declared.transactions.replies.Delivery.TheVariants.{District, NoneQueued}
use Rattle.tpcc_rows.specs.declared.transactions.replies.Delivered.{Delivered}
use Rattle.tpcc_rows.specs.declared.transactions.entry.Entry.{Entry}
use Rattle.tpcc_rows.specs.declared.transactions.replies.Reply.TheVariants as tell
use Rattle.tpcc_rows.specs.Lists.{updated}
use Rattle.tpcc_rows.specs.Tables.{State, is_customer, is_new_order, customer_at, order_at, lines_of}
use Rattle.tpcc_rows.specs.Conditions.{first_broken}
use Rattle.tpcc_rows.specs.Replay.{replay, results_of}
use Rattle.tpcc_rows.specs.Turn.{refusal, state_after, reply_to}
use Rattle.tpcc_theorems.proofs.Small.{all_definitions, opening, queues, delivers, after_all, times}

abbrev ticket : Ticket
ticket = record { warehouse = 1; carrier = 3; queued = 60 }

abbrev with_ticket : State
with_ticket = state_after opening (queues 1 3 60)

abbrev delivered_once : State
delivered_once = state_after with_ticket (delivers 120)

queued_shown : reply_to opening (queues 1 3 60) ≡ tell.Queued ticket
unfolding all_definitions
queued_shown = refl

first_district : reply_to with_ticket (delivers 120) ≡ tell.Delivery (District (record { ticket = ticket; at = 120; district = 1; order = Some 8 }))
unfolding all_definitions
first_district = refl

customer_8_of_1 : (customer_at delivered_once.rows 1 1 8).balance ≡ pos 500
unfolding all_definitions
customer_8_of_1 = refl

customer_8_of_2 : (customer_at delivered_once.rows 1 2 8).balance ≡ neg_ℤ (pos 1000)
unfolding all_definitions
customer_8_of_2 = refl

carriers : (order_at delivered_once.rows 1 1 8).carrier ∷ (order_at delivered_once.rows 1 2 8).carrier ∷ [] ≡ Some 3 ∷ None ∷ []
unfolding all_definitions
carriers = refl

dates : map (λ l. l.delivered) (lines_of delivered_once.rows 1 1 8) ≡ times 5 (Some 120)
unfolding all_definitions
dates = refl

delivery_is_counted : (customer_at delivered_once.rows 1 1 8).delivery_count ≡ 1
unfolding all_definitions
delivery_is_counted = refl

consistent_once : first_broken delivered_once.rows ≡ None
unfolding all_definitions
consistent_once = refl

-- the other nine districts
abbrev delivered_ten : State
delivered_ten = after_all delivered_once (times 9 (delivers 180))

consistent_ten : first_broken delivered_ten.rows ≡ None
unfolding all_definitions
consistent_ten = refl

queue_is_empty : delivered_ten.queue ≡ []
unfolding all_definitions
queue_is_empty = refl

-- a journal of these requests, as they are served
abbrev journal_of : State → ℕ → List Request → List Entry
journal_of s number [] = []
journal_of s number (request ∷ requests) = record { terminal = 1; number = number; request = request; reply = reply_to s request } ∷ journal_of (state_after s request) (suc number) requests

abbrev ten_runs : List Request
ten_runs = queues 1 3 60 ∷ delivers 120 ∷ times 9 (delivers 180)

abbrev one_ticket : Delivered
one_ticket = record { ticket = ticket; at = 180; orders = times 10 (Some 8) }

no_results_yet : results_of (journal_of opening 0 (queues 1 3 60 ∷ delivers 120 ∷ [])) ≡ []
unfolding all_definitions
no_results_yet = refl

results : results_of (journal_of opening 0 ten_runs) ≡ one_ticket ∷ []
unfolding all_definitions
results = refl

replay_delivers_ten : replay opening (journal_of opening 0 ten_runs) ≡ delivered_ten
unfolding all_definitions
replay_delivers_ten = refl

-- four tickets: orders 8, 9 and 10 of each district, and then none
abbrev four_tickets : List Request
four_tickets = ten_runs ++ ten_runs ++ ten_runs ++ ten_runs

orders_of_tickets : map (λ d. d.orders) (results_of (journal_of opening 0 four_tickets)) ≡ times 10 (Some 8) ∷ times 10 (Some 9) ∷ times 10 (Some 10) ∷ times 10 None ∷ []
unfolding all_definitions
orders_of_tickets = refl

consistent_four : first_broken (after_all opening four_tickets).rows ≡ None
unfolding all_definitions
consistent_four = refl

-- what is refused
carrier_11 : refusal opening (queues 1 11 0) ≡ Some Carrier
unfolding all_definitions
carrier_11 = refl

warehouse_2 : refusal opening (queues 2 11 0) ≡ Some NoWarehouse
unfolding all_definitions
warehouse_2 = refl

none_queued : reply_to opening (delivers 0) ≡ tell.Delivery NoneQueued
unfolding all_definitions
none_queued = refl

abbrev full : State
full = record opening { queue = times 1000 (record { ticket = ticket; next = 1 }) }

queue_full : refusal full (queues 1 1 0) ≡ Some QueueFull
unfolding all_definitions
queue_full = refl

-- a gap among the NEW-ORDER rows of district 2
abbrev gap : State
gap = record opening { rows = record opening.rows { new_orders = filter (λ n. not (is_new_order 1 2 9 n)) opening.rows.new_orders } }

abbrev with_second : Option ℕ → Option ℕ → List (Option ℕ)
with_second order second = order ∷ second ∷ times 8 order

gap_skipped : map (λ d. d.orders) (results_of (journal_of gap 0 (ten_runs ++ ten_runs ++ ten_runs))) ≡ with_second (Some 8) (Some 8) ∷ with_second (Some 9) (Some 10) ∷ with_second (Some 10) None ∷ []
unfolding all_definitions
gap_skipped = refl

-- a count at its limit: the run is refused, and the ticket stays at its district
abbrev worn : State
worn = record with_ticket { rows = record with_ticket.rows { customers = updated (is_customer 1 1 8) (λ c. record c { delivery_count = 999999999 }) with_ticket.rows.customers } }

worn_refused : refusal worn (delivers 120) ≡ Some (Count DeliveryCount)
unfolding all_definitions
worn_refused = refl
