-- A queue that grows by a ticket, and one after a run of its first ticket.
use Rattle.std.proofs.Common.{◌≡◌, ◌∙◌, ℕ, ◌+◌, ◌^◌, ◌<◌, ◌≤◌, Bool, true, List, [], ◌∷◌, Some, get_or, set, refl, arith}
use Rattle.std.specs.Prelude.{◌&&◌, slice_get}
use Rattle.std.specs.List.{list_all}
use Rattle.std.proofs.lemmas.Bool.Decides.{nat_tests}
use Rattle.std.proofs.lemmas.List.Folds.{list_all-append}
use Rattle.tpcc_money.specs.declared.moment.TheConstants.Moment.{LAST_SECOND}
use Rattle.tpcc_rows.specs.declared.transactions.requests.Ticket.{Ticket}
use Rattle.tpcc_rows.specs.declared.transactions.requests.QueuedTicket.{QueuedTicket}
use Rattle.tpcc_rows.specs.Delivery.{queue_with}
use Rattle.tpcc_rows.specs.Ranges.{is_within, is_carrier, is_moment, is_queued_ticket}
use Rattle.tpcc_rows.specs.WellKeyed.{IsQueueInRange}
use Rattle.tpcc_laws.proofs.Numbers.{within, is_in}
use Rattle.tpcc_rows.proofs.Booleans.{split}

moment_in : (n : ℕ) → n ≤ LAST_SECOND → is_moment n ≡ true
moment_in n h = grind (arith, nat_tests)

both : (a b : Bool) → a ≡ true → b ≡ true → (a && b) ≡ true
both a b e f = λ i. e i && f i

fresh_in_range : (t : Ticket) → is_carrier t.carrier ≡ true → is_moment t.queued ≡ true → is_queued_ticket (record { ticket = t; next = 1 }) ≡ true
unfolding is_queued_ticket
fresh_in_range t carrier moment = λ i. carrier i && moment i && true

pub pushed_in_range : (queue : List QueuedTicket) (t : Ticket) → IsQueueInRange queue → is_carrier t.carrier ≡ true → t.queued ≤ LAST_SECOND → IsQueueInRange (queue_with queue t)
pushed_in_range queue t all carrier below =
    let fresh = fresh_in_range t carrier (moment_in t.queued below) in
    list_all-append is_queued_ticket queue (record { ticket = t; next = 1 } ∷ []) ∙ both (list_all is_queued_ticket queue) _ all (both _ true fresh refl)

-- ---- the first ticket

next_in : (q : QueuedTicket) → is_queued_ticket q ≡ true → is_within 1 10 q.next ≡ true
unfolding is_queued_ticket
next_in q h = (split _ (is_within 1 10 q.next) h).1

pub carrier_in : (q : QueuedTicket) → is_queued_ticket q ≡ true → is_carrier q.ticket.carrier ≡ true
unfolding is_queued_ticket
carrier_in q h = (split (is_carrier q.ticket.carrier) (is_moment q.ticket.queued) (split _ (is_within 1 10 q.next) h).0).0

pub first_in_range : (queue : List QueuedTicket) (q : QueuedTicket) → IsQueueInRange queue → slice_get queue 0 ≡ Some q → is_queued_ticket q ≡ true
first_in_range [] q all e = cc
first_in_range (x ∷ queue) q all e = grind arith

pub next_fits : (queue : List QueuedTicket) (q : QueuedTicket) → IsQueueInRange queue → slice_get queue 0 ≡ Some q → q.next + 1 < 2 ^ 32
next_fits queue q all e = let n = within 1 10 q.next (next_in q (first_in_range queue q all e)) in omega arith

next_stays : (q : QueuedTicket) → is_queued_ticket q ≡ true → (q.next ≡ 10 → ⊥) → is_queued_ticket (record q { next = q.next + 1 }) ≡ true
unfolding is_queued_ticket
next_stays q h ne =
    let s = split (is_carrier q.ticket.carrier && is_moment q.ticket.queued) (is_within 1 10 q.next) h in
    let n = within 1 10 q.next s.1 in
    both (is_carrier q.ticket.carrier && is_moment q.ticket.queued) _ s.0 (is_in 1 10 (q.next + 1) (omega arith) (omega (arith, ne)))

pub moved_in_range : (queue : List QueuedTicket) (q y : QueuedTicket) → IsQueueInRange queue → slice_get queue 0 ≡ Some q → y ≡ get_or queue 0 y → (q.next ≡ 10 → ⊥) → IsQueueInRange (set queue 0 (record { ticket = y.ticket; next = q.next + 1 }))
moved_in_range [] q y all e here ne = cc
moved_in_range (x ∷ queue) q y all e here ne =
    let s = split (is_queued_ticket x) (list_all is_queued_ticket queue) all in
    let there : x ≡ q = cc in
    let moved = next_stays q (first_in_range (x ∷ queue) q all e) ne in
    both (is_queued_ticket (record { ticket = y.ticket; next = q.next + 1 })) (list_all is_queued_ticket queue) ((λ i. is_queued_ticket (record { ticket = ((here ∙ there) i).ticket; next = q.next + 1 })) ∙ moved) s.1
