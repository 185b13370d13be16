-- A run of the first ticket, by what the queue begins with.
use Rattle.std.proofs.Common.{◌≡◌, ◌∙◌, sym, ap, subst, ℕ, true, List, [], ◌∷◌, refl, Option, Some, None}
use Rattle.std.specs.Prelude.{slice_get}
use Rattle.tpcc_rows.specs.declared.transactions.requests.QueuedTicket.{QueuedTicket}
use Rattle.tpcc_rows.specs.declared.transactions.replies.Delivery.{Delivery}
use Rattle.tpcc_rows.specs.declared.transactions.replies.Delivery.TheVariants.{District, NoneQueued}
use Rattle.tpcc_rows.specs.declared.transactions.replies.DistrictDelivery.{DistrictDelivery}
use Rattle.tpcc_rows.specs.Delivery.{district_refusal, oldest_new_order, run_refusal, run_reply}
use Rattle.tpcc_rows.specs.Ranges.{is_carrier}
use Rattle.tpcc_rows.specs.Tables.{Rows}
use Rattle.tpcc_rows.specs.WellKeyed.{IsQueueInRange}
use Rattle.tpcc_delivery.specs.Runs.{IsPreparedRun}
use Rattle.tpcc_delivery.proofs.Queues.{carrier_in, first_in_range}

-- what a run of a first ticket delivers
abbrev pub delivery_of : Rows → QueuedTicket → ℕ → DistrictDelivery
delivery_of rows q at = record { ticket = q.ticket; at = at; district = q.next; order = oldest_new_order rows q.ticket.warehouse q.next }

pub none_refused : (rows : Rows) (queue : List QueuedTicket) → slice_get queue 0 ≡ None → run_refusal rows queue ≡ None
unfolding run_refusal
none_refused rows [] e = refl
none_refused rows (q ∷ queue) e = cc

none_replied : (rows : Rows) (queue : List QueuedTicket) (at : ℕ) → slice_get queue 0 ≡ None → NoneQueued ≡ run_reply rows queue at
none_replied rows [] at e = refl
none_replied rows (q ∷ queue) at e = cc

pub none_ready : (rows : Rows) (queue : List QueuedTicket) (at : ℕ) → slice_get queue 0 ≡ None → IsPreparedRun rows queue at (record { reply = NoneQueued })
none_ready rows queue at e = record { accepted = none_refused rows queue e; reply = none_replied rows queue at e }

pub refusal_of_first : (rows : Rows) (queue : List QueuedTicket) (q : QueuedTicket) → slice_get queue 0 ≡ Some q → run_refusal rows queue ≡ district_refusal rows q.ticket.warehouse q.next (oldest_new_order rows q.ticket.warehouse q.next)
unfolding run_refusal
refusal_of_first rows [] q e = cc
refusal_of_first rows (x ∷ queue) q e = let there : x ≡ q = cc in λ i. district_refusal rows (there i).ticket.warehouse (there i).next (oldest_new_order rows (there i).ticket.warehouse (there i).next)

reply_of_first : (rows : Rows) (queue : List QueuedTicket) (q : QueuedTicket) (at : ℕ) → slice_get queue 0 ≡ Some q → District (delivery_of rows q at) ≡ run_reply rows queue at
reply_of_first rows [] q at e = cc
reply_of_first rows (x ∷ queue) q at e = let there : q ≡ x = cc in λ i. District (delivery_of rows (there i) at)

pub first_ready : (rows : Rows) (queue : List QueuedTicket) (q : QueuedTicket) (at : ℕ) (order : Option ℕ) → slice_get queue 0 ≡ Some q → order ≡ oldest_new_order rows q.ticket.warehouse q.next → run_refusal rows queue ≡ None → IsPreparedRun rows queue at (record { reply = District (record { ticket = q.ticket; at = at; district = q.next; order = order }) })
first_ready rows queue q at order e oldest none =
    record { accepted = none; reply = (λ i. District (record { ticket = q.ticket; at = at; district = q.next; order = oldest i })) ∙ reply_of_first rows queue q at e }

-- ---- a run that was prepared

abbrev district_or : DistrictDelivery → Delivery → DistrictDelivery
district_or other NoneQueued = other
district_or other (District d) = d

-- what is known of the district that a run delivers
pub record IsNext (rows : Rows) (queue : List QueuedTicket) (d : DistrictDelivery) : Type 0 where
  pub carrier : is_carrier d.ticket.carrier ≡ true
  pub accepted : district_refusal rows d.ticket.warehouse d.district d.order ≡ None

pub district_known : (rows : Rows) (queue : List QueuedTicket) (at : ℕ) (d : DistrictDelivery) → IsQueueInRange queue → run_refusal rows queue ≡ None → District d ≡ run_reply rows queue at → IsNext rows queue d
district_known rows [] at d all none e = cc
district_known rows (q ∷ queue) at d all none e =
    let there : delivery_of rows q at ≡ d = sym (ap (district_or d) e) in
    subst (IsNext rows (q ∷ queue)) there
    (record { carrier = carrier_in q (first_in_range (q ∷ queue) q all refl); accepted = sym (refusal_of_first rows (q ∷ queue) q refl) ∙ none })
