-- Each request that is not refused keeps the conditions.
use Rattle.std.proofs.Common.{◌≡◌, ℕ, Bool, true, false, List, [], ◌∷◌, refl, arith}
use Rattle.std.specs.Prelude.{Option, Some, None, is_some, is_none, ◌||◌, if◌then◌else◌}
use Rattle.std.specs.Option.{option_or}
use Rattle.tpcc_rows.specs.declared.transactions.requests.Order.{Order}
use Rattle.tpcc_rows.specs.declared.transactions.requests.Payment.{Payment}
use Rattle.tpcc_rows.specs.declared.transactions.requests.QueuedTicket.{QueuedTicket}
use Rattle.tpcc_rows.specs.declared.transactions.requests.Request.{Request}
use Rattle.tpcc_rows.specs.declared.transactions.requests.Request.TheVariants as ask
use Rattle.tpcc_rows.specs.declared.tables.rows.DistrictRow.{DistrictRow}
use Rattle.tpcc_rows.specs.Lists.{first_finding, key_before}
use Rattle.tpcc_rows.specs.Tables.{Rows, State, is_district, district_key, find_district}
use Rattle.tpcc_rows.specs.WellKeyed.{IsKeyed, HasParents}
use Rattle.tpcc_rows.specs.Conditions.{IsConsistent}
use Rattle.tpcc_rows.specs.NewOrder.{is_rolled_back, after_order, rows_after_order, order_refusal, order_refusal_by_input, order_input_tests}
use Rattle.tpcc_rows.specs.Payment.{payment_refusal, payment_tests, after_payment}
use Rattle.tpcc_rows.specs.Delivery.{oldest_new_order, rows_after_district, state_after_run}
use Rattle.tpcc_rows.specs.Turn.{refusal, state_after}
use Rattle.tpcc_laws.proofs.List.{has_one, one_of_key}
use Rattle.tpcc_laws.proofs.PaymentKeeps.{payment_is_consistent}
use Rattle.tpcc_laws.proofs.OrderKeeps.{order_is_consistent}
use Rattle.tpcc_laws.proofs.DeliveryKeeps.{delivery_is_consistent}
use Rattle.std.proofs.lemmas.Bool.Decides.{nat_tests}

-- where nothing is found, each test is false
abbrev pub AllFalse : {X : Type 0} → List (Bool × X) → Type 0
AllFalse [] = Unit {0}
AllFalse (finding ∷ findings) = (finding.0 ≡ false) × AllFalse findings

head_false : {X : Type 0} (b : Bool) (x : X) (findings : List (Bool × X)) → first_finding ((b, x) ∷ findings) ≡ None → (b ≡ false) × (first_finding findings ≡ None)
head_false true x findings e = cc
head_false false x findings e = (refl, e)

pub all_false : {X : Type 0} (findings : List (Bool × X)) → first_finding findings ≡ None → AllFalse findings
all_false [] e = tt
all_false (finding ∷ findings) e = let h = head_false finding.0 finding.1 findings e in (h.0, all_false findings h.1)

pub some_if : {X : Type 0} (r : Option X) → is_none r ≡ false → is_some r ≡ true
some_if None e = cc
some_if (Some x) e = refl

pub neither : (a b : Bool) → (a || b) ≡ false → a ≡ false
neither true b e = e
neither false b e = refl

pub first_none : {X : Type 0} (a b : Option X) → option_or a b ≡ None → a ≡ None
first_none None b e = refl
first_none (Some x) b e = cc

district_keys_apart : (a b : DistrictRow) (w d : ℕ) → is_district w d a ≡ true → is_district w d b ≡ true → key_before (district_key a) (district_key b) ≡ false
district_keys_apart a b w d ea eb = grind (arith, nat_tests)

one_district : (rows : Rows) (w d : ℕ) → IsKeyed rows → is_some (find_district rows w d) ≡ true → has_one (is_district w d) rows.districts ≡ true
one_district rows w d keyed found = one_of_key district_key (is_district w d) (λ a b. district_keys_apart a b w d) rows.districts keyed.districts found

pub accepted_payment : (rows : Rows) (p : Payment) → IsKeyed rows → payment_refusal rows p ≡ None → IsConsistent rows → IsConsistent (after_payment rows p)
unfolding payment_tests
accepted_payment rows p keyed e h =
    let districts = (all_false (payment_tests rows p) e).1.0 in
    payment_is_consistent rows p (one_district rows p.warehouse p.district keyed (some_if (find_district rows p.warehouse p.district) (neither (is_none (find_district rows p.warehouse p.district)) _ districts))) h

pub order_district : (rows : Rows) (order : Order) → order_refusal rows order ≡ None → is_some (find_district rows order.warehouse order.district) ≡ true
unfolding order_input_tests
order_district rows order e =
    some_if (find_district rows order.warehouse order.district) (all_false (order_input_tests rows order) (first_none (order_refusal_by_input rows order) _ e)).1.0

order_cases : (rows : Rows) (order : Order) (b : Bool) → IsConsistent rows → IsConsistent (after_order rows order) → IsConsistent (if b then rows else after_order rows order)
order_cases rows order true h k = h
order_cases rows order false h k = k

pub accepted_order_keeps : (rows : Rows) (order : Order) → IsKeyed rows → HasParents rows → order_refusal rows order ≡ None → IsConsistent rows → IsConsistent (rows_after_order rows order)
accepted_order_keeps rows order keyed parents e h =
    order_cases rows order (is_rolled_back rows order) h (order_is_consistent rows order (one_district rows order.warehouse order.district keyed (order_district rows order e)) parents h)

district_cases : (rows : Rows) (W D carrier at : ℕ) (o : Option ℕ) → oldest_new_order rows W D ≡ o → IsKeyed rows → HasParents rows → IsConsistent rows → IsConsistent (rows_after_district rows W D carrier at o)
district_cases rows W D carrier at None e keyed parents h = h
district_cases rows W D carrier at (Some o) e keyed parents h = delivery_is_consistent rows W D o carrier at keyed parents e h

pub run_keeps : (rows : Rows) (queue : List QueuedTicket) (at : ℕ) → IsKeyed rows → HasParents rows → IsConsistent rows → IsConsistent (state_after_run rows queue at).rows
run_keeps rows [] at keyed parents h = h
run_keeps rows (q ∷ queue) at keyed parents h = district_cases rows q.ticket.warehouse q.next q.ticket.carrier at (oldest_new_order rows q.ticket.warehouse q.next) refl keyed parents h

-- whatever is asked and not refused, the conditions hold after it
pub turn_keeps : (s : State) (request : Request) → IsKeyed s.rows → HasParents s.rows → refusal s request ≡ None → IsConsistent s.rows → IsConsistent (state_after s request).rows
unfolding refusal state_after
turn_keeps s (ask.NewOrder order) keyed parents e h = accepted_order_keeps s.rows order keyed parents e h
turn_keeps s (ask.Payment payment) keyed parents e h = accepted_payment s.rows payment keyed e h
turn_keeps s (ask.Status query) keyed parents e h = h
turn_keeps s (ask.Stock query) keyed parents e h = h
turn_keeps s (ask.Delivery ticket) keyed parents e h = h
turn_keeps s (ask.Deliver at) keyed parents e h = run_keeps s.rows s.queue at keyed parents h
