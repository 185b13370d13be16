-- What a turn pays into the warehouses.
use Rattle.std.proofs.Common.{◌≡◌, ◌∙◌, ℕ, Bool, true, false, List, [], ◌∷◌, refl, ap, sym, arith}
use Rattle.std.specs.Prelude.{ℤ, pos, ◌+ℤ◌, ◌≤ℤ◌, None, Some, Option, is_some, is_none, filter, if◌then◌else◌}
use Rattle.std.proofs.lemmas.Int.{ints}
use Rattle.std.proofs.lemmas.Bool.Decides.{nat_tests}
use Rattle.tpcc_money.specs.Amounts.{total}
use Rattle.tpcc_rows.specs.declared.tables.rows.WarehouseRow.{WarehouseRow}
use Rattle.tpcc_rows.specs.declared.transactions.requests.Order.{Order}
use Rattle.tpcc_rows.specs.declared.transactions.requests.Payment.{Payment}
use Rattle.tpcc_rows.specs.declared.transactions.requests.QueuedTicket.{QueuedTicket}
use Rattle.tpcc_rows.specs.declared.transactions.requests.Request.{Request}
use Rattle.tpcc_rows.specs.declared.transactions.requests.Request.TheVariants as ask
use Rattle.tpcc_rows.specs.Lists.{updated, key_before}
use Rattle.tpcc_rows.specs.Ranges.{is_amount_within}
use Rattle.tpcc_rows.specs.Tables.{Rows, State, is_warehouse, warehouse_key, find_warehouse}
use Rattle.tpcc_rows.specs.WellKeyed.{IsKeyed}
use Rattle.tpcc_rows.specs.NewOrder.{is_rolled_back, after_order}
use Rattle.tpcc_rows.specs.Payment.{payment_refusal, payment_tests, paid_warehouse, after_payment}
use Rattle.tpcc_rows.specs.Delivery.{rows_after_district, after_delivery, oldest_new_order, state_after_run}
use Rattle.tpcc_rows.specs.Turn.{refusal, state_after}
use Rattle.tpcc_rows.specs.Replay.{paid_by_request}
use Rattle.tpcc_laws.proofs.List.{has_one, one_of_key, total-updated_one}
use Rattle.tpcc_laws.proofs.Numbers.{amount_within, not_false}
use Rattle.tpcc_laws.proofs.TurnKeeps.{all_false, some_if, neither}
use Rattle.tpcc_rows.specs.declared.limits.TheConstants.{GREATEST_PAYMENT}

-- the sum of W_YTD
abbrev pub paid_in : Rows → ℤ
paid_in rows = total (λ w. w.ytd) rows.warehouses

filter-all : {X : Type 0} (xs : List X) → filter (λ x. true) xs ≡ xs
filter-all [] = refl
filter-all (x ∷ xs) = ap (λ ys. x ∷ ys) (filter-all xs)

warehouse_keys_apart : (a b : WarehouseRow) (w : ℕ) → is_warehouse w a ≡ true → is_warehouse w b ≡ true → key_before (warehouse_key a) (warehouse_key b) ≡ false
warehouse_keys_apart a b w ea eb = grind (arith, nat_tests)

one_warehouse : (rows : Rows) (w : ℕ) → IsKeyed rows → is_some (find_warehouse rows w) ≡ true → has_one (is_warehouse w) rows.warehouses ≡ true
one_warehouse rows w keyed found = one_of_key warehouse_key (is_warehouse w) (λ a b. warehouse_keys_apart a b w) rows.warehouses keyed.warehouses found

payment_warehouse : (rows : Rows) (p : Payment) → payment_refusal rows p ≡ None → is_some (find_warehouse rows p.warehouse) ≡ true
unfolding payment_tests
payment_warehouse rows p none = some_if (find_warehouse rows p.warehouse) (neither (is_none (find_warehouse rows p.warehouse)) _ (all_false (payment_tests rows p) none).0)

payment_amount : (rows : Rows) (p : Payment) → payment_refusal rows p ≡ None → (pos 100 ≤ℤ p.amount) × (p.amount ≤ℤ GREATEST_PAYMENT)
unfolding payment_tests
payment_amount rows p none = amount_within (pos 100) GREATEST_PAYMENT p.amount (not_false (is_amount_within (pos 100) GREATEST_PAYMENT p.amount) (all_false (payment_tests rows p) none).1.1.1.0)

payment_pays : (rows : Rows) (p : Payment) → IsKeyed rows → payment_refusal rows p ≡ None → paid_in (after_payment rows p) ≡ paid_in rows +ℤ p.amount
unfolding after_payment
payment_pays rows p keyed none =
    let one = one_warehouse rows p.warehouse keyed (payment_warehouse rows p none) in
    let more = total-updated_one (λ w. w.ytd) (λ w. true) (is_warehouse p.warehouse) (paid_warehouse p) p.amount (λ w here. (refl, refl, refl)) rows.warehouses one in
    ap (total (λ w. w.ytd)) (sym (filter-all (updated (is_warehouse p.warehouse) (paid_warehouse p) rows.warehouses))) ∙ more ∙ ap (λ ws. total (λ w. w.ytd) ws +ℤ p.amount) (filter-all rows.warehouses)

nothing_more : (a : ℤ) → a ≡ a +ℤ pos 0
nothing_more a = omega (arith, ints)

order_pays : (rows : Rows) (order : Order) (b : Bool) → paid_in (if b then rows else after_order rows order) ≡ paid_in rows
unfolding after_order
order_pays rows order true = refl
order_pays rows order false = refl

district_pays : (rows : Rows) (w d carrier at : ℕ) (order : Option ℕ) → paid_in (rows_after_district rows w d carrier at order) ≡ paid_in rows
unfolding after_delivery
district_pays rows w d carrier at None = refl
district_pays rows w d carrier at (Some order) = refl

run_pays : (rows : Rows) (queue : List QueuedTicket) (at : ℕ) → paid_in (state_after_run rows queue at).rows ≡ paid_in rows
run_pays rows [] at = refl
run_pays rows (q ∷ queue) at = district_pays rows q.ticket.warehouse q.next q.ticket.carrier at (oldest_new_order rows q.ticket.warehouse q.next)

-- the sum of W_YTD rises by what the request pays
pub turn_pays : (s : State) (request : Request) → IsKeyed s.rows → refusal s request ≡ None → paid_in (state_after s request).rows ≡ paid_in s.rows +ℤ paid_by_request request
unfolding refusal state_after
turn_pays s (ask.NewOrder order) keyed none = order_pays s.rows order (is_rolled_back s.rows order) ∙ nothing_more (paid_in s.rows)
turn_pays s (ask.Payment p) keyed none = payment_pays s.rows p keyed none
turn_pays s (ask.Status q) keyed none = nothing_more (paid_in s.rows)
turn_pays s (ask.Stock q) keyed none = nothing_more (paid_in s.rows)
turn_pays s (ask.Delivery t) keyed none = nothing_more (paid_in s.rows)
turn_pays s (ask.Deliver at) keyed none = run_pays s.rows s.queue at ∙ nothing_more (paid_in s.rows)

-- and that is 0.00 to 5,000.00
pub paid_within : (s : State) (request : Request) → refusal s request ≡ None → (pos 0 ≤ℤ paid_by_request request) × (paid_by_request request ≤ℤ GREATEST_PAYMENT)
unfolding refusal
paid_within s (ask.NewOrder order) none = (omega (arith, ints), omega (arith, ints))
paid_within s (ask.Payment p) none = let h = payment_amount s.rows p none in (omega (arith, ints), h.1)
paid_within s (ask.Status q) none = (omega (arith, ints), omega (arith, ints))
paid_within s (ask.Stock q) none = (omega (arith, ints), omega (arith, ints))
paid_within s (ask.Delivery t) none = (omega (arith, ints), omega (arith, ints))
paid_within s (ask.Deliver at) none = (omega (arith, ints), omega (arith, ints))
