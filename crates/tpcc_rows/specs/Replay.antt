-- The journal: the states that it leads to, what makes it faithful, and the runs of tickets that it holds.
use Rattle.std.specs.Prelude.{◌≡◌, ℕ, ◌+◌, ◌*◌, ◌/◌, ◌==◌, List, [], ◌∷◌, ◌++◌, length, map, filter_map, count_by, sum, slice_range, slice_get, Option, Some, None, option_map, ℤ, pos, ◌-ℤ◌}
use Rattle.std.specs.List.{range_with_len}
use Rattle.tpcc_money.specs.Amounts.{total}
use Rattle.tpcc_rows.specs.declared.transactions.requests.Request.{Request}
use Rattle.tpcc_rows.specs.declared.transactions.requests.Request.TheVariants as ask
use Rattle.tpcc_rows.specs.declared.transactions.replies.Reply.{Reply}
use Rattle.tpcc_rows.specs.declared.transactions.replies.Reply.TheVariants as tell
use Rattle.tpcc_rows.specs.declared.transactions.replies.Delivery.TheVariants.{District, NoneQueued}
use Rattle.tpcc_rows.specs.declared.transactions.replies.DistrictDelivery.{DistrictDelivery}
use Rattle.tpcc_rows.specs.declared.transactions.replies.Delivered.{Delivered}
use Rattle.tpcc_rows.specs.declared.transactions.entry.Entry.{Entry}
use Rattle.tpcc_rows.specs.Tables.{Rows, State}
use Rattle.tpcc_rows.specs.Turn.{refusal, state_after, reply_to}

-- the state after the entries' requests, one transaction after another
abbrev pub replay : State → List Entry → State
replay s [] = s
replay s (entry ∷ entries) = replay (state_after s entry.request) entries

-- how many of the entries are of the terminal
abbrev pub count_of : ℕ → List Entry → ℕ
count_of terminal entries = count_by (λ e. e.terminal == terminal) entries

-- the entry is what its request gives at a state, and its number is how many of its terminal's entries stand before it
pub record IsServedAt (s : State) (before : List Entry) (entry : Entry) : Type 0 where
  pub accepted : refusal s entry.request ≡ None
  pub replied : entry.reply ≡ reply_to s entry.request
  pub numbered : entry.number ≡ count_of entry.terminal before

-- entries that stand behind others, each served at the state that those before it lead to
abbrev pub IsServedAfter : State → List Entry → List Entry → Type 0
IsServedAfter s before [] = Unit {0}
IsServedAfter s before (entry ∷ entries) = IsServedAt s before entry × IsServedAfter (state_after s entry.request) (before ++ entry ∷ []) entries

-- each entry of the journal is what its request gave at its place
abbrev pub IsFaithful : State → List Entry → Type 0
IsFaithful opening journal = IsServedAfter opening [] journal

-- the replies of runs, in order
abbrev pub district_delivery : Reply → Option DistrictDelivery
district_delivery (tell.Delivery (District d)) = Some d
district_delivery (tell.Delivery NoneQueued) = None
district_delivery (tell.Entered e) = None
district_delivery (tell.Paid p) = None
district_delivery (tell.Status s) = None
district_delivery (tell.Level l) = None
district_delivery (tell.Queued t) = None

abbrev pub district_deliveries : List Entry → List DistrictDelivery
district_deliveries journal = filter_map (λ e. district_delivery e.reply) journal

-- ten runs of a ticket, with the ticket and the moment of the tenth
abbrev pub whole_ticket : List DistrictDelivery → Option Delivered
whole_ticket runs = option_map (λ last. record { ticket = last.ticket; at = last.at; orders = map (λ run. run.order) runs }) (slice_get runs 9)

-- 2.7.2.2: the result log: the runs ten by ten, in order; the last ones, where they are fewer than ten, are not there yet
unfoldable pub results_of : List Entry → List Delivered
results_of journal =
    let runs = district_deliveries journal in
    filter_map (λ ten. whole_ticket (slice_range runs (10 * ten) (10 * ten + 10))) (range_with_len 0 (length runs / 10))

-- the amount of a payment, and nothing for other requests
abbrev pub paid_by_request : Request → ℤ
paid_by_request (ask.Payment p) = p.amount
paid_by_request (ask.NewOrder o) = pos 0
paid_by_request (ask.Status q) = pos 0
paid_by_request (ask.Stock q) = pos 0
paid_by_request (ask.Delivery t) = pos 0
paid_by_request (ask.Deliver at) = pos 0

abbrev pub paid_by_entries : List Entry → ℤ
paid_by_entries journal = total (λ e. paid_by_request e.request) journal

-- how far the sum of W_YTD has risen
abbrev pub rise : Rows → Rows → ℤ
rise opening rows = total (λ w. w.ytd) rows.warehouses -ℤ total (λ w. w.ytd) opening.warehouses
