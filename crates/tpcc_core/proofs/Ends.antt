-- What holds after every list of events.
use Rattle.std.proofs.Common.{◌≡◌, ◌∙◌, sym, ap, refl, subst, ℕ, ◌≤◌, arith, inl, inr, List, [], ◌∷◌, ◌++◌, map, append-nil}
use Rattle.std.specs.Prelude.{Bool, true, ◌&&◌, All}
use Rattle.std.specs.List.{list_all}
use Rattle.std.proofs.lemmas.List.Elements.{All-nil, All-cons, All-head, All-tail}
use Rattle.tpcc_rows.specs.declared.transactions.requests.Request.{Request}
use Rattle.tpcc_population.specs.declared.opening.Opening.{Opening}
use Rattle.tpcc_book.specs.Purses.{PurseView, most_purses}
use Rattle.tpcc_core.specs.declared.event.Event.{Event}
use Rattle.tpcc_core.specs.declared.mailbox.Collected.{Collected}
use Rattle.tpcc_core.specs.declared.mailbox.Mailbox.{Mailbox}
use Rattle.tpcc_core.specs.declared.mailbox.Mailbox.TheVariants as box
use Rattle.tpcc_core.specs.SeatSteps.{waiting_answer, kept_of}
use Rattle.tpcc_core.specs.Desks.{DeskNow, collected_of}
use Rattle.tpcc_core.specs.OpeningDesk.{opening_desk}
use Rattle.tpcc_core.specs.Flights.{under_way, unserved_request}
use Rattle.tpcc_core.specs.Traces.{entries_from, entries_by, IsRecorded, IsAllOrAllButLast}
use Rattle.tpcc_core.specs.After.{After, is_in_range, posted_requests, served_answers}
use Rattle.tpcc_core.proofs.Begins.{opening_has_begun, start_sound}
use Rattle.tpcc_core.proofs.Sound.{Leads, passes_lead, head_in_range, tail_in_range}
use Rattle.tpcc_core.specs.Runs.{Passes}
use Rattle.tpcc_core.proofs.Running.{passes_both}

pub after_leads : (opening : Opening) (terminals servers : ℕ) (events : List Event) (desk : DeskNow) (after : After opening terminals servers events desk)
    → Leads (opening_desk opening terminals servers) desk (posted_requests after) (served_answers after)
after_leads opening terminals servers events desk after =
    passes_lead (opening_desk opening terminals servers) events desk (start_sound opening terminals servers) after.in_range after.passes

pub posted_is : (opening : Opening) (terminals servers : ℕ) (events : List Event) (desk : DeskNow) (after : After opening terminals servers events desk) (t : ℕ)
    → posted_requests after t ≡ map (λ a. a.request) (served_answers after t) ++ unserved_request (under_way desk t)
posted_is opening terminals servers events desk after t =
    ap (λ qs. qs ++ posted_requests after t) (sym (opening_has_begun opening terminals servers t).none_unserved) ∙ ((after_leads opening terminals servers events desk after).trips t).posts

pub served_is : (opening : Opening) (terminals servers : ℕ) (events : List Event) (desk : DeskNow) (after : After opening terminals servers events desk) (t : ℕ)
    → served_answers after t ≡ collected_of desk t ++ waiting_answer (under_way desk t)
served_is opening terminals servers events desk after t =
    let d = opening_desk opening terminals servers in
    let b = opening_has_begun opening terminals servers t in
    let empty : collected_of d t ++ waiting_answer (under_way d t) ≡ [] = ap (λ cs. cs ++ waiting_answer (under_way d t)) b.none_collected ∙ b.none_waiting in
    ap (λ cs. cs ++ served_answers after t) (sym empty)
    ∙ ((after_leads opening terminals servers events desk after).trips t).served

unserved_last : (part : List Request) (w : Mailbox PurseView) (whole : List Request) → whole ≡ part ++ unserved_request w → IsAllOrAllButLast part whole
unserved_last part (box.Free p) whole is = inl (is ∙ append-nil part)
unserved_last part (box.Posted l) whole is = inr (l.request, is)
unserved_last part (box.Taken s) whole is = inl (is ∙ append-nil part)
unserved_last part (box.Answered a) whole is = inl (is ∙ append-nil part)

waiting_last : (part : List Collected) (w : Mailbox PurseView) (whole : List Collected) → whole ≡ part ++ waiting_answer w → IsAllOrAllButLast part whole
waiting_last part (box.Free p) whole is = inl (is ∙ append-nil part)
waiting_last part (box.Posted l) whole is = inl (is ∙ append-nil part)
waiting_last part (box.Taken s) whole is = inl (is ∙ append-nil part)
waiting_last part (box.Answered a) whole is = inr (kept_of a, is)

pub served_in_order : (opening : Opening) (terminals servers : ℕ) (events : List Event) (desk : DeskNow) (after : After opening terminals servers events desk) (t : ℕ)
    → IsAllOrAllButLast (map (λ a. a.request) (served_answers after t)) (posted_requests after t)
served_in_order opening terminals servers events desk after t =
    unserved_last (map (λ a. a.request) (served_answers after t)) (under_way desk t) (posted_requests after t) (posted_is opening terminals servers events desk after t)

pub collected_in_order : (opening : Opening) (terminals servers : ℕ) (events : List Event) (desk : DeskNow) (after : After opening terminals servers events desk) (t : ℕ)
    → IsAllOrAllButLast (collected_of desk t) (served_answers after t)
collected_in_order opening terminals servers events desk after t =
    waiting_last (collected_of desk t) (under_way desk t) (served_answers after t) (served_is opening terminals servers events desk after t)

-- the journal's entries of the terminal
pub entries_are : (opening : Opening) (terminals servers : ℕ) (events : List Event) (desk : DeskNow) (after : After opening terminals servers events desk) (t : ℕ)
    → entries_by t desk.book.entries ≡ entries_from t 0 (served_answers after t)
entries_are opening terminals servers events desk after t = ((after_leads opening terminals servers events desk after).records t).entries

pub all_recorded : (opening : Opening) (terminals servers : ℕ) (events : List Event) (desk : DeskNow) (after : After opening terminals servers events desk) (t : ℕ)
    → All (IsRecorded desk.book.entries t) (served_answers after t)
all_recorded opening terminals servers events desk after t = ((after_leads opening terminals servers events desk after).records t).recorded

all_first : {X : Type 0} (P : X → Type 0) (xs ys : List X) → All P (xs ++ ys) → All P xs
all_first P [] ys h = All-nil P
all_first P (x ∷ xs) ys h = All-cons P x xs (All-head P x (xs ++ ys) h) (all_first P xs ys (All-tail P x (xs ++ ys) h))

pub collected_recorded : (opening : Opening) (terminals servers : ℕ) (events : List Event) (desk : DeskNow) (after : After opening terminals servers events desk) (t : ℕ)
    → All (IsRecorded desk.book.entries t) (collected_of desk t)
collected_recorded opening terminals servers events desk after t =
    all_first (IsRecorded desk.book.entries t) (collected_of desk t) (waiting_answer (under_way desk t))
    (subst (All (IsRecorded desk.book.entries t)) (served_is opening terminals servers events desk after t) (all_recorded opening terminals servers events desk after t))

-- one list of events after another
and_true : (a b : Bool) → a ≡ true → b ≡ true → a && b ≡ true
and_true a b h k = grind (arith, h, k)

list_all-both : (es later : List Event) → list_all is_in_range es ≡ true → list_all is_in_range later ≡ true → list_all is_in_range (es ++ later) ≡ true
list_all-both [] later h k = k
list_all-both (e ∷ es) later h k = and_true (is_in_range e) (list_all is_in_range (es ++ later)) (head_in_range e es h) (list_all-both es later (tail_in_range e es h) k)

pub opening_desk_after : (opening : Opening) (terminals servers : ℕ) → (1 ≤ terminals) × (terminals ≤ most_purses) → 1 ≤ servers → After opening terminals servers [] (opening_desk opening terminals servers)
opening_desk_after opening terminals servers terminals_in servers_in = record { terminals_in = terminals_in; servers_in = servers_in; in_range = refl; passes = refl }

pub events_more : (opening : Opening) (terminals servers : ℕ) (events later : List Event) (desk last : DeskNow)
    → After opening terminals servers events desk → list_all is_in_range later ≡ true → Passes desk later last → After opening terminals servers (events ++ later) last
events_more opening terminals servers events later desk last after in_range passes =
    record {
      terminals_in = after.terminals_in;
      servers_in = after.servers_in;
      in_range = list_all-both events later after.in_range in_range;
      passes = passes_both (opening_desk opening terminals servers) events later desk last after.passes passes;
    }
