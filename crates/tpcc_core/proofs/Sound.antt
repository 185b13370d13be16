-- What every event keeps, and what a list of them comes to for each terminal.
use Rattle.std.proofs.Common.{◌≡◌, ◌∙◌, sym, ap, refl, subst, ℕ, Bool, true, false, cond, eqb, List, [], ◌∷◌, ◌++◌, map, arith}
use Rattle.std.specs.Prelude.{Some, None, Result, Ok, Err, MatchResult}
use Rattle.std.specs.List.{list_all}
use Rattle.tpcc_rows.specs.declared.transactions.requests.Request.{Request}
use Rattle.tpcc_rows.specs.declared.transactions.replies.Reply.{Reply}
use Rattle.tpcc_rows.specs.declared.transactions.refusals.Refusal.{Refusal}
use Rattle.tpcc_rows.specs.Moments.{has_moment_in_range}
use Rattle.tpcc_rows.specs.Replay.{paid_by_request}
use Rattle.tpcc_book.specs.Past.{Past}
use Rattle.tpcc_book.specs.Purses.{PurseView}
use Rattle.tpcc_book.specs.AnswerView.{AnswerView}
use Rattle.tpcc_book.specs.Serve.{IsServed, purse_after}
use Rattle.tpcc_core.specs.declared.event.Event.{Event}
use Rattle.tpcc_core.specs.declared.event.Event.TheVariants as event
use Rattle.tpcc_core.specs.declared.mailbox.Collected.{Collected}
use Rattle.tpcc_core.specs.declared.mailbox.Hand.TheVariants as hand
use Rattle.tpcc_core.specs.declared.mailbox.Letter.{Letter}
use Rattle.tpcc_core.specs.declared.mailbox.Mailbox.TheVariants as box
use Rattle.tpcc_core.specs.SeatSteps.{kept_of}
use Rattle.tpcc_core.specs.Desks.{DeskNow, item, map_or, collected_of}
use Rattle.tpcc_core.specs.Events.{is_ready, Steps, IsServedBy}
use Rattle.tpcc_core.specs.Runs.{MovesBy, Passes}
use Rattle.tpcc_core.specs.Flights.{held_for, IsOrdered, under_way, unserved_request}
use Rattle.tpcc_core.specs.Shares.{purses_in}
use Rattle.tpcc_core.specs.Traces.{asked_by, answer_in, answered_by, posts_of, served_of}
use Rattle.tpcc_core.specs.After.{is_in_range}
use Rattle.tpcc_core.proofs.Items.{was_at, is_at}
use Rattle.tpcc_core.proofs.Order.{step_ordered}
use Rattle.tpcc_core.proofs.UnderWay.{Trip, IsAnswerTo, trip_stays, quiet_trip, serve_trip, further, way_held}
use Rattle.tpcc_core.proofs.Journals.{Records, nothing_new, later_records, serve_records, answer_for}

-- ---- requests whose moments are in range

abbrev AreInRange : List Request → Type 0
AreInRange requests = list_all has_moment_in_range requests ≡ true

in_range_last : (xs ys : List Request) → AreInRange (xs ++ ys) → AreInRange ys
in_range_last [] ys h = h
in_range_last (x ∷ xs) ys h = grind (arith, in_range_last xs ys)

in_range_both : (xs ys : List Request) → AreInRange xs → AreInRange ys → AreInRange (xs ++ ys)
in_range_both [] ys h k = k
in_range_both (x ∷ xs) ys h k = grind (arith, in_range_both xs ys)

asked_if : (b : Bool) (q : Request) → has_moment_in_range q ≡ true → AreInRange (cond b (q ∷ []) [])
asked_if true q h = grind (arith, h)
asked_if false q h = refl

asked_in_range : (t : ℕ) (e : Event) → is_in_range e ≡ true → AreInRange (asked_by t e)
asked_in_range t (event.Post n q) h = asked_if (eqb n t) q h
asked_in_range t (event.Take s n) h = refl
asked_in_range t (event.Serve s) h = refl
asked_in_range t (event.Answer s) h = refl
asked_in_range t (event.Collect n) h = refl
asked_in_range t event.Close h = refl

-- ---- what every desk keeps: no letter is in two places, each purse under way is its terminal's, and moments are in range
pub record IsSound (d : DeskNow) : Type 0 where
  pub ordered : IsOrdered d
  pub own : (t owner : ℕ) → map (λ p. p.terminal) (purses_in (under_way d t)) ≡ owner ∷ [] → owner ≡ t
  pub in_range : (t : ℕ) → AreInRange (unserved_request (under_way d t))

-- ---- an answer is by the letter's purse

by_purse : (request : Request) (was is : PurseView) (o : Result Reply Refusal)
    → MatchResult o (λ reply. is ≡ purse_after was (paid_by_request request)) (λ refusal. is ≡ was) → is.terminal ≡ was.terminal
by_purse request was is (Ok reply) h = ap (λ (p : PurseView). p.terminal) h
by_purse request was is (Err refusal) h = ap (λ (p : PurseView). p.terminal) h

answers_to : (old new : Past) (letter : Letter PurseView) (answer : AnswerView PurseView) → IsServed old letter.request letter.purse answer new → IsAnswerTo letter answer
answers_to old new letter answer served =
    record { request = served.fits.request_is; terminal = by_purse letter.request letter.purse answer.purse answer.outcome served.fits.purse_is }

-- what is under way of the terminal that is served
pub served_way : (d m : DeskNow) (s : ℕ) → IsOrdered d → (p : IsServedBy d s m) → under_way d p.served.terminal ≡ box.Posted p.served.letter
served_way d m s ordered p =
    let t = p.served.terminal in
    let was : item d.hands s ≡ Some (hand.Holds t p.served.letter) = was_at d.hands m.hands s p.held p.holds p.hands ∙ ap (λ h. Some h) p.served.was in
    way_held d.hands s (hand.Holds t p.served.letter) (item d.seats t) ((ordered s t).0 (ap (map_or None held_for) was)) was

pub served_purse : (d m : DeskNow) (s : ℕ) → IsSound d → (p : IsServedBy d s m) → p.served.letter.purse.terminal ≡ p.served.terminal
served_purse d m s sound p =
    sound.own p.served.terminal p.served.letter.purse.terminal (ap (λ w. map (λ p. p.terminal) (purses_in w)) (served_way d m s sound.ordered p))

pub served_in_range : (d m : DeskNow) (s : ℕ) → IsSound d → (p : IsServedBy d s m) → has_moment_in_range p.served.letter.request ≡ true
served_in_range d m s sound p =
    one p.served.letter.request (subst (λ w. AreInRange (unserved_request w)) (served_way d m s sound.ordered p) (sound.in_range p.served.terminal))
  where
    one : (q : Request) → AreInRange (q ∷ []) → has_moment_in_range q ≡ true
    one q h = grind (arith, h)

-- ---- one event

step_trips : (d : DeskNow) (e : Event) (m : DeskNow) → IsSound d → Steps d e m → (n : ℕ) → Trip n d m (asked_by n e) (answered_by n e m)
step_trips d e m sound step =
    quiet_trip d e m sound.ordered step (λ s p. serve_trip d m s sound.ordered p (answers_to d.book m.book p.served.letter p.served.answer p.served.served))

serve_step : (d m : DeskNow) (s n : ℕ) → IsSound d → IsServedBy d s m → Records n d.book.entries m.book.entries (answered_by n (event.Serve s) m)
serve_step d m s n sound p =
    let answer = p.served.answer in
    let is : item m.hands s ≡ Some (hand.Served p.served.terminal answer) = is_at d.hands m.hands s p.held p.holds p.hands ∙ ap (λ h. Some h) p.served.is in
    let told_is : answered_by n (event.Serve s) m ≡ answer_for p.served.terminal n (kept_of answer) = ap (map_or [] (answer_in n)) is in
    subst (Records n d.book.entries m.book.entries) (sym told_is)
    (subst (λ k. Records n d.book.entries m.book.entries (answer_for k n (kept_of answer))) (served_purse d m s sound p)
    (serve_records d.book m.book p.served.letter.request p.served.letter.purse answer n p.served.served))

step_records : (d : DeskNow) (e : Event) (m : DeskNow) → IsSound d → Steps d e m → (n : ℕ) → Records n d.book.entries m.book.entries (answered_by n e m)
step_records d (event.Post t q) m sound step n = nothing_new n d.book.entries m.book.entries (ap (λ (x : DeskNow). x.book.entries) step.rest)
step_records d (event.Take s t) m sound step n = nothing_new n d.book.entries m.book.entries (ap (λ (x : DeskNow). x.book.entries) step.rest)
step_records d (event.Serve s) m sound step n = serve_step d m s n sound step
step_records d (event.Answer s) m sound step n = nothing_new n d.book.entries m.book.entries (ap (λ (x : DeskNow). x.book.entries) step.rest)
step_records d (event.Collect t) m sound step n = nothing_new n d.book.entries m.book.entries (ap (λ (x : DeskNow). x.book.entries) step.rest)
step_records d event.Close m sound step n = nothing_new n d.book.entries m.book.entries (ap (λ (x : DeskNow). x.book.entries) step)

sound_after : (d m : DeskNow) (asked : ℕ → List Request) (answered : ℕ → List Collected) → IsSound d → IsOrdered m
    → ((n : ℕ) → AreInRange (asked n)) → ((n : ℕ) → Trip n d m (asked n) (answered n)) → IsSound m
sound_after d m asked answered sound ordered in_range trips =
    record {
      ordered = ordered;
      own = λ t owner is. sound.own t owner (sym (trips t).purses ∙ is);
      in_range = λ t. in_range_last (map (λ a. a.request) (answered t)) (unserved_request (under_way m t))
          (subst AreInRange (trips t).posts (in_range_both (unserved_request (under_way d t)) (asked t) (sound.in_range t) (in_range t)));
    }

-- from one desk to a later one
pub record Leads (d m : DeskNow) (asked : ℕ → List Request) (answered : ℕ → List Collected) : Type 0 where
  pub sound : IsSound m
  pub trips : (n : ℕ) → Trip n d m (asked n) (answered n)
  pub records : (n : ℕ) → Records n d.book.entries m.book.entries (answered n)

pub move_leads : (b : Bool) (d : DeskNow) (e : Event) (m : DeskNow) → IsSound d → is_in_range e ≡ true → MovesBy b d e m
    → Leads d m (λ n. cond b (asked_by n e) []) (λ n. cond b (answered_by n e m) [])
move_leads true d e m sound in_range step =
    record {
      sound = sound_after d m (λ n. asked_by n e) (λ n. answered_by n e m) sound (step_ordered d e m sound.ordered step) (λ n. asked_in_range n e in_range) (step_trips d e m sound step);
      trips = step_trips d e m sound step;
      records = step_records d e m sound step;
    }
move_leads false d e m sound in_range same =
    record {
      sound = subst IsSound (sym same) sound;
      trips = λ n. trip_stays n d m (ap (λ x. under_way x n) same) (ap (λ x. collected_of x n) same);
      records = λ n. nothing_new n d.book.entries m.book.entries (ap (λ (x : DeskNow). x.book.entries) same);
    }

-- a list of events
pub head_in_range : (e : Event) (es : List Event) → list_all is_in_range (e ∷ es) ≡ true → is_in_range e ≡ true
head_in_range e es h = grind (arith, h)

pub tail_in_range : (e : Event) (es : List Event) → list_all is_in_range (e ∷ es) ≡ true → list_all is_in_range es ≡ true
tail_in_range e es h = grind (arith, h)

pub passes_lead : (d : DeskNow) (es : List Event) (n : DeskNow) → IsSound d → list_all is_in_range es ≡ true → (p : Passes d es n)
    → Leads d n (λ t. posts_of t d es n p) (λ t. served_of t d es n p)
passes_lead d [] n sound in_range same =
    record {
      sound = subst IsSound (sym same) sound;
      trips = λ t. trip_stays t d n (ap (λ x. under_way x t) same) (ap (λ x. collected_of x t) same);
      records = λ t. nothing_new t d.book.entries n.book.entries (ap (λ (x : DeskNow). x.book.entries) same);
    }
passes_lead d (e ∷ es) n sound in_range p =
    let m = p.0 in
    let one = move_leads (is_ready d e) d e m sound (head_in_range e es in_range) p.1 in
    let rest = passes_lead m es n one.sound (tail_in_range e es in_range) p.2 in
    record {
      sound = rest.sound;
      trips = λ t. further (under_way d t) (under_way m t) (under_way n t) (collected_of d t) (collected_of m t) (collected_of n t)
          (cond (is_ready d e) (asked_by t e) []) (posts_of t m es n p.2) (cond (is_ready d e) (answered_by t e m) []) (served_of t m es n p.2) (one.trips t) (rest.trips t);
      records = λ t. later_records t d.book.entries m.book.entries n.book.entries (cond (is_ready d e) (answered_by t e m) []) (served_of t m es n p.2) (one.records t) (rest.records t);
    }
