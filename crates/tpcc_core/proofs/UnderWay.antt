-- What each terminal has under way, after each event.
use Rattle.std.proofs.Common.{◌≡◌, ◌∙◌, sym, ap, refl, subst, ℕ, true, false, cond, eqb, ◌≢◌, ⊎_elim, List, [], ◌∷◌, ◌++◌, map, append_assoc, append-nil}
use Rattle.std.specs.Prelude.{Option, Some, None}
use Rattle.std.proofs.lemmas.Bool.Decides.{eqb_tells}
use Rattle.std.proofs.lemmas.List.{map-append}
use Rattle.tpcc_rows.specs.declared.transactions.requests.Request.{Request}
use Rattle.tpcc_book.specs.Purses.{PurseView}
use Rattle.tpcc_book.specs.AnswerView.{AnswerView}
use Rattle.tpcc_core.specs.declared.event.Event.{Event}
use Rattle.tpcc_core.specs.declared.event.Event.TheVariants as event
use Rattle.tpcc_core.specs.declared.mailbox.Collected.{Collected}
use Rattle.tpcc_core.specs.declared.mailbox.Hand.{Hand}
use Rattle.tpcc_core.specs.declared.mailbox.Hand.TheVariants as hand
use Rattle.tpcc_core.specs.declared.mailbox.Letter.{Letter}
use Rattle.tpcc_core.specs.declared.mailbox.Mailbox.{Mailbox}
use Rattle.tpcc_core.specs.declared.mailbox.Mailbox.TheVariants as box
use Rattle.tpcc_core.specs.Seats.{SeatNow, is_free, is_answered}
use Rattle.tpcc_core.specs.SeatSteps.{mailbox_after_post, mailbox_after_collect, waiting_answer, kept_of, seat_after_collect}
use Rattle.tpcc_core.specs.Desks.{DeskNow, item, map_or, collected_of}
use Rattle.tpcc_core.specs.Events.{Steps, IsPostedAt, IsTakenAt, IsServedBy, IsAnsweredBy, IsCollectedAt}
use Rattle.tpcc_core.specs.Flights.{held_for, taken_by, IsOrdered, mailbox_of_hand, brought_back, under_way, unserved_request}
use Rattle.tpcc_core.specs.Shares.{purses_in}
use Rattle.tpcc_core.specs.Traces.{asked_by, answer_in, answered_by}
use Rattle.tpcc_core.proofs.Places.{same-item}
use Rattle.tpcc_core.proofs.Items.{was_at, is_at, else_at, map_or_found, map_or_kept}

abbrev pub home : Mailbox PurseView
home = box.Taken 0

abbrev pub taker_in : Option (SeatNow PurseView) → Option ℕ
taker_in found = map_or None (λ seat. taken_by seat.mailbox) found

abbrev pub way_in : List (Hand PurseView) → Option (SeatNow PurseView) → Mailbox PurseView
way_in hands found = map_or home (λ seat. brought_back hands seat.mailbox) found

-- ---- what a change of one hand does to what terminals have under way

abbrev SameBut : {X : Type 0} → List X → List X → ℕ → Type 0
SameBut old new number = (other : ℕ) → (other ≡ number → ⊥) → item new other ≡ item old other

back_else : (hands hands' : List (Hand PurseView)) (s : ℕ) → SameBut hands hands' s → (b : Mailbox PurseView) → (taken_by b ≡ Some s → ⊥) → brought_back hands' b ≡ brought_back hands b
back_else hands hands' s same (box.Free p) apart = refl
back_else hands hands' s same (box.Posted l) apart = refl
back_else hands hands' s same (box.Taken n) apart = ap (map_or (box.Taken n) (mailbox_of_hand n)) (same n (λ e. apart (ap (λ k. Some k) e)))
back_else hands hands' s same (box.Answered a) apart = refl

way_else : (hands hands' : List (Hand PurseView)) (s : ℕ) → SameBut hands hands' s → (found : Option (SeatNow PurseView)) → (taker_in found ≡ Some s → ⊥) → way_in hands' found ≡ way_in hands found
way_else hands hands' s same None apart = refl
way_else hands hands' s same (Some seat) apart = back_else hands hands' s same seat.mailbox apart

-- what a mailbox taken by a server has under way is in that server's hand
back_held : (hands : List (Hand PurseView)) (s : ℕ) (b : Mailbox PurseView) → taken_by b ≡ Some s → brought_back hands b ≡ brought_back hands (box.Taken s)
back_held hands s (box.Free p) is = absurd cc
back_held hands s (box.Posted l) is = absurd cc
back_held hands s (box.Taken n) is = ap (λ k. brought_back hands (box.Taken k)) (same-item n s is)
back_held hands s (box.Answered a) is = absurd cc

pub way_held : (hands : List (Hand PurseView)) (s : ℕ) (h : Hand PurseView) (found : Option (SeatNow PurseView)) → taker_in found ≡ Some s → item hands s ≡ Some h → way_in hands found ≡ mailbox_of_hand s h
way_held hands s h None is at = absurd cc
way_held hands s h (Some seat) is at = back_held hands s seat.mailbox is ∙ ap (map_or (box.Taken s) (mailbox_of_hand s)) at

-- ---- the way of a terminal over one event: what is under way before and after it, what was collected, and what was asked and told
pub record Travels (w w' : Mailbox PurseView) (c c' : List Collected) (asked : List Request) (answered : List Collected) : Type 0 where
  pub posts : unserved_request w ++ asked ≡ map (λ a. a.request) answered ++ unserved_request w'
  pub served : c ++ waiting_answer w ++ answered ≡ c' ++ waiting_answer w'
  pub purses : map (λ p. p.terminal) (purses_in w') ≡ map (λ p. p.terminal) (purses_in w)

abbrev pub Trip : ℕ → DeskNow → DeskNow → List Request → List Collected → Type 0
Trip t d m asked answered = Travels (under_way d t) (under_way m t) (collected_of d t) (collected_of m t) asked answered

travels_at : (v v' w w' : Mailbox PurseView) (x x' c c' : List Collected) (asked : List Request) (answered : List Collected)
    → w ≡ v → w' ≡ v' → c ≡ x → c' ≡ x' → Travels v v' x x' asked answered → Travels w w' c c' asked answered
travels_at v v' w w' x x' c c' asked answered e f g h trip =
    subst (λ z. Travels z w' c c' asked answered) (sym e)
    (subst (λ z. Travels v z c c' asked answered) (sym f)
    (subst (λ z. Travels v v' z c' asked answered) (sym g)
    (subst (λ z. Travels v v' x z asked answered) (sym h) trip)))

stays : (w : Mailbox PurseView) (c : List Collected) → Travels w w c c [] []
stays w c = record { posts = append-nil (unserved_request w); served = append-nil (c ++ waiting_answer w); purses = refl }

pub trip_stays : (t : ℕ) (d m : DeskNow) → under_way m t ≡ under_way d t → collected_of m t ≡ collected_of d t → Trip t d m [] []
trip_stays t d m way collected =
    travels_at (under_way d t) (under_way d t) (under_way d t) (under_way m t) (collected_of d t) (collected_of d t) (collected_of d t) (collected_of m t) [] []
    refl way refl collected (stays (under_way d t) (collected_of d t))

-- ---- Post

free_box : (b : Mailbox PurseView) → is_free b ≡ true → (purse : PurseView) × (b ≡ box.Free purse)
free_box (box.Free p) is = (p, refl)
free_box (box.Posted l) is = absurd cc
free_box (box.Taken s) is = absurd cc
free_box (box.Answered a) is = absurd cc

post_here : (d m : DeskNow) (t : ℕ) (q : Request) → IsPostedAt d t q m → Trip t d m (q ∷ []) []
post_here d m t q p =
    let free = free_box p.seat.mailbox p.ready in
    let letter : Letter PurseView = record { request = q; purse = free.0 } in
    let new = record p.seat { mailbox = mailbox_after_post p.seat.mailbox q } in
    travels_at (box.Free free.0) (box.Posted letter) (under_way d t) (under_way m t) p.seat.collected p.seat.collected (collected_of d t) (collected_of m t) (q ∷ []) []
    (map_or_found home (λ seat. brought_back d.hands seat.mailbox) d.seats t p.seat (was_at d.seats m.seats t p.seat new p.seats) ∙ ap (brought_back d.hands) free.1)
    (map_or_found home (λ seat. brought_back m.hands seat.mailbox) m.seats t new (is_at d.seats m.seats t p.seat new p.seats) ∙ ap (λ b. brought_back m.hands (mailbox_after_post b q)) free.1)
    (map_or_found [] (λ seat. seat.collected) d.seats t p.seat (was_at d.seats m.seats t p.seat new p.seats))
    (map_or_found [] (λ seat. seat.collected) m.seats t new (is_at d.seats m.seats t p.seat new p.seats))
    (record { posts = refl; served = append-nil (p.seat.collected ++ []); purses = refl })

-- what is the same of all seats but one
seats_else : (d m : DeskNow) (t other : ℕ) → m.hands ≡ d.hands → item m.seats other ≡ item d.seats other → Trip other d m [] []
seats_else d m t other hands same =
    trip_stays other d m (ap (λ hs. way_in hs (item m.seats other)) hands ∙ ap (way_in d.hands) same) (ap (map_or [] (λ seat. seat.collected)) same)

post_trip : (d m : DeskNow) (t : ℕ) (q : Request) → IsPostedAt d t q m → (n : ℕ) → Trip n d m (asked_by n (event.Post t q)) []
post_trip d m t q p n =
    ⊎_elim
    (λ (yes : (eqb t n ≡ true) × (t ≡ n)). subst (λ b. Trip n d m (cond b (q ∷ []) []) []) (sym yes.0) (subst (λ k. Trip k d m (q ∷ []) []) yes.1 (post_here d m t q p)))
    (λ (not : (eqb t n ≡ false) × (t ≢ n)). subst (λ b. Trip n d m (cond b (q ∷ []) []) []) (sym not.0)
    (seats_else d m t n (ap (λ (x : DeskNow). x.hands) p.rest) (else_at d.seats m.seats t _ _ n p.seats (λ e. not.1 (sym e)))))
    (eqb_tells t n)

-- ---- Collect

answered_box : (b : Mailbox PurseView) → is_answered b ≡ true → (answer : AnswerView PurseView) × (b ≡ box.Answered answer)
answered_box (box.Free p) is = absurd cc
answered_box (box.Posted l) is = absurd cc
answered_box (box.Taken s) is = absurd cc
answered_box (box.Answered a) is = (a, refl)

collect_here : (d m : DeskNow) (t : ℕ) → IsCollectedAt d t m → Trip t d m [] []
collect_here d m t p =
    let answered = answered_box p.seat.mailbox p.ready in
    let answer = answered.0 in
    let new = seat_after_collect p.seat in
    travels_at (box.Answered answer) (box.Free answer.purse) (under_way d t) (under_way m t) p.seat.collected (p.seat.collected ++ kept_of answer ∷ []) (collected_of d t) (collected_of m t) [] []
    (map_or_found home (λ seat. brought_back d.hands seat.mailbox) d.seats t p.seat (was_at d.seats m.seats t p.seat new p.seats) ∙ ap (brought_back d.hands) answered.1)
    (map_or_found home (λ seat. brought_back m.hands seat.mailbox) m.seats t new (is_at d.seats m.seats t p.seat new p.seats) ∙ ap (λ b. brought_back m.hands (mailbox_after_collect b)) answered.1)
    (map_or_found [] (λ seat. seat.collected) d.seats t p.seat (was_at d.seats m.seats t p.seat new p.seats))
    (map_or_found [] (λ seat. seat.collected) m.seats t new (is_at d.seats m.seats t p.seat new p.seats) ∙ ap (λ b. p.seat.collected ++ waiting_answer b) answered.1)
    (record { posts = refl; served = refl; purses = refl })

collect_trip : (d m : DeskNow) (t : ℕ) → IsCollectedAt d t m → (n : ℕ) → Trip n d m [] []
collect_trip d m t p n =
    ⊎_elim
    (λ (yes : (eqb t n ≡ true) × (t ≡ n)). subst (λ k. Trip k d m [] []) yes.1 (collect_here d m t p))
    (λ (not : (eqb t n ≡ false) × (t ≢ n)). seats_else d m t n (ap (λ (x : DeskNow). x.hands) p.rest) (else_at d.seats m.seats t _ _ n p.seats (λ e. not.1 (sym e))))
    (eqb_tells t n)

-- ---- Take and Answer: the letter or answer goes between a mailbox and a hand, and is under way as before

-- of all terminals but the one whose letter is in the hand
way_other : (d m : DeskNow) (s n : ℕ) → IsOrdered d → SameBut d.hands m.hands s → (map_or None held_for (item d.hands s) ≡ Some n → ⊥) → item m.seats n ≡ item d.seats n → under_way m n ≡ under_way d n
way_other d m s n ordered hands apart same =
    ap (way_in m.hands) same ∙ way_else d.hands m.hands s hands (item d.seats n) (λ taken. apart ((ordered s n).1 taken))

not_same : (o : Option ℕ) (a b : ℕ) → o ≡ Some a → (a ≡ b → ⊥) → o ≡ Some b → ⊥
not_same o a b is apart also = apart (same-item a b (sym is ∙ also))

take_trip : (d m : DeskNow) (s t : ℕ) → IsOrdered d → IsTakenAt d s t m → (n : ℕ) → Trip n d m [] []
take_trip d m s t ordered p n =
    let new = record p.seat { mailbox = box.Taken s } in
    let was = was_at d.seats m.seats t p.seat new p.seats in
    let is = is_at d.seats m.seats t p.seat new p.seats in
    let letter = is_at d.hands m.hands s hand.Empty (hand.Holds t p.letter) p.hands in
    let before : under_way d t ≡ box.Posted p.letter = map_or_found home (λ seat. brought_back d.hands seat.mailbox) d.seats t p.seat was ∙ ap (brought_back d.hands) p.ready in
    let after : under_way m t ≡ box.Posted p.letter = way_held m.hands s (hand.Holds t p.letter) (item m.seats t) (map_or_found None (λ seat. taken_by seat.mailbox) m.seats t new is) letter in
    let empty : map_or None held_for (item d.hands s) ≡ None = ap (map_or None held_for) (was_at d.hands m.hands s hand.Empty (hand.Holds t p.letter) p.hands) in
    trip_stays n d m
    (⊎_elim
    (λ (yes : (eqb t n ≡ true) × (t ≡ n)). subst (λ k. under_way m k ≡ under_way d k) yes.1 (after ∙ sym before))
    (λ (not : (eqb t n ≡ false) × (t ≢ n)).
    way_other d m s n ordered (λ other. else_at d.hands m.hands s _ _ other p.hands) (λ held. nothing _ n empty held) (else_at d.seats m.seats t _ _ n p.seats (λ e. not.1 (sym e))))
    (eqb_tells t n))
    (map_or_kept [] (λ seat. seat.collected) d.seats m.seats t p.seat new n p.seats refl)
  where
    nothing : (o : Option ℕ) (a : ℕ) → o ≡ None → o ≡ Some a → ⊥
    nothing o a h k = absurd cc

answer_trip : (d m : DeskNow) (s : ℕ) → IsOrdered d → IsAnsweredBy d s m → (n : ℕ) → Trip n d m [] []
answer_trip d m s ordered p n =
    let t = p.terminal in
    let new = record p.seat { mailbox = box.Answered p.answer } in
    let is = is_at d.seats m.seats t p.seat new p.seats in
    let answer = was_at d.hands m.hands s (hand.Served t p.answer) hand.Empty p.hands in
    let held : map_or None held_for (item d.hands s) ≡ Some t = ap (map_or None held_for) answer in
    let before : under_way d t ≡ box.Answered p.answer = way_held d.hands s (hand.Served t p.answer) (item d.seats t) ((ordered s t).0 held) answer in
    let after : under_way m t ≡ box.Answered p.answer = map_or_found home (λ seat. brought_back m.hands seat.mailbox) m.seats t new is in
    trip_stays n d m
    (⊎_elim
    (λ (yes : (eqb t n ≡ true) × (t ≡ n)). subst (λ k. under_way m k ≡ under_way d k) yes.1 (after ∙ sym before))
    (λ (not : (eqb t n ≡ false) × (t ≢ n)).
    way_other d m s n ordered (λ other. else_at d.hands m.hands s _ _ other p.hands) (not_same _ t n held not.1) (else_at d.seats m.seats t _ _ n p.seats (λ e. not.1 (sym e))))
    (eqb_tells t n))
    (map_or_kept [] (λ seat. seat.collected) d.seats m.seats t p.seat new n p.seats refl)

-- ---- Serve: the letter in the hand becomes its answer

-- an answer by the letter's purse, to its request
pub record IsAnswerTo (letter : Letter PurseView) (answer : AnswerView PurseView) : Type 0 where
  pub request : answer.request ≡ letter.request
  pub terminal : answer.purse.terminal ≡ letter.purse.terminal

answers : (letter : Letter PurseView) (answer : AnswerView PurseView) (c : List Collected) → IsAnswerTo letter answer → Travels (box.Posted letter) (box.Answered answer) c c [] (kept_of answer ∷ [])
answers letter answer c to =
    record {
      posts = ap (λ q. q ∷ []) (sym to.request);
      served = ap (λ xs. xs ++ kept_of answer ∷ []) (append-nil c);
      purses = ap (λ n. n ∷ []) to.terminal;
    }

pub serve_trip : (d m : DeskNow) (s : ℕ) → IsOrdered d → (p : IsServedBy d s m) → IsAnswerTo p.served.letter p.served.answer → (n : ℕ) → Trip n d m [] (answered_by n (event.Serve s) m)
serve_trip d m s ordered p to n =
    let t = p.served.terminal in
    let letter = p.served.letter in
    let answer = p.served.answer in
    let was : item d.hands s ≡ Some (hand.Holds t letter) = was_at d.hands m.hands s p.held p.holds p.hands ∙ ap (λ h. Some h) p.served.was in
    let is : item m.hands s ≡ Some (hand.Served t answer) = is_at d.hands m.hands s p.held p.holds p.hands ∙ ap (λ h. Some h) p.served.is in
    let seats : m.seats ≡ d.seats = ap (λ (x : DeskNow). x.seats) p.rest in
    let held : map_or None held_for (item d.hands s) ≡ Some t = ap (map_or None held_for) was in
    let taken : taker_in (item d.seats t) ≡ Some s = (ordered s t).0 held in
    let same : (k : ℕ) → item m.seats k ≡ item d.seats k = λ k. ap (λ ss. item ss k) seats in
    let before : under_way d t ≡ box.Posted letter = way_held d.hands s (hand.Holds t letter) (item d.seats t) taken was in
    let after : under_way m t ≡ box.Answered answer = way_held m.hands s (hand.Served t answer) (item m.seats t) (ap taker_in (same t) ∙ taken) is in
    let told_is : answered_by n (event.Serve s) m ≡ cond (eqb t n) (kept_of answer ∷ []) [] = ap (map_or [] (answer_in n)) is in
    let here : Trip t d m [] (kept_of answer ∷ []) =
    travels_at (box.Posted letter) (box.Answered answer) (under_way d t) (under_way m t) (collected_of d t) (collected_of d t) (collected_of d t) (collected_of m t) [] (kept_of answer ∷ [])
    before after refl (ap (map_or [] (λ seat. seat.collected)) (same t)) (answers letter answer (collected_of d t) to) in
    subst (Trip n d m []) (sym told_is)
    (⊎_elim
    (λ (yes : (eqb t n ≡ true) × (t ≡ n)). subst (λ b. Trip n d m [] (cond b (kept_of answer ∷ []) [])) (sym yes.0) (subst (λ k. Trip k d m [] (kept_of answer ∷ [])) yes.1 here))
    (λ (not : (eqb t n ≡ false) × (t ≢ n)). subst (λ b. Trip n d m [] (cond b (kept_of answer ∷ []) [])) (sym not.0)
    (trip_stays n d m
    (way_other d m s n ordered (λ other. else_at d.hands m.hands s _ _ other p.hands) (not_same _ t n held not.1) (same n))
    (ap (map_or [] (λ seat. seat.collected)) (same n))))
    (eqb_tells t n))

-- ---- one event after another

pub further : (w v u : Mailbox PurseView) (c x z : List Collected) (asked more : List Request) (answered later : List Collected)
    → Travels w v c x asked answered → Travels v u x z more later → Travels w u c z (asked ++ more) (answered ++ later)
further w v u c x z asked more answered later one two =
    record {
      posts = sym (append_assoc (unserved_request w) asked more)
          ∙ (ap (λ qs. qs ++ more) one.posts
          ∙ (append_assoc (map (λ a. a.request) answered) (unserved_request v) more
          ∙ (ap (λ qs. map (λ a. a.request) answered ++ qs) two.posts
          ∙ (sym (append_assoc (map (λ a. a.request) answered) (map (λ a. a.request) later) (unserved_request u))
          ∙ ap (λ qs. qs ++ unserved_request u) (sym (map-append (λ a. a.request) answered later))))));
      served = sym (append_assoc (c ++ waiting_answer w) answered later) ∙ (ap (λ cs. cs ++ later) one.served ∙ two.served);
      purses = two.purses ∙ one.purses;
    }

-- every event but Serve
pub quiet_trip : (d : DeskNow) (e : Event) (m : DeskNow) → IsOrdered d → Steps d e m
    → ((s : ℕ) → IsServedBy d s m → (n : ℕ) → Trip n d m [] (answered_by n (event.Serve s) m)) → (n : ℕ) → Trip n d m (asked_by n e) (answered_by n e m)
quiet_trip d (event.Post t q) m ordered step serve n = post_trip d m t q step n
quiet_trip d (event.Take s t) m ordered step serve n = take_trip d m s t ordered step n
quiet_trip d (event.Serve s) m ordered step serve n = serve s step n
quiet_trip d (event.Answer s) m ordered step serve n = answer_trip d m s ordered step n
quiet_trip d (event.Collect t) m ordered step serve n = collect_trip d m t step n
quiet_trip d event.Close m ordered step serve n =
    trip_stays n d m (ap (λ (x : DeskNow). under_way x n) step) (ap (λ (x : DeskNow). collected_of x n) step)
