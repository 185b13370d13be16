-- A letter or its answer is in one place alone, whatever happens.
use Rattle.std.proofs.Common.{◌≡◌, ◌∙◌, sym, ap, refl, subst, ℕ, zero, suc, true, false, ⊎_elim, List, [], ◌∷◌, ◌++◌, length}
use Rattle.std.specs.Prelude.{Option, Some, None, slice_get, ◌↔◌}
use Rattle.tpcc_rows.specs.declared.transactions.requests.Request.{Request}
use Rattle.tpcc_population.specs.declared.opening.Opening.{Opening}
use Rattle.tpcc_book.specs.Purses.{PurseView}
use Rattle.tpcc_core.specs.declared.event.Event.{Event}
use Rattle.tpcc_core.specs.declared.event.Event.TheVariants as event
use Rattle.tpcc_core.specs.declared.mailbox.Hand.{Hand}
use Rattle.tpcc_core.specs.declared.mailbox.Hand.TheVariants as hand
use Rattle.tpcc_core.specs.declared.mailbox.Mailbox.{Mailbox}
use Rattle.tpcc_core.specs.declared.mailbox.Mailbox.TheVariants as box
use Rattle.tpcc_core.specs.Seats.{SeatNow, is_taken}
use Rattle.tpcc_core.specs.SeatSteps.{mailbox_after_post, mailbox_after_collect}
use Rattle.tpcc_core.specs.Desks.{DeskNow, place_of, item_in, item, map_or}
use Rattle.tpcc_core.specs.Hands.{holds_answer}
use Rattle.tpcc_core.specs.Events.{tests_in, tests_at, answer_place, can_answer, Steps, IsPostedAt, IsTakenAt, IsServedBy, IsAnsweredBy, IsCollectedAt}
use Rattle.tpcc_core.specs.Flights.{held_for, taken_by, IsOrdered}
use Rattle.tpcc_core.specs.OpeningDesk.{seats_of, hands_of, seat_of, opening_desk}
use Rattle.tpcc_core.proofs.Places.{same-item}
use Rattle.tpcc_core.proofs.Items.{same_number, was_at, is_at, else_at, map_or_found, map_or_kept}

-- two look-ups, each of which undoes the other
abbrev Points : (ℕ → Option ℕ) → (ℕ → Option ℕ) → Type 0
Points h k = (a b : ℕ) → h a ≡ Some b → k b ≡ Some a

abbrev AreMates : (ℕ → Option ℕ) → (ℕ → Option ℕ) → Type 0
AreMates h k = (a b : ℕ) → (h a ≡ Some b) ↔ (k b ≡ Some a)

nothing : (o : Option ℕ) (a : ℕ) → o ≡ None → o ≡ Some a → ⊥
nothing o a h k = absurd cc

-- one more pair
one_pair_more : (h h' k k' : ℕ → Option ℕ) (s t : ℕ) → Points h k → k t ≡ None → h' s ≡ Some t → k' t ≡ Some s
    → ((n : ℕ) → (n ≡ s → ⊥) → h' n ≡ h n) → ((n : ℕ) → (n ≡ t → ⊥) → k' n ≡ k n) → Points h' k'
one_pair_more h h' k k' s t points none here there h_else k_else a b is =
    ⊎_elim (λ (e : a ≡ s).
    let f : t ≡ b = same-item t b (sym here ∙ (ap h' (sym e) ∙ is)) in
    ap k' (sym f) ∙ (there ∙ ap (λ n. Some n) (sym e)))
    (λ (apart : a ≡ s → ⊥).
    let was : k b ≡ Some a = points a b (sym (h_else a apart) ∙ is) in
    k_else b (λ f. nothing (k b) a (ap k f ∙ none) was) ∙ was)
    (same_number a s)

-- one pair less
one_pair_less : (h h' k k' : ℕ → Option ℕ) (s t : ℕ) → Points h k → k t ≡ Some s → h' s ≡ None
    → ((n : ℕ) → (n ≡ s → ⊥) → h' n ≡ h n) → ((n : ℕ) → (n ≡ t → ⊥) → k' n ≡ k n) → Points h' k'
one_pair_less h h' k k' s t points pair none h_else k_else a b is =
    ⊎_elim (λ (e : a ≡ s). absurd (nothing (h' a) b (ap h' e ∙ none) is))
    (λ (apart : a ≡ s → ⊥).
    let was : k b ≡ Some a = points a b (sym (h_else a apart) ∙ is) in
    k_else b (λ f. apart (same-item a s (sym was ∙ (ap k f ∙ pair)))) ∙ was)
    (same_number a s)

-- the same in both
same_mates : (h h' k k' : ℕ → Option ℕ) → AreMates h k → ((n : ℕ) → h' n ≡ h n) → ((n : ℕ) → k' n ≡ k n) → AreMates h' k'
same_mates h h' k k' mates hs ks a b =
    (λ is. ks b ∙ (mates a b).0 (sym (hs a) ∙ is), λ is. hs a ∙ (mates a b).1 (sym (ks b) ∙ is))

-- what is in a hand, and what was taken
abbrev hand_of : List (Hand PurseView) → ℕ → Option ℕ
hand_of hands server = map_or None held_for (item hands server)

abbrev taker_of : List (SeatNow PurseView) → ℕ → Option ℕ
taker_of seats terminal = map_or None (λ seat. taken_by seat.mailbox) (item seats terminal)

-- ---- each event

post_keeps_taken : (b : Mailbox PurseView) (q : Request) → taken_by (mailbox_after_post b q) ≡ taken_by b
post_keeps_taken (box.Free p) q = refl
post_keeps_taken (box.Posted l) q = refl
post_keeps_taken (box.Taken s) q = refl
post_keeps_taken (box.Answered a) q = refl

collect_keeps_taken : (b : Mailbox PurseView) → taken_by (mailbox_after_collect b) ≡ taken_by b
collect_keeps_taken (box.Free p) = refl
collect_keeps_taken (box.Posted l) = refl
collect_keeps_taken (box.Taken s) = refl
collect_keeps_taken (box.Answered a) = refl

post_ordered : (d m : DeskNow) (t : ℕ) (q : Request) → IsOrdered d → IsPostedAt d t q m → IsOrdered m
post_ordered d m t q ordered p =
    same_mates (hand_of d.hands) (hand_of m.hands) (taker_of d.seats) (taker_of m.seats) ordered
    (λ n. ap (λ (x : DeskNow). hand_of x.hands n) p.rest)
    (λ n. map_or_kept None (λ seat. taken_by seat.mailbox) d.seats m.seats t p.seat (record p.seat { mailbox = mailbox_after_post p.seat.mailbox q }) n p.seats (post_keeps_taken p.seat.mailbox q))

collect_ordered : (d m : DeskNow) (t : ℕ) → IsOrdered d → IsCollectedAt d t m → IsOrdered m
collect_ordered d m t ordered p =
    same_mates (hand_of d.hands) (hand_of m.hands) (taker_of d.seats) (taker_of m.seats) ordered
    (λ n. ap (λ (x : DeskNow). hand_of x.hands n) p.rest)
    (λ n. map_or_kept None (λ seat. taken_by seat.mailbox) d.seats m.seats t p.seat _ n p.seats (collect_keeps_taken p.seat.mailbox))

serve_ordered : (d m : DeskNow) (s : ℕ) → IsOrdered d → IsServedBy d s m → IsOrdered m
serve_ordered d m s ordered p =
    same_mates (hand_of d.hands) (hand_of m.hands) (taker_of d.seats) (taker_of m.seats) ordered
    (λ n. map_or_kept None held_for d.hands m.hands s p.held p.holds n p.hands (ap held_for p.served.is ∙ sym (ap held_for p.served.was)))
    (λ n. ap (λ (x : DeskNow). taker_of x.seats n) p.rest)

take_ordered : (d m : DeskNow) (s t : ℕ) → IsOrdered d → IsTakenAt d s t m → IsOrdered m
take_ordered d m s t ordered p =
    let h = hand_of d.hands in let h' = hand_of m.hands in let k = taker_of d.seats in let k' = taker_of m.seats in
    let empty : h s ≡ None = map_or_found None held_for d.hands s hand.Empty (was_at d.hands m.hands s _ _ p.hands) in
    let none : k t ≡ None = map_or_found None (λ seat. taken_by seat.mailbox) d.seats t p.seat (was_at d.seats m.seats t _ _ p.seats) ∙ ap taken_by p.ready in
    let here : h' s ≡ Some t = map_or_found None held_for m.hands s (hand.Holds t p.letter) (is_at d.hands m.hands s _ _ p.hands) in
    let there : k' t ≡ Some s = map_or_found None (λ seat. taken_by seat.mailbox) m.seats t (record p.seat { mailbox = box.Taken s }) (is_at d.seats m.seats t _ _ p.seats) in
    let hs : (n : ℕ) → (n ≡ s → ⊥) → h' n ≡ h n = λ n apart. ap (map_or None held_for) (else_at d.hands m.hands s _ _ n p.hands apart) in
    let ks : (n : ℕ) → (n ≡ t → ⊥) → k' n ≡ k n = λ n apart. ap (map_or None (λ seat. taken_by seat.mailbox)) (else_at d.seats m.seats t _ _ n p.seats apart) in
    λ a b. (one_pair_more h h' k k' s t (λ x y. (ordered x y).0) none here there hs ks a b, one_pair_more k k' h h' t s (λ x y. (ordered y x).1) empty there here ks hs b a)

answer_ordered : (d m : DeskNow) (s : ℕ) → IsOrdered d → IsAnsweredBy d s m → IsOrdered m
answer_ordered d m s ordered p =
    let h = hand_of d.hands in let h' = hand_of m.hands in let k = taker_of d.seats in let k' = taker_of m.seats in let t = p.terminal in
    let held : h s ≡ Some t = map_or_found None held_for d.hands s (hand.Served t p.answer) (was_at d.hands m.hands s _ _ p.hands) in
    let here : h' s ≡ None = map_or_found None held_for m.hands s hand.Empty (is_at d.hands m.hands s _ _ p.hands) in
    let there : k' t ≡ None = map_or_found None (λ seat. taken_by seat.mailbox) m.seats t (record p.seat { mailbox = box.Answered p.answer }) (is_at d.seats m.seats t _ _ p.seats) in
    let hs : (n : ℕ) → (n ≡ s → ⊥) → h' n ≡ h n = λ n apart. ap (map_or None held_for) (else_at d.hands m.hands s _ _ n p.hands apart) in
    let ks : (n : ℕ) → (n ≡ t → ⊥) → k' n ≡ k n = λ n apart. ap (map_or None (λ seat. taken_by seat.mailbox)) (else_at d.seats m.seats t _ _ n p.seats apart) in
    λ a b. (one_pair_less h h' k k' s t (λ x y. (ordered x y).0) ((ordered s t).0 held) here hs ks a b, one_pair_less k k' h h' t s (λ x y. (ordered y x).1) held there ks hs b a)

-- every event that is ready keeps it
pub step_ordered : (d : DeskNow) (e : Event) (m : DeskNow) → IsOrdered d → Steps d e m → IsOrdered m
step_ordered d (event.Post t q) m ordered step = post_ordered d m t q ordered step
step_ordered d (event.Take s t) m ordered step = take_ordered d m s t ordered step
step_ordered d (event.Serve s) m ordered step = serve_ordered d m s ordered step
step_ordered d (event.Answer s) m ordered step = answer_ordered d m s ordered step
step_ordered d (event.Collect t) m ordered step = collect_ordered d m t ordered step
step_ordered d event.Close m ordered step = subst IsOrdered (sym step) ordered

-- ---- the start

-- what is so of all of a list is so of the one with a number
map_or_none : {X Y : Type 0} (f : X → Option Y) (xs : List X) (all : (place : ℕ) (x : X) → slice_get xs place ≡ Some x → f x ≡ None) (o : Option ℕ) → map_or None f (item_in xs o) ≡ None
map_or_none f xs all None = refl
map_or_none f xs all (Some place) = at (slice_get xs place) refl
  where
    at : (o : Option _) → slice_get xs place ≡ o → map_or None f o ≡ None
    at None e = refl
    at (Some x) e = all place x e

snoc_all : {X Y : Type 0} (f : X → Option Y) (xs : List X) (y : X) → ((place : ℕ) (x : X) → slice_get xs place ≡ Some x → f x ≡ None) → f y ≡ None
    → (place : ℕ) (x : X) → slice_get (xs ++ y ∷ []) place ≡ Some x → f x ≡ None
snoc_all f [] y all none zero x is = ap f (sym (same-item y x is)) ∙ none
snoc_all f [] y all none (suc place) x is = absurd cc
snoc_all f (z ∷ xs) y all none zero x is = all zero x is
snoc_all f (z ∷ xs) y all none (suc place) x is = snoc_all f xs y (λ p. all (suc p)) none place x is

empty_hands : (count : ℕ) (place : ℕ) (x : Hand PurseView) → slice_get (hands_of count) place ≡ Some x → held_for x ≡ None
empty_hands zero place x is = absurd cc
empty_hands (suc count) place x is = snoc_all held_for (hands_of count) hand.Empty (empty_hands count) refl place x is

free_seats : (count : ℕ) (place : ℕ) (x : SeatNow PurseView) → slice_get (seats_of count) place ≡ Some x → taken_by x.mailbox ≡ None
free_seats zero place x is = absurd cc
free_seats (suc count) place x is = snoc_all (λ seat. taken_by seat.mailbox) (seats_of count) (seat_of (suc count)) (free_seats count) refl place x is

pub start_ordered : (opening : Opening) (terminals servers : ℕ) → IsOrdered (opening_desk opening terminals servers)
start_ordered opening terminals servers a b = (
  λ is. absurd (nothing _ b (map_or_none held_for (hands_of servers) (empty_hands servers) (place_of a (length (hands_of {P = PurseView} servers)))) is),
  λ is. absurd (nothing _ a (map_or_none (λ seat. taken_by seat.mailbox) (seats_of terminals) (free_seats terminals) (place_of b (length (seats_of terminals)))) is),
)

-- ---- an answer in a hand has its mailbox waiting for it

taken_box : (o : Option (SeatNow PurseView)) (s : ℕ) → map_or None (λ seat. taken_by seat.mailbox) o ≡ Some s → map_or false (λ seat. is_taken seat.mailbox) o ≡ true
taken_box None s is = absurd cc
taken_box (Some seat) s is = box_taken seat.mailbox s is
  where
    box_taken : (b : Mailbox PurseView) (s : ℕ) → taken_by b ≡ Some s → is_taken b ≡ true
    box_taken (box.Free p) s is = absurd cc
    box_taken (box.Posted l) s is = absurd cc
    box_taken (box.Taken n) s is = refl
    box_taken (box.Answered a) s is = absurd cc

pub answer_ready_in : (d : DeskNow) (s : ℕ) → IsOrdered d → can_answer d s ≡ tests_at holds_answer d.hands s
answer_ready_in d s ordered = by_item (item d.hands s) refl
  where
    by_hand : (h : Hand PurseView) → item d.hands s ≡ Some h → tests_in (λ seat. is_taken seat.mailbox) d.seats (answer_place h d.seats) ≡ holds_answer h
    by_hand hand.Empty at = refl
    by_hand (hand.Holds t l) at = refl
    by_hand (hand.Served t a) at = taken_box (item d.seats t) s ((ordered s t).0 (ap (map_or None held_for) at))

    by_item : (o : Option (Hand PurseView)) → item d.hands s ≡ o → map_or false (λ h. tests_in (λ seat. is_taken seat.mailbox) d.seats (answer_place h d.seats)) o ≡ map_or false holds_answer o
    by_item None at = refl
    by_item (Some h) at = by_hand h at
