-- What one event does to a desk, from what it does to a seat and a hand.
use Rattle.std.proofs.Common.{◌≡◌, ◌∙◌, sym, ap, refl, ℕ, ◌<◌, List, length, slice_set, get_or}
use Rattle.std.proofs.lemmas.Option.{slice_get_read}
use Rattle.std.specs.Prelude.{Bool, true, false, ◌&&◌, Option, Some, Result, Ok, Err, is_ok, OnOk, OnErr, slice_get, is_some, option_map, unwrap_or}
use Rattle.std.proofs.lemmas.Result.{on_ok_weaker}
use Rattle.tpcc_rows.specs.declared.transactions.requests.Request.{Request}
use Rattle.tpcc_book.specs.Past.{Past}
use Rattle.tpcc_book.specs.Purses.{PurseView}
use Rattle.tpcc_core.specs.declared.mailbox.Hand.{Hand}
use Rattle.tpcc_core.specs.declared.mailbox.Hand.TheVariants as hand
use Rattle.tpcc_core.specs.declared.mailbox.Mailbox.TheVariants as box
use Rattle.tpcc_core.specs.Seats.{SeatNow, is_free, is_posted, is_taken, is_answered}
use Rattle.tpcc_core.specs.SeatSteps.{mailbox_after_post, seat_after_collect}
use Rattle.tpcc_core.specs.Hands.{Serves, is_empty, answer_for}
use Rattle.tpcc_core.specs.Internal.Exchanges.{IsHanded, IsReturned}
use Rattle.tpcc_core.specs.Desks.{DeskNow, place_of}
use Rattle.tpcc_core.specs.Events.{tests_in, place_in, answer_place, can_answer, IsPostedAt, IsTakenAt, IsServedBy, IsAnsweredBy, IsCollectedAt}
use Rattle.tpcc_core.proofs.Places.{change_at_place, test_at_place, same_at_place}

-- a letter that is in its mailbox
pub posted_at : {T E : Type 0} (d : DeskNow) (t place : ℕ) (request : Request) (seat after : SeatNow PurseView) (r : Result T E)
    → place_of t (length d.seats) ≡ Some place → slice_get d.seats place ≡ Some seat
    → OnOk r (is_free seat.mailbox ≡ true) → OnOk r (after ≡ record seat { mailbox = mailbox_after_post seat.mailbox request })
    → OnOk r (IsPostedAt d t request (record d { seats = slice_set d.seats place after }))
posted_at d t place request seat after (Ok v) numbered found ready is =
    record { seat = seat; seats = change_at_place d.seats t place seat _ after numbered found is; ready = ready; rest = refl }
posted_at d t place request seat after (Err e) numbered found ready is = ready

-- an answer that was collected
pub collected_at : {T E : Type 0} (d : DeskNow) (t place : ℕ) (seat after : SeatNow PurseView) (r : Result T E)
    → place_of t (length d.seats) ≡ Some place → slice_get d.seats place ≡ Some seat
    → is_ok r ≡ is_answered seat.mailbox → OnOk r (after ≡ seat_after_collect seat)
    → OnOk r (IsCollectedAt d t (record d { seats = slice_set d.seats place after }))
collected_at d t place seat after (Ok v) numbered found ready is =
    record { seat = seat; ready = sym ready; seats = change_at_place d.seats t place seat _ after numbered found is; rest = refl }
collected_at d t place seat after (Err e) numbered found ready is = is

empty-hand : (h : Hand PurseView) (b : Bool) → true ≡ is_empty h && b → h ≡ hand.Empty
empty-hand hand.Empty b h = refl
empty-hand (hand.Holds terminal letter) b h = absurd cc
empty-hand (hand.Served terminal answer) b h = absurd cc

-- a letter that is in a hand
pub taken_at : {T E : Type 0} (d : DeskNow) (s t at place : ℕ) (seat after : SeatNow PurseView) (held holds : Hand PurseView) (r : Result T E)
    → place_of s (length d.hands) ≡ Some at → slice_get d.hands at ≡ Some held
    → place_of t (length d.seats) ≡ Some place → slice_get d.seats place ≡ Some seat
    → is_ok r ≡ is_empty held && is_posted seat.mailbox → OnOk r (IsHanded seat held s t after holds)
    → OnOk r (IsTakenAt d s t (record d { seats = slice_set d.seats place after; hands = slice_set d.hands at holds }))
taken_at d s t at place seat after held holds (Ok v) handed held_is numbered found ready is =
    record {
      seat = seat;
      letter = is.letter;
      ready = is.taken.was;
      seats = change_at_place d.seats t place seat _ after numbered found is.taken.is;
      hands = change_at_place d.hands s at hand.Empty _ holds handed (held_is ∙ ap (λ h. Some h) (empty-hand held (is_posted seat.mailbox) ready)) is.held_is;
      rest = refl;
    }
taken_at d s t at place seat after held holds (Err e) handed held_is numbered found ready is = is

-- a served letter
pub served_by : {T E : Type 0} (d : DeskNow) (s place : ℕ) (held holds : Hand PurseView) (after : Past) (r : Result T E)
    → place_of s (length d.hands) ≡ Some place → slice_get d.hands place ≡ Some held
    → OnOk r (Serves held d.book holds after)
    → OnOk r (IsServedBy d s (record d { book = after; hands = slice_set d.hands place holds }))
served_by d s place held holds after r numbered found =
    on_ok_weaker r (λ is. record { held = held; holds = holds; served = is; hands = change_at_place d.hands s place held holds holds numbered found refl; rest = refl })

-- an answer that is in its mailbox
pub answered_by : {T E : Type 0} (d : DeskNow) (s at place : ℕ) (seat after : SeatNow PurseView) (held holds : Hand PurseView) (r : Result T E)
    → place_of s (length d.hands) ≡ Some at → slice_get d.hands at ≡ Some held
    → answer_place held d.seats ≡ Some place → slice_get d.seats place ≡ Some seat
    → is_ok r ≡ is_some (answer_for held) && is_taken seat.mailbox → OnOk r (IsReturned seat held after holds)
    → OnOk r (IsAnsweredBy d s (record d { seats = slice_set d.seats place after; hands = slice_set d.hands at holds }))
answered_by d s at place seat after held holds (Ok v) handed held_is numbered found ready is =
    let for = ap answer_for is.given.was in
    record {
      terminal = is.given.terminal;
      answer = is.answer;
      seat = seat;
      ready = sym (ready ∙ ap (λ o. is_some o && is_taken seat.mailbox) for);
      seats = change_at_place d.seats is.given.terminal place seat (record seat { mailbox = box.Answered is.answer }) after (sym (ap (place_in d.seats) for) ∙ numbered) found is.after_is;
      hands = change_at_place d.hands s at (hand.Served is.given.terminal is.answer) hand.Empty holds handed (held_is ∙ ap (λ h. Some h) is.given.was) is.given.is;
      rest = refl;
    }
answered_by d s at place seat after held holds (Err e) handed held_is numbered found ready is = is

answer-for : (h : Hand PurseView) (seats : List (SeatNow PurseView)) (place : ℕ) → answer_place h seats ≡ Some place → is_some (answer_for h) ≡ true
answer-for hand.Empty seats place h = cc
answer-for (hand.Holds terminal letter) seats place h = cc
answer-for (hand.Served terminal answer) seats place h = refl

-- it is ready exactly where hand and mailbox are
pub answer_ready : (d : DeskNow) (s at place : ℕ) (seat : SeatNow PurseView) (held : Hand PurseView) (done : Bool)
    → place_of s (length d.hands) ≡ Some at → slice_get d.hands at ≡ Some held
    → answer_place held d.seats ≡ Some place → slice_get d.seats place ≡ Some seat
    → done ≡ is_some (answer_for held) && is_taken seat.mailbox → done ≡ can_answer d s
answer_ready d s at place seat held done handed held_is numbered found ready =
    let one = test_at_place (λ h. tests_in (λ x. is_taken x.mailbox) d.seats (answer_place h d.seats)) d.hands s at held handed held_is in
    let two = ap (tests_in (λ x. is_taken x.mailbox) d.seats) numbered in
    let three = ap (λ o. unwrap_or (option_map (λ x. is_taken x.mailbox) o) false) found in
    ready ∙ ap (λ b. b && is_taken seat.mailbox) (answer-for held d.seats place numbered) ∙ sym (one ∙ two ∙ three)

-- after an error nothing has changed
pub seat_same : {T E : Type 0} (d : DeskNow) (place : ℕ) (seat after : SeatNow PurseView) (r : Result T E)
    → slice_get d.seats place ≡ Some seat → OnErr r (after ≡ seat) → OnErr r (record d { seats = slice_set d.seats place after } ≡ d)
seat_same d place seat after (Ok v) found same = same
seat_same d place seat after (Err e) found same = ap (λ ss. record d { seats = ss }) (same_at_place d.seats place seat after found same)

pub served_none : {T E : Type 0} (d : DeskNow) (at : ℕ) (held holds : Hand PurseView) (after : Past) (r : Result T E)
    → slice_get d.hands at ≡ Some held → OnErr r (holds ≡ held) → OnErr r (after ≡ d.book)
    → OnErr r (record d { book = after; hands = slice_set d.hands at holds } ≡ d)
served_none d at held holds after (Ok v) found same book = same
served_none d at held holds after (Err e) found same book =
    ap (λ b. record d { book = b; hands = slice_set d.hands at holds }) book ∙ ap (λ hs. record d { hands = hs }) (same_at_place d.hands at held holds found same)

pub answered_none : {T E : Type 0} (d : DeskNow) (at place : ℕ) (seat after : SeatNow PurseView) (held holds : Hand PurseView) (r : Result T E)
    → slice_get d.hands at ≡ Some held → slice_get d.seats place ≡ Some seat → OnErr r (after ≡ seat) → OnErr r (holds ≡ held)
    → OnErr r (record d { seats = slice_set d.seats place after; hands = slice_set d.hands at holds } ≡ d)
answered_none d at place seat after held holds (Ok v) held_is found same kept = same
answered_none d at place seat after held holds (Err e) held_is found same kept =
    ap (λ ss. record d { seats = ss; hands = slice_set d.hands at holds }) (same_at_place d.seats place seat after found same) ∙ ap (λ hs. record d { hands = hs }) (same_at_place d.hands at held holds held_is kept)

same-hand : (a b : Hand PurseView) (o : Option (Hand PurseView)) → o ≡ Some a → o ≡ Some b → a ≡ b
same-hand a b o h k = cc

-- the seat that an answer belongs to
pub answer_at : (seen xs : List (SeatNow PurseView)) (hands : List (Hand PurseView)) (at place : ℕ) (first second : Hand PurseView) (x : SeatNow PurseView) (o : Option ℕ)
    → seen ≡ xs → slice_get hands at ≡ Some first → slice_get hands at ≡ Some second → o ≡ answer_place first seen → o ≡ Some place
    → place < length seen → x ≡ get_or xs place x → (answer_place second xs ≡ Some place) × (slice_get xs place ≡ Some x)
answer_at seen xs hands at place first second x o same one two numbered is bound value =
    (ap (answer_place second) (sym same) ∙ ap (λ h. answer_place h seen) (same-hand second first (slice_get hands at) two one) ∙ sym numbered ∙ is, slice_get_read xs (length seen) place x (ap length same) bound value)
