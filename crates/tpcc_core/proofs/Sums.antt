-- What the purses of a desk add up to.
use Rattle.std.proofs.Common.{◌≡◌, ◌∙◌, sym, ap, refl, subst, ℕ, zero, suc, ◌+◌, ◌≤◌, Bool, true, false, List, [], ◌∷◌, ◌++◌, length, arith}
use Rattle.std.specs.Prelude.{Option, Some, Result, Ok, Err, MatchResult, slice_get, slice_set, ℤ, pos, ◌+ℤ◌}
use Rattle.std.specs.List.{flat_map, sum_by}
use Rattle.std.specs.Result.{ForOk, ForErr}
use Rattle.std.proofs.lemmas.Int.{ints}
use Rattle.std.proofs.lemmas.List.{length-append}
use Rattle.std.proofs.lemmas.List.Sums.{sum_by-cons}
use Rattle.tpcc_money.specs.Amounts.{total}
use Rattle.tpcc_rows.specs.declared.transactions.entry.Entry.{Entry}
use Rattle.tpcc_rows.specs.declared.transactions.requests.Request.{Request}
use Rattle.tpcc_rows.specs.declared.transactions.replies.Reply.{Reply}
use Rattle.tpcc_rows.specs.declared.transactions.refusals.Refusal.{Refusal}
use Rattle.tpcc_rows.specs.Replay.{paid_by_entries, paid_by_request}
use Rattle.tpcc_laws.proofs.List.{total-append}
use Rattle.tpcc_population.specs.declared.opening.Opening.{Opening}
use Rattle.tpcc_book.specs.Past.{Past, IsKept}
use Rattle.tpcc_book.specs.Purses.{PurseView, all_shares, most_purses}
use Rattle.tpcc_book.specs.Turn.{entry_of, Accepts, Refuses}
use Rattle.tpcc_book.specs.Serve.{purse_after}
use Rattle.tpcc_core.specs.declared.event.Event.{Event}
use Rattle.tpcc_core.specs.declared.event.Event.TheVariants as event
use Rattle.tpcc_core.specs.declared.mailbox.Hand.{Hand}
use Rattle.tpcc_core.specs.declared.mailbox.Hand.TheVariants as hand
use Rattle.tpcc_core.specs.declared.mailbox.Mailbox.{Mailbox}
use Rattle.tpcc_core.specs.declared.mailbox.Mailbox.TheVariants as box
use Rattle.tpcc_core.specs.Seats.{SeatNow, is_taken}
use Rattle.tpcc_core.specs.SeatSteps.{mailbox_after_post, mailbox_after_collect, seat_after_collect}
use Rattle.tpcc_core.specs.Desks.{DeskNow}
use Rattle.tpcc_core.specs.Events.{is_ready, Steps, IsChangedAt, IsPostedAt, IsTakenAt, IsServedBy, IsAnsweredBy, IsCollectedAt}
use Rattle.tpcc_core.specs.Runs.{MovesBy, Passes}
use Rattle.tpcc_core.specs.OpeningDesk.{opening_desk, seats_of, seat_of, hands_of}
use Rattle.tpcc_core.specs.Shares.{purses_in, purses_held, purses_of, AddsUp}
use Rattle.tpcc_core.specs.After.{After}

-- ---- one changed place of a list

total_set : {X : Type 0} (f : X → ℤ) (xs : List X) (place : ℕ) (was is : X) → slice_get xs place ≡ Some was → total f (slice_set xs place is) +ℤ f was ≡ total f xs +ℤ f is
total_set f [] place was is at = absurd cc
total_set f (x ∷ xs) zero was is at = let same : f x ≡ f was = cc in omega (arith, ints, same)
total_set f (x ∷ xs) (suc place) was is at = omega (arith, ints, total_set f xs place was is at)

total_changed : {X : Type 0} (f : X → ℤ) (xs ys : List X) (number : ℕ) (was is : X) → IsChangedAt xs number was is ys → total f ys +ℤ f was ≡ total f xs +ℤ f is
total_changed f xs ys number was is c = ap (λ zs. total f zs +ℤ f was) c.set ∙ total_set f xs c.place was is c.found

total_flat : {X Y : Type 0} (f : Y → ℤ) (g : X → List Y) (xs : List X) → total f (flat_map g xs) ≡ total (λ x. total f (g x)) xs
total_flat f g [] = refl
total_flat f g (x ∷ xs) = total-append f (g x) (flat_map g xs) ∙ ap (λ n. total f (g x) +ℤ n) (total_flat f g xs)

-- ---- a column of all purses, by seats and hands

abbrev in_seat : (PurseView → ℤ) → SeatNow PurseView → ℤ
in_seat f seat = total f (purses_in seat.mailbox)

abbrev in_hand : (PurseView → ℤ) → Hand PurseView → ℤ
in_hand f h = total f (purses_held h)

abbrev pub worth : (PurseView → ℤ) → DeskNow → ℤ
worth f d = f d.first +ℤ (total (in_seat f) d.seats +ℤ total (in_hand f) d.hands)

worth_is : (f : PurseView → ℤ) (d : DeskNow) → total f (purses_of d) ≡ worth f d
worth_is f d =
    ap (λ n. f d.first +ℤ n)
    (total-append f (flat_map (λ seat. purses_in seat.mailbox) d.seats) (flat_map purses_held d.hands)
    ∙ (ap (λ n. n +ℤ total f (flat_map purses_held d.hands)) (total_flat f (λ seat. purses_in seat.mailbox) d.seats)
    ∙ ap (λ n. total (in_seat f) d.seats +ℤ n) (total_flat f purses_held d.hands)))

-- ---- events without a turn move purses

worth_of_seat : (f : PurseView → ℤ) (d m : DeskNow) (t : ℕ) (was is : SeatNow PurseView) → IsChangedAt d.seats t was is m.seats → m ≡ record d { seats = m.seats } → in_seat f is ≡ in_seat f was → worth f m ≡ worth f d
worth_of_seat f d m t was is changed rest same =
    let seats : total (in_seat f) m.seats +ℤ in_seat f was ≡ total (in_seat f) d.seats +ℤ in_seat f is = total_changed (in_seat f) d.seats m.seats t was is changed in
    let first : f m.first ≡ f d.first = ap (λ (x : DeskNow). f x.first) rest in
    let hands : total (in_hand f) m.hands ≡ total (in_hand f) d.hands = ap (λ (x : DeskNow). total (in_hand f) x.hands) rest in
    omega (arith, ints, seats, first, hands, same)

worth_of_both : (f : PurseView → ℤ) (d m : DeskNow) (s t : ℕ) (was is : SeatNow PurseView) (held holds : Hand PurseView) → IsChangedAt d.seats t was is m.seats → IsChangedAt d.hands s held holds m.hands
    → m.first ≡ d.first → in_seat f is +ℤ in_hand f holds ≡ in_seat f was +ℤ in_hand f held → worth f m ≡ worth f d
worth_of_both f d m s t was is held holds changed moved rest same =
    let seats : total (in_seat f) m.seats +ℤ in_seat f was ≡ total (in_seat f) d.seats +ℤ in_seat f is = total_changed (in_seat f) d.seats m.seats t was is changed in
    let hands : total (in_hand f) m.hands +ℤ in_hand f held ≡ total (in_hand f) d.hands +ℤ in_hand f holds = total_changed (in_hand f) d.hands m.hands s held holds moved in
    let first : f m.first ≡ f d.first = ap f rest in
    omega (arith, ints, seats, hands, first, same)

post_keeps_purses : (f : PurseView → ℤ) (b : Mailbox PurseView) (q : Request) → total f (purses_in (mailbox_after_post b q)) ≡ total f (purses_in b)
post_keeps_purses f (box.Free p) q = refl
post_keeps_purses f (box.Posted l) q = refl
post_keeps_purses f (box.Taken s) q = refl
post_keeps_purses f (box.Answered a) q = refl

collect_keeps_purses : (f : PurseView → ℤ) (b : Mailbox PurseView) → total f (purses_in (mailbox_after_collect b)) ≡ total f (purses_in b)
collect_keeps_purses f (box.Free p) = refl
collect_keeps_purses f (box.Posted l) = refl
collect_keeps_purses f (box.Taken s) = refl
collect_keeps_purses f (box.Answered a) = refl

taken_none : (f : PurseView → ℤ) (b : Mailbox PurseView) → is_taken b ≡ true → total f (purses_in b) ≡ pos 0
taken_none f (box.Free p) is = absurd cc
taken_none f (box.Posted l) is = absurd cc
taken_none f (box.Taken s) is = refl
taken_none f (box.Answered a) is = absurd cc

post_worth : (f : PurseView → ℤ) (d m : DeskNow) (t : ℕ) (q : Request) → IsPostedAt d t q m → worth f m ≡ worth f d
post_worth f d m t q p = worth_of_seat f d m t p.seat (record p.seat { mailbox = mailbox_after_post p.seat.mailbox q }) p.seats p.rest (post_keeps_purses f p.seat.mailbox q)

collect_worth : (f : PurseView → ℤ) (d m : DeskNow) (t : ℕ) → IsCollectedAt d t m → worth f m ≡ worth f d
collect_worth f d m t p = worth_of_seat f d m t p.seat (seat_after_collect p.seat) p.seats p.rest (collect_keeps_purses f p.seat.mailbox)

take_worth : (f : PurseView → ℤ) (d m : DeskNow) (s t : ℕ) → IsTakenAt d s t m → worth f m ≡ worth f d
take_worth f d m s t p =
    let was : in_seat f p.seat ≡ f p.letter.purse +ℤ pos 0 = ap (λ b. total f (purses_in b)) p.ready in
    worth_of_both f d m s t p.seat (record p.seat { mailbox = box.Taken s }) hand.Empty (hand.Holds t p.letter) p.seats p.hands (ap (λ (x : DeskNow). x.first) p.rest) (omega (arith, ints, was))

answer_worth : (f : PurseView → ℤ) (d m : DeskNow) (s : ℕ) → IsAnsweredBy d s m → worth f m ≡ worth f d
answer_worth f d m s p =
    let was : in_seat f p.seat ≡ pos 0 = taken_none f p.seat.mailbox p.ready in
    worth_of_both f d m s p.terminal p.seat (record p.seat { mailbox = box.Answered p.answer }) (hand.Served p.terminal p.answer) hand.Empty p.seats p.hands (ap (λ (x : DeskNow). x.first) p.rest) (omega (arith, ints, was))

-- ---- a turn changes the purse in the hand

serve_worth : (f : PurseView → ℤ) (d m : DeskNow) (s : ℕ) (p : IsServedBy d s m) → worth f m +ℤ f p.served.letter.purse ≡ worth f d +ℤ f p.served.answer.purse
serve_worth f d m s p =
    let hands : total (in_hand f) m.hands +ℤ in_hand f p.held ≡ total (in_hand f) d.hands +ℤ in_hand f p.holds = total_changed (in_hand f) d.hands m.hands s p.held p.holds p.hands in
    let was : in_hand f p.held ≡ f p.served.letter.purse +ℤ pos 0 = ap (in_hand f) p.served.was in
    let is : in_hand f p.holds ≡ f p.served.answer.purse +ℤ pos 0 = ap (in_hand f) p.served.is in
    let first : f m.first ≡ f d.first = ap (λ (x : DeskNow). f x.first) p.rest in
    let seats : total (in_seat f) m.seats ≡ total (in_seat f) d.seats = ap (λ (x : DeskNow). total (in_seat f) x.seats) p.rest in
    omega (arith, ints, hands, was, is, first, seats)

-- the purse grows as the book does
record Grows (old new : Past) (was is : PurseView) : Type 0 where
  pub room : is.room ≡ was.room
  pub entries : is.entries + length old.entries ≡ was.entries + length new.entries
  pub paid : is.paid +ℤ paid_by_entries old.entries ≡ was.paid +ℤ paid_by_entries new.entries

paid_more : (entries : List Entry) (entry : Entry) → paid_by_entries (entries ++ entry ∷ []) ≡ paid_by_entries entries +ℤ paid_by_request entry.request
paid_more entries entry = let more = total-append (λ (e : Entry). paid_by_request e.request) entries (entry ∷ []) in omega (arith, ints, more)

shares_grow : (old new : Past) (purse is : PurseView) (request : Request) (place : Option ℕ) (o : Result Reply Refusal)
    → ForOk o (Accepts old purse.terminal purse.entries request place new) → ForErr o (Refuses old purse.terminal purse.entries request place new)
    → MatchResult o (λ reply. is ≡ purse_after purse (paid_by_request request)) (λ refusal. is ≡ purse) → Grows old new purse is
shares_grow old new purse is request place (Ok reply) accepts refuses fits =
    let a = accepts reply refl in
    let entry = entry_of old purse.terminal purse.entries request in
    let longer : length new.entries ≡ length old.entries + 1 = ap (λ (p : Past). length p.entries) a.new_is ∙ length-append old.entries (entry ∷ []) in
    let paid : paid_by_entries new.entries ≡ paid_by_entries old.entries +ℤ paid_by_request request = ap (λ (p : Past). paid_by_entries p.entries) a.new_is ∙ paid_more old.entries entry in
    let entries_is : is.entries ≡ purse.entries + 1 = ap (λ (p : PurseView). p.entries) fits in
    let paid_is : is.paid ≡ purse.paid +ℤ paid_by_request request = ap (λ (p : PurseView). p.paid) fits in
    record { room = ap (λ (p : PurseView). p.room) fits; entries = omega (arith, longer, entries_is); paid = omega (arith, ints, paid, paid_is) }
shares_grow old new purse is request place (Err refusal) accepts refuses fits =
    let same = (refuses refusal refl).same in
    let longer : length new.entries ≡ length old.entries = ap (λ (p : Past). length p.entries) same in
    let paid : paid_by_entries new.entries ≡ paid_by_entries old.entries = ap (λ (p : Past). paid_by_entries p.entries) same in
    let entries_is : is.entries ≡ purse.entries = ap (λ (p : PurseView). p.entries) fits in
    let paid_is : is.paid ≡ purse.paid = ap (λ (p : PurseView). p.paid) fits in
    record { room = ap (λ (p : PurseView). p.room) fits; entries = omega (arith, longer, entries_is); paid = omega (arith, ints, paid, paid_is) }

-- ---- the three columns

abbrev room_column : PurseView → ℤ
room_column p = pos (p.room + 1)

abbrev entries_column : PurseView → ℤ
entries_column p = pos p.entries

abbrev paid_column : PurseView → ℤ
paid_column p = p.paid

-- the parts of the book, the journal's length and its payments
pub record Balances (d : DeskNow) : Type 0 where
  pub rooms : worth room_column d ≡ pos all_shares
  pub entries : worth entries_column d ≡ pos (length d.book.entries)
  pub paid : worth paid_column d ≡ paid_by_entries d.book.entries

quiet : (d m : DeskNow) → ((f : PurseView → ℤ) → worth f m ≡ worth f d) → m.book ≡ d.book → Balances d → Balances m
quiet d m same book balances =
    record {
      rooms = same room_column ∙ balances.rooms;
      entries = same entries_column ∙ (balances.entries ∙ ap (λ (p : Past). pos (length p.entries)) (sym book));
      paid = same paid_column ∙ (balances.paid ∙ ap (λ (p : Past). paid_by_entries p.entries) (sym book));
    }

serve_balances : (d m : DeskNow) (s : ℕ) → IsServedBy d s m → Balances d → Balances m
serve_balances d m s p balances =
    let letter = p.served.letter in
    let answer = p.served.answer in
    let turn = p.served.served.turn in
    let grows = shares_grow d.book m.book letter.purse answer.purse letter.request answer.place answer.outcome turn.accepts turn.refuses p.served.served.fits.purse_is in
    let room_is = grows.room in
    let entries_are = grows.entries in
    let paid_is = grows.paid in
    let rooms = serve_worth room_column d m s p in
    let entries = serve_worth entries_column d m s p in
    let paid = serve_worth paid_column d m s p in
    let r = balances.rooms in let e = balances.entries in let q = balances.paid in
    record { rooms = omega (arith, ints, rooms, room_is, r); entries = omega (arith, ints, entries, entries_are, e); paid = omega (arith, ints, paid, paid_is, q) }

step_balances : (d : DeskNow) (e : Event) (m : DeskNow) → Steps d e m → Balances d → Balances m
step_balances d (event.Post t q) m step = quiet d m (λ f. post_worth f d m t q step) (ap (λ (x : DeskNow). x.book) step.rest)
step_balances d (event.Take s t) m step = quiet d m (λ f. take_worth f d m s t step) (ap (λ (x : DeskNow). x.book) step.rest)
step_balances d (event.Serve s) m step = serve_balances d m s step
step_balances d (event.Answer s) m step = quiet d m (λ f. answer_worth f d m s step) (ap (λ (x : DeskNow). x.book) step.rest)
step_balances d (event.Collect t) m step = quiet d m (λ f. collect_worth f d m t step) (ap (λ (x : DeskNow). x.book) step.rest)
step_balances d event.Close m step = quiet d m (λ f. ap (λ (x : DeskNow). worth f x) step) (ap (λ (x : DeskNow). x.book) step)

move_balances : (b : Bool) (d : DeskNow) (e : Event) (m : DeskNow) → MovesBy b d e m → Balances d → Balances m
move_balances true d e m step = step_balances d e m step
move_balances false d e m same = subst Balances (sym same)

passes_balance : (d : DeskNow) (es : List Event) (n : DeskNow) → Passes d es n → Balances d → Balances n
passes_balance d [] n same balances = subst Balances (sym same) balances
passes_balance d (e ∷ es) n p balances = passes_balance p.0 es n p.2 (move_balances (is_ready d e) d e p.0 p.1 balances)

-- ---- the start

none_seated : (f : PurseView → ℤ) (each : (t : ℕ) → in_seat f (seat_of t) ≡ pos 0) (count : ℕ) → total (in_seat f) (seats_of count) ≡ pos 0
none_seated f each zero = refl
none_seated f each (suc count) =
    let more = total-append (in_seat f) (seats_of count) (seat_of (suc count) ∷ []) in
    let last = each (suc count) in
    let rest = none_seated f each count in
    omega (arith, ints, more, last, rest)

one_seated : (f : PurseView → ℤ) (each : (t : ℕ) → in_seat f (seat_of t) ≡ pos 1) (count : ℕ) → total (in_seat f) (seats_of count) ≡ pos count
one_seated f each zero = refl
one_seated f each (suc count) =
    let more = total-append (in_seat f) (seats_of count) (seat_of (suc count) ∷ []) in
    let last = each (suc count) in
    let rest = one_seated f each count in
    omega (arith, ints, more, last, rest)

none_held : (f : PurseView → ℤ) (count : ℕ) → total (in_hand f) (hands_of count) ≡ pos 0
none_held f zero = refl
none_held f (suc count) =
    let more = total-append (in_hand f) (hands_of count) (hand.Empty ∷ []) in
    let rest = none_held f count in
    omega (arith, ints, more, rest)

start_balances : (opening : Opening) (terminals servers : ℕ) → terminals ≤ most_purses → Balances (opening_desk opening terminals servers)
start_balances opening terminals servers most =
    let rooms = one_seated room_column (λ t. refl) terminals in
    let entries = none_seated entries_column (λ t. refl) terminals in
    let paid = none_seated paid_column (λ t. refl) terminals in
    let no_rooms = none_held room_column servers in
    let no_entries = none_held entries_column servers in
    let no_paid = none_held paid_column servers in
    record { rooms = omega (arith, ints, most, rooms, no_rooms); entries = omega (arith, ints, entries, no_entries); paid = omega (arith, ints, paid, no_paid) }

-- ---- sums of numbers

sum_is : {X : Type 0} (f : X → ℕ) (xs : List X) → pos (sum_by f xs) ≡ total (λ x. pos (f x)) xs
sum_is f [] = refl
sum_is f (x ∷ xs) = let one = sum_by-cons f x xs in let rest = sum_is f xs in omega (arith, ints, one, rest)

adds_up : (d : DeskNow) → Balances d → IsKept d.book → AddsUp d
adds_up d balances kept =
    let rooms = sum_is (λ (p : PurseView). p.room + 1) (purses_of d) in
    let rooms_are = worth_is room_column d in
    let entries = sum_is (λ (p : PurseView). p.entries) (purses_of d) in
    let entries_are = worth_is entries_column d in
    let r = balances.rooms in let e = balances.entries in
    record {
      rooms = omega (arith, ints, rooms, rooms_are, r);
      entries = omega (arith, ints, entries, entries_are, e);
      paid = worth_is paid_column d ∙ (balances.paid ∙ sym kept.rises);
    }

pub purses_add_up : (opening : Opening) (terminals servers : ℕ) (events : List Event) (desk : DeskNow) → After opening terminals servers events desk → IsKept desk.book → AddsUp desk
purses_add_up opening terminals servers events desk after kept =
    adds_up desk (passes_balance (opening_desk opening terminals servers) events desk after.passes (start_balances opening terminals servers after.terminals_in.1)) kept
