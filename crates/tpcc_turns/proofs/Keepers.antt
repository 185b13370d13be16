-- The steps of a held turn, put together.
use Rattle.std.proofs.Common.{◌≡◌, ℕ, ◌+◌, ◌-◌, ◌%◌, ◌^◌, ◌<◌, List, [], ◌∷◌, ◌++◌, refl, sym, ap, ◌∙◌, subst, Some, arith}
use Rattle.std.specs.Prelude.{Option, Result, Ok, Err, MatchResult}
use Rattle.tpcc_rows.specs.declared.transactions.replies.Reply.{Reply}
use Rattle.tpcc_rows.specs.declared.transactions.refusals.Refusal.{Refusal}
use Rattle.std.proofs.Math.Nat.{mod-add-mod}
use mathlib.Core.Option.{some}
use mathlib.Core.List.{IsPrefix}
use lib.ListN.{get_elem?}
use Rattle.atomic_table.specs.Table.{Me}
use Rattle.tpcc_rows.specs.declared.transactions.entry.Entry.{Entry}
use Rattle.tpcc_rows.specs.declared.transactions.requests.Request.{Request}
use Rattle.tpcc_rows.specs.Replay.{count_of, paid_by_request}
use Rattle.tpcc_book.specs.Past.{Past}
use Rattle.tpcc_book.specs.Purses.{PurseView}
use Rattle.tpcc_book.specs.AnswerView.{AnswerView, answer_with}
use Rattle.tpcc_book.specs.Serve.{IsServed, purse_after}
use Rattle.tpcc_turns.specs.Seats.{SeatedView, IsTurned}
use Rattle.tpcc_turns.specs.Internal.Seats.{view_of, number_of, turn_holder}
use Rattle.tpcc_turns.specs.Internal.Shares.{heard_of, both_of, last_parts, freed_of, back_of}
use Rattle.tpcc_turns.specs.Knows.{knows}
use Rattle.tpcc_turns.specs.Internal.TurnRule.{IsHeard, HasGrown}
use Rattle.tpcc_turns.specs.Internal.TurnSteps.{HasServedHere, CanEnd, CanGrow}
use Rattle.tpcc_turns.specs.Knows.{Knows, Idle, Holds}
use Rattle.tpcc_turns.proofs.Seats.{prefix_self}
use Rattle.tpcc_turns.proofs.Serves.{own_of, entries_grow, same_opening, one_book}

abbrev Mine : Type 0
Mine = Me (Option Past) Knows

-- the same journal longer by a request
pub longer_of : (old new : Past) (request : Request) (held : PurseView) (answer : AnswerView PurseView) → IsServed old request held answer new → IsPrefix old.entries new.entries
longer_of old new request held answer served =
    entries_grow old new held.terminal held.entries request answer.place answer.outcome served.turn.accepts served.turn.refuses

-- what a request in a held turn finds and leaves: its keeper's seat, the same with the other joined, and with the book that served
pub record Within (me one two : Mine) (w : Knows) (parts : ℕ) (book : Past) (request : Request) (held : PurseView) (answer : AnswerView PurseView) : Type 0 where
  pub keeps : me ≡ turn_holder me parts book
  pub joined : one ≡ (both_of me.0 w, me.1)
  pub here : HasServedHere one request held answer two

pub old_book : (me one two : Mine) (w : Knows) (parts : ℕ) (book : Past) (request : Request) (held : PurseView) (answer : AnswerView PurseView) (i : Within me one two w parts book request held answer) → i.here.old ≡ book
old_book me one two w parts book request held answer i =
    one_book one.1 i.here.old book i.here.old_is (ap (λ (m : Mine). m.1) i.joined ∙ ap (λ (m : Mine). m.1) i.keeps)

-- the seat's journal may be told
pub can_grow : (me one two : Mine) (w : Knows) (parts : ℕ) (book : Past) (request : Request) (held : PurseView) (answer : AnswerView PurseView)
    → me ≡ turn_holder me parts book → one ≡ (both_of me.0 w, me.1) → HasServedHere one request held answer two → 0 < parts → CanGrow two
can_grow me one two w parts book request held answer keeps joined here part =
    let same = old_book me one two w parts book request held answer (record { keeps = keeps; joined = joined; here = here }) in
    record {
      number = number_of me.0.stage;
      base = book.entries;
      book = here.new;
      stage = ap (λ (m : Mine). m.0.stage) here.now_is ∙ (ap (λ (m : Mine). m.0.stage) joined ∙ ap (λ (m : Mine). m.0.stage) keeps);
      slot = ap (λ (m : Mine). m.1) here.now_is;
      longer = subst (λ (p : Past). IsPrefix p.entries here.new.entries) same (longer_of here.old here.new request held answer here.served);
      some_part = omega (arith, part, ap (λ (m : Mine). m.0.parts) here.now_is, ap (λ (m : Mine). m.0.parts) joined, ap (λ (m : Mine). m.0.parts) keeps);
    }

-- the journal has grown, and the seat tells it
pub grew_of : (me one two three : Mine) (w : Knows) (parts : ℕ) (book : Past) (request : Request) (held : PurseView) (answer : AnswerView PurseView)
    → me ≡ turn_holder me parts book → one ≡ (both_of me.0 w, me.1) → (here : HasServedHere one request held answer two)
    → ((number : ℕ) (base : List Entry) (b : Past) → two.0.stage ≡ Holds number base → two.1 ≡ (0, Some b) ∷ [] → HasGrown two number base b three)
    → HasGrown two (number_of me.0.stage) book.entries here.new three
grew_of me one two three w parts book request held answer keeps joined here grows =
    grows (number_of me.0.stage) book.entries here.new
    (ap (λ (m : Mine). m.0.stage) here.now_is ∙ (ap (λ (m : Mine). m.0.stage) joined ∙ ap (λ (m : Mine). m.0.stage) keeps))
    (ap (λ (m : Mine). m.1) here.now_is)

-- one turn of the book for the purse that asked
pub turned_within : (held : PurseView) (purse : SeatedView) (me one two three four : Mine) (w : Knows) (parts : ℕ) (book : Past) (answer : AnswerView PurseView) (request : Request)
    → held ≡ purse.purse → w ≡ view_of purse → me ≡ turn_holder me parts book → book.opening ≡ me.0.start → one ≡ (both_of me.0 w, me.1)
    → (here : HasServedHere one request held answer two) → HasGrown two (number_of me.0.stage) book.entries here.new three → four ≡ (back_of three.0, [])
    → IsTurned request purse (answer_with answer (record { purse = answer.purse; start = four.0.start; front = four.0.front }))
turned_within held purse me one two three four w parts book answer request is v keeps opening joined here grew gone =
    let same = old_book me one two w parts book request held answer (record { keeps = keeps; joined = joined; here = here }) in
    let two_is : two.0 ≡ both_of me.0 w = ap (λ (m : Mine). m.0) here.now_is ∙ ap (λ (m : Mine). m.0) joined in
    let first : get_elem? two.0.told 0 ≡ some (heard_of w) = ap (λ (k : Knows). get_elem? k.told 0) two_is in
    let heard : IsHeard two.0.start book.entries (heard_of w) = grew.told (heard_of w) 0 first in
    let theirs : w.start ≡ purse.start = ap (λ (k : Knows). k.start) v in
    let mine : w.start ≡ me.0.start = heard.0 ∙ ap (λ (k : Knows). k.start) two_is in
    let it : IsServed here.old request purse.purse answer here.new = subst (λ (h : PurseView). IsServed here.old request h answer here.new) is here.served in
    let seen : four.0.front ≡ here.new.entries = ap (λ (m : Mine). m.0.front) gone ∙ ap (λ (m : Mine). m.0.front) grew.now_is in
    record {
      old = here.old;
      new = here.new;
      kept = here.kept;
      own = λ reply ok. ap (count_of answer.purse.terminal) seen ∙ own_of here.old here.new request purse.purse answer it reply ok;
      opening = ap (λ (p : Past). p.opening) same ∙ (opening ∙ (sym mine ∙ theirs));
      begins = subst (λ (p : Past). IsPrefix purse.front p.entries) (sym same) (subst (λ (xs : List Entry). IsPrefix xs book.entries) (ap (λ (k : Knows). k.front) v) heard.1);
      seen = seen;
      start = ap (λ (m : Mine). m.0.start) gone ∙ (ap (λ (m : Mine). m.0.start) grew.now_is ∙ (ap (λ (k : Knows). k.start) two_is ∙ (sym mine ∙ theirs)));
      served = it;
    }

-- ---- what a held turn is after a request

-- the keeper's seat has the book that served, and is told of by the other
abbrev Grown : Mine → Knows → Past → Mine
Grown me w new = (knows me.0.start new.entries (me.0.parts + w.parts) (Holds (number_of me.0.stage) new.entries) (heard_of w ∷ (w.told ++ me.0.told)), (0, Some new) ∷ [])

pub grown_is : (me one two three : Mine) (w : Knows) (base : List Entry) (request : Request) (held : PurseView) (answer : AnswerView PurseView)
    → one ≡ (both_of me.0 w, me.1) → (here : HasServedHere one request held answer two) → HasGrown two (number_of me.0.stage) base here.new three → three ≡ Grown me w here.new
grown_is me one two three w base request held answer joined here grew =
    let two_is : two.0 ≡ both_of me.0 w = ap (λ (m : Mine). m.0) here.now_is ∙ ap (λ (m : Mine). m.0) joined in
    let slot : two.1 ≡ (0, Some here.new) ∷ [] = ap (λ (m : Mine). m.1) here.now_is in
    grew.now_is ∙ (λ i. (knows (two_is i).start here.new.entries (two_is i).parts (Holds (number_of me.0.stage) here.new.entries) (two_is i).told, slot i))

pub parts_left : (me three : Mine) (w : Knows) (new : Past) (parts : ℕ) → three ≡ Grown me w new → me.0.parts ≡ parts → 0 < parts → 0 < w.parts
    → (0 < last_parts three.0.told) × (last_parts three.0.told < three.0.parts)
parts_left me three w new parts grown mine has theirs =
    let last : last_parts three.0.told ≡ w.parts = ap (λ (m : Mine). last_parts m.0.told) grown in
    let all : three.0.parts ≡ me.0.parts + w.parts = ap (λ (m : Mine). m.0.parts) grown in
    (omega (arith, last, theirs), omega (arith, last, all, mine, has))

-- once the other has gone the keeper has its own parts again
pub still_holds : (me three last : Mine) (w : Knows) (new : Past) (parts : ℕ) → three ≡ Grown me w new → me.0.parts ≡ parts → last ≡ (freed_of three.0, three.1) → last ≡ turn_holder last parts new
still_holds me three last w new parts grown mine freed =
    let e : last ≡ (freed_of (Grown me w new).0, (0, Some new) ∷ []) = freed ∙ (λ i. (freed_of (grown i).0, (grown i).1)) in
    let start : last.0.start ≡ me.0.start = ap (λ (m : Mine). m.0.start) e in
    let number : number_of last.0.stage ≡ number_of me.0.stage = ap (λ (m : Mine). number_of m.0.stage) e in
    let left : me.0.parts + w.parts - w.parts ≡ parts = omega (arith, mine) in
    e ∙ (λ i. (knows (sym start i) new.entries (left i) (Holds (sym number i) new.entries) [], (0, Some new) ∷ []))

pub still_numbered : (me three last : Mine) (w : Knows) (new : Past) → three ≡ Grown me w new → last ≡ (freed_of three.0, three.1) → number_of last.0.stage ≡ number_of me.0.stage
still_numbered me three last w new grown freed = ap (λ (m : Mine). number_of m.0.stage) (freed ∙ (λ i. (freed_of (grown i).0, (grown i).1)))

pub still_opened : (me three last : Mine) (w : Knows) (new : Past) → three ≡ Grown me w new → last ≡ (freed_of three.0, three.1) → last.0.start ≡ me.0.start
still_opened me three last w new grown freed = ap (λ (m : Mine). m.0.start) (freed ∙ (λ i. (freed_of (grown i).0, (grown i).1)))

pub opening_stays : (old new book : Past) (request : Request) (held : PurseView) (answer : AnswerView PurseView) → old ≡ book → IsServed old request held answer new → new.opening ≡ book.opening
opening_stays old new book request held answer same served =
    same_opening old new held.terminal held.entries request answer.place answer.outcome served.turn.accepts served.turn.refuses ∙ ap (λ (p : Past). p.opening) same

-- the other's seat comes back with the parts of its purse
pub back_is : (me three back : Mine) (w : Knows) (new : Past) (parts : ℕ) → three ≡ Grown me w new → w.parts ≡ parts → back ≡ (back_of three.0, [])
    → back ≡ (knows back.0.start back.0.front parts Idle [], [])
back_is me three back w new parts grown theirs gone =
    let last : last_parts three.0.told ≡ parts = ap (λ (m : Mine). last_parts m.0.told) grown ∙ theirs in
    gone ∙ (λ i. (knows (sym (ap (λ (m : Mine). m.0.start) gone) i) (sym (ap (λ (m : Mine). m.0.front) gone) i) (last i) Idle [], []))

room_same : (o : Result Reply Refusal) (request : Request) (held after : PurseView) → MatchResult o (λ reply. after ≡ purse_after held (paid_by_request request)) (λ refusal. after ≡ held) → after.room ≡ held.room
room_same (Ok reply) request held after e = ap (λ (p : PurseView). p.room) e
room_same (Err refusal) request held after e = ap (λ (p : PurseView). p.room) e

pub room_stays : (old new : Past) (request : Request) (held : PurseView) (answer : AnswerView PurseView) → IsServed old request held answer new → answer.purse.room ≡ held.room
room_stays old new request held answer served = room_same answer.outcome request held answer.purse served.fits.purse_is

-- ---- ending

pub ends_held : (me : Mine) (ticket parts : ℕ) (book : Past) → me ≡ turn_holder me parts book → ticket ≡ number_of me.0.stage % 2 ^ 64 → book.opening ≡ me.0.start → CanEnd me ((ticket + 1) % 2 ^ 64)
ends_held me ticket parts book keeps ticket_is opening =
    record {
      number = number_of me.0.stage;
      base = book.entries;
      book = book;
      stage = ap (λ (m : Mine). m.0.stage) keeps;
      slot = ap (λ (m : Mine). m.1) keeps;
      longer = prefix_self book.entries book.entries refl;
      opening = opening;
      next_is = ap (λ (n : ℕ). (n + 1) % 2 ^ 64) ticket_is ∙ mod-add-mod (number_of me.0.stage) (2 ^ 64) 1;
    }
