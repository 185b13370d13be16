-- The steps of a turn, put together.
use Rattle.std.proofs.Common.{◌≡◌, ℕ, ◌+◌, ◌%◌, ◌^◌, List, [], ◌∷◌, refl, sym, ap, ◌∙◌, subst, Some}
use Rattle.std.specs.Prelude.{Option, None}
use Rattle.std.proofs.Math.Nat.{mod-add-mod}
use mathlib.Core.List.{IsPrefix}
use Rattle.atomic_table.specs.Table.{Me, rest}
use Rattle.tpcc_rows.specs.declared.transactions.entry.Entry.{Entry}
use Rattle.tpcc_book.specs.Past.{Past}
use Rattle.tpcc_turns.specs.Knows.{Knows, Idle, Holds}
use Rattle.tpcc_turns.specs.Knows.{knows}
use Rattle.tpcc_turns.specs.Internal.TurnRule.{HasBook}
use Rattle.tpcc_turns.specs.Internal.TurnSteps.{HasDrawn, HasTaken, HasServedHere, CanEnd}
use Rattle.tpcc_turns.specs.Seats.{SeatedView, IsTurned}
use Rattle.tpcc_turns.specs.Internal.Seats.{view_of}
use Rattle.std.specs.Prelude.{Result}
use Rattle.tpcc_rows.specs.declared.transactions.requests.Request.{Request}
use Rattle.tpcc_rows.specs.declared.transactions.replies.Reply.{Reply}
use Rattle.tpcc_rows.specs.declared.transactions.refusals.Refusal.{Refusal}
use Rattle.tpcc_book.specs.Purses.{PurseView}
use Rattle.tpcc_book.specs.AnswerView.{AnswerView, answer_with}
use Rattle.tpcc_book.specs.Serve.{IsServed, purse_after}
use Rattle.tpcc_book.specs.Turn.{entry_of, Accepts, Refuses}
use Rattle.std.specs.Result.{ForOk, ForErr}
use Rattle.tpcc_turns.proofs.Seats.{prefix_self}
use Rattle.tpcc_book.proofs.Keeps.{accepted_by}
use Rattle.tpcc_rows.specs.Replay.{count_of, paid_by_request}
use Rattle.std.specs.Prelude.{Ok, Err, MatchResult}
use Rattle.std.proofs.Common.{◌++◌, ◌==◌, true, cond, eq-eqb}
use Rattle.std.proofs.lemmas.List.Sums.{sum_by-append}

abbrev Mine : Type 0
Mine = Me (Option Past) Knows

-- the seat has the book once its turn has come
pub taken_of : (me one two : Mine) (ticket : ℕ) → me.1 ≡ [] → (d : HasDrawn me ticket one) → HasBook one d.ticket two → HasTaken me ticket two
taken_of me one two ticket empty d t =
    let here : two.0 ≡ knows me.0.start t.book.entries me.0.parts (Holds d.ticket t.book.entries) me.0.told = ap (λ (m : Mine). m.0) t.now_is ∙ (λ i. knows (d.now_is i).0.start t.book.entries (d.now_is i).0.parts (Holds d.ticket t.book.entries) (d.now_is i).0.told) in
    let slot : two.1 ≡ (0, Some t.book) ∷ [] = ap (λ (m : Mine). m.1) t.now_is ∙ ap (λ (c : List (ℕ × Option Past)). (0, Some t.book) ∷ c) (ap (λ (m : Mine). m.1) d.now_is ∙ empty) in
    record {
      number = d.ticket;
      book = t.book;
      ticket_is = d.found_is;
      now_is = λ i. (here i, slot i);
      begins = subst (λ (m : Mine). IsPrefix m.0.front t.book.entries) d.now_is t.begins;
      opening = t.opening ∙ ap (λ (m : Mine). m.0.start) d.now_is;
    }

head_same : (x y : Option Past) (xs ys : List (ℕ × Option Past)) → ◌≡◌ {A = List (ℕ × Option Past)} ((0, x) ∷ xs) ((0, y) ∷ ys) → x ≡ y
head_same x y xs ys e =
    let pair : ◌≡◌ {A = ℕ × Option Past} (0, x) (0, y) = cc e in ap (λ (p : ℕ × Option Past). p.1) pair

some_same : (a b : Past) → Some a ≡ Some b → a ≡ b
some_same a b e = cc

-- there is one book in the slot
pub one_book : (c : List (ℕ × Option Past)) (a b : Past) → c ≡ (0, Some a) ∷ [] → c ≡ (0, Some b) ∷ [] → a ≡ b
one_book c a b e f = some_same a b (head_same (Some a) (Some b) [] [] (sym e ∙ f))

-- the slot of one who has the book is its first one, and holds it
pub in_slot : (c : List (ℕ × Option Past)) (book : Past) → c ≡ (0, Some book) ∷ [] → c ≡ (0, Some book) ∷ rest c
in_slot c book e = e ∙ ap (λ (d : List (ℕ × Option Past)). (0, Some book) ∷ d) (sym (ap rest e))

-- what is lent of the slot is the book
pub lent_is : (c : List (ℕ × Option Past)) (book : Past) (x : Option Past) → c ≡ (0, Some book) ∷ [] → c ≡ (0, x) ∷ rest c → x ≡ Some book
lent_is c book x e f = sym (head_same (Some book) x [] (rest c) (sym e ∙ f))

pub never_none : (book : Past) (x : Option Past) → x ≡ Some book → x ≡ None → ⊥
never_none book x there none = let clash : Some book ≡ None = sym there ∙ none in cc clash

-- of the terminal's entries, the journal after an accepted turn has as many as the purse
pub own_of : (old new : Past) (request : Request) (held : PurseView) (answer : AnswerView PurseView)
    → IsServed old request held answer new → (reply : Reply) → answer.outcome ≡ Ok reply → count_of answer.purse.terminal new.entries ≡ answer.purse.entries
own_of old new request held answer served reply is =
    let a = served.turn.accepts reply is in
    let number : held.entries ≡ count_of held.terminal old.entries = (accepted_by old held.terminal held.entries request a.none_applies).number_is in
    let credit : answer.purse ≡ purse_after held (paid_by_request request) = elim_ok answer.outcome reply is served.fits.purse_is in
    let last = entry_of old held.terminal held.entries request in
    let more : count_of held.terminal (old.entries ++ last ∷ []) ≡ count_of held.terminal old.entries + 1 = count_more held.terminal old.entries last refl in
    ap (λ (h : PurseView). count_of h.terminal new.entries) credit ∙ (ap (λ (p : Past). count_of held.terminal p.entries) a.new_is ∙ (more ∙ (ap (λ (n : ℕ). n + 1) (sym number) ∙ sym (ap (λ (h : PurseView). h.entries) credit))))
  where
    elim_ok : (o : Result Reply Refusal) (reply : Reply) → o ≡ Ok reply → MatchResult o (λ reply. answer.purse ≡ purse_after held (paid_by_request request)) (λ refusal. answer.purse ≡ held) → answer.purse ≡ purse_after held (paid_by_request request)
    elim_ok (Ok r) reply e h = h
    elim_ok (Err r) reply e h = absurd (cc e)

    count_more : (terminal : ℕ) (es : List Entry) (e : Entry) → e.terminal ≡ terminal → count_of terminal (es ++ e ∷ []) ≡ count_of terminal es + 1
    count_more terminal es e same =
        let it : (e.terminal == terminal) ≡ true = eq-eqb e.terminal terminal same in
        let one : count_of terminal (e ∷ []) ≡ 1 = rw it refl in
        sum_by-append (λ (x : Entry). cond (x.terminal == terminal) 1 0) es (e ∷ []) ∙ ap (λ (n : ℕ). count_of terminal es + n) one

pub turned_of : (held : PurseView) (purse : SeatedView) (me two three four : Mine) (ticket : ℕ) (answer : AnswerView PurseView) (request : Request)
    → held ≡ purse.purse → me ≡ (view_of purse, []) → (t : HasTaken me ticket two) → (s : HasServedHere two request held answer three)
    → four ≡ (knows three.0.start s.new.entries three.0.parts Idle three.0.told, [])
    → IsTurned request purse (answer_with answer (record { purse = answer.purse; start = four.0.start; front = four.0.front }))
turned_of held purse me two three four ticket answer request is seat t s ended =
    let old_is : s.old ≡ t.book = one_book two.1 s.old t.book s.old_is (ap (λ (m : Mine). m.1) t.now_is) in
    let begun : me.0.start ≡ purse.start = ap (λ (m : Mine). m.0.start) seat in
    let one : IsServed s.old request purse.purse answer s.new = subst (λ (h : PurseView). IsServed s.old request h answer s.new) is s.served in
    let seen : four.0.front ≡ s.new.entries = ap (λ (m : Mine). m.0.front) ended in
    record {
      old = s.old;
      new = s.new;
      kept = s.kept;
      own = λ reply ok. ap (count_of answer.purse.terminal) seen ∙ own_of s.old s.new request purse.purse answer one reply ok;
      opening = ap (λ (p : Past). p.opening) old_is ∙ (t.opening ∙ begun);
      begins = subst (λ (p : Past). IsPrefix purse.front p.entries) (sym old_is) (subst (λ (xs : List Entry). IsPrefix xs t.book.entries) (ap (λ (m : Mine). m.0.front) seat) t.begins);
      seen = seen;
      start = ap (λ (m : Mine). m.0.start) ended ∙ (ap (λ (m : Mine). m.0.start) s.now_is ∙ (ap (λ (m : Mine). m.0.start) t.now_is ∙ begun));
      served = one;
    }

-- the journal after a turn begins with the one before it
pub entries_grow : (old new : Past) (terminal number : ℕ) (request : Request) (place : Option ℕ) (outcome : Result Reply Refusal)
    → ForOk outcome (Accepts old terminal number request place new) → ForErr outcome (Refuses old terminal number request place new) → IsPrefix old.entries new.entries
entries_grow old new terminal number request place (Ok reply) ok err =
    subst (λ (p : Past). IsPrefix old.entries p.entries) (sym (ok reply refl).new_is) (entry_of old terminal number request ∷ [], refl)
entries_grow old new terminal number request place (Err refusal) ok err =
    subst (λ (p : Past). IsPrefix old.entries p.entries) (sym (err refusal refl).same) (prefix_self old.entries old.entries refl)

pub same_opening : (old new : Past) (terminal number : ℕ) (request : Request) (place : Option ℕ) (outcome : Result Reply Refusal)
    → ForOk outcome (Accepts old terminal number request place new) → ForErr outcome (Refuses old terminal number request place new) → new.opening ≡ old.opening
same_opening old new terminal number request place (Ok reply) ok err = ap (λ (p : Past). p.opening) (ok reply refl).new_is
same_opening old new terminal number request place (Err refusal) ok err = ap (λ (p : Past). p.opening) (err refusal refl).same

-- the turn may end after a request
pub ending_of : (me two three : Mine) (ticket : ℕ) (request : Request) (held : PurseView) (answer : AnswerView PurseView) → HasTaken me ticket two → HasServedHere two request held answer three → CanEnd three ((ticket + 1) % 2 ^ 64)
ending_of me two three ticket request held answer t s =
    let old_is : s.old ≡ t.book = one_book two.1 s.old t.book s.old_is (ap (λ (m : Mine). m.1) t.now_is) in
    let turn = s.served.turn in
    record {
      number = t.number;
      base = s.old.entries;
      book = s.new;
      stage = ap (λ (m : Mine). m.0.stage) s.now_is ∙ (ap (λ (m : Mine). m.0.stage) t.now_is ∙ ap (λ (p : Past). Holds t.number p.entries) (sym old_is));
      slot = ap (λ (m : Mine). m.1) s.now_is;
      longer = entries_grow s.old s.new held.terminal held.entries request answer.place answer.outcome turn.accepts turn.refuses;
      opening = same_opening s.old s.new held.terminal held.entries request answer.place answer.outcome turn.accepts turn.refuses ∙ (ap (λ (p : Past). p.opening) old_is ∙ (t.opening ∙ (sym (ap (λ (m : Mine). m.0.start) t.now_is) ∙ sym (ap (λ (m : Mine). m.0.start) s.now_is))));
      next_is = ap (λ (n : ℕ). (n + 1) % 2 ^ 64) t.ticket_is ∙ mod-add-mod t.number (2 ^ 64) 1;
    }
