-- What a terminal's entries are, after each turn of the book.
use Rattle.std.proofs.Common.{◌≡◌, ◌∙◌, sym, ap, refl, subst, ℕ, zero, suc, ◌+◌, true, false, cond, eqb, ◌≢◌, ⊎_elim, eq-eqb, ne_eqb, List, [], ◌∷◌, ◌++◌, length, append_assoc, append-nil, arith}
use Rattle.std.specs.Prelude.{Option, Some, None, Result, Ok, Err, MatchResult, All, slice_get}
use Rattle.std.specs.Result.{ForOk, ForErr}
use Rattle.std.proofs.lemmas.Bool.Decides.{eqb_tells}
use Rattle.std.proofs.lemmas.List.Elements.{All-nil, All-cons, All-append, All-weaker}
use Rattle.std.proofs.lemmas.List.Sums.{length-filter}
use Rattle.std.proofs.lemmas.List.{length-append}
use Rattle.tpcc_rows.specs.declared.transactions.entry.Entry.{Entry}
use Rattle.tpcc_rows.specs.declared.transactions.requests.Request.{Request}
use Rattle.tpcc_rows.specs.declared.transactions.replies.Reply.{Reply}
use Rattle.tpcc_rows.specs.declared.transactions.refusals.Refusal.{Refusal}
use Rattle.tpcc_rows.specs.Replay.{count_of}
use Rattle.tpcc_rows.specs.Turn.{reply_to}
use Rattle.tpcc_laws.proofs.List.{filter-append}
use Rattle.tpcc_book.specs.Past.{Past}
use Rattle.tpcc_book.specs.Purses.{PurseView}
use Rattle.tpcc_book.specs.AnswerView.{AnswerView}
use Rattle.tpcc_book.specs.Turn.{entry_of, Accepts, Refuses}
use Rattle.tpcc_book.specs.Serve.{IsServed}
use Rattle.tpcc_book.proofs.Keeps.{accepted_by}
use Rattle.tpcc_core.specs.declared.mailbox.Collected.{Collected}
use Rattle.tpcc_core.specs.SeatSteps.{kept_of}
use Rattle.tpcc_core.specs.Traces.{with_entry, entries_from, entries_by, StandsAt, IsRecorded}

-- from one journal to a later one: a terminal's new entries are those of its answers, each of which stands at its place
pub record Records (t : ℕ) (old new : List Entry) (answered : List Collected) : Type 0 where
  pub entries : entries_by t new ≡ entries_by t old ++ entries_from t (length (entries_by t old)) answered
  pub recorded : All (IsRecorded new t) answered
  pub more : List Entry
  pub grown : new ≡ old ++ more

pub nothing_new : (t : ℕ) (old new : List Entry) → new ≡ old → Records t old new []
nothing_new t old new same =
    record { entries = ap (entries_by t) same ∙ sym (append-nil (entries_by t old)); recorded = All-nil (IsRecorded new t); more = []; grown = same ∙ sym (append-nil old) }

-- ---- one journal after another

entered_more : (t : ℕ) (xs ys : List Collected) (n : ℕ) (request : Request) (o : Result Reply Refusal)
    → ((k : ℕ) → entries_from t k (xs ++ ys) ≡ entries_from t k xs ++ entries_from t (k + length (entries_from t k xs)) ys)
    → with_entry t n request o (λ k. entries_from t k (xs ++ ys))
    ≡ with_entry t n request o (λ k. entries_from t k xs) ++ entries_from t (n + length (with_entry t n request o (λ k. entries_from t k xs))) ys
entered_more t xs ys n request (Ok reply) rest =
    ap (λ es. record { terminal = t; number = n; request = request; reply = reply } ∷ es)
    (rest (n + 1) ∙ ap (λ k. entries_from t (n + 1) xs ++ entries_from t k ys) (omega arith))
entered_more t xs ys n request (Err refusal) rest = rest n

entries_more : (t : ℕ) (xs ys : List Collected) (n : ℕ) → entries_from t n (xs ++ ys) ≡ entries_from t n xs ++ entries_from t (n + length (entries_from t n xs)) ys
entries_more t [] ys n = ap (λ k. entries_from t k ys) (omega arith)
entries_more t (c ∷ xs) ys n = entered_more t xs ys n c.request c.outcome (entries_more t xs ys)

get_kept : (xs ys : List Entry) (place : ℕ) (e : Entry) → slice_get xs place ≡ Some e → slice_get (xs ++ ys) place ≡ Some e
get_kept [] ys place e is = absurd cc
get_kept (x ∷ xs) ys zero e is = is
get_kept (x ∷ xs) ys (suc place) e is = get_kept xs ys place e is

outcome_kept : (old more : List Entry) (t : ℕ) (request : Request) (place : Option ℕ) (o : Result Reply Refusal)
    → MatchResult o (λ reply. StandsAt old t request reply place) (λ refusal. place ≡ None)
    → MatchResult o (λ reply. StandsAt (old ++ more) t request reply place) (λ refusal. place ≡ None)
outcome_kept old more t request place (Ok reply) at = record { place = at.place; number = at.number; place_is = at.place_is; entry_is = get_kept old more at.place _ at.entry_is }
outcome_kept old more t request place (Err refusal) none = none

-- what stands at a place stays there
pub recorded_kept : (t : ℕ) (old new more : List Entry) (answered : List Collected) → new ≡ old ++ more → All (IsRecorded old t) answered → All (IsRecorded new t) answered
recorded_kept t old new more answered grown =
    All-weaker (IsRecorded old t) (IsRecorded new t) (λ c at. subst (λ es. IsRecorded es t c) (sym grown) (outcome_kept old more t c.request c.place c.outcome at)) answered

pub later_records : (t : ℕ) (old new last : List Entry) (answered later : List Collected) → Records t old new answered → Records t new last later → Records t old last (answered ++ later)
later_records t old new last answered later one two =
    let first = entries_from t (length (entries_by t old)) answered in
    let counted : length (entries_by t new) ≡ length (entries_by t old) + length first = ap length one.entries ∙ length-append (entries_by t old) first in
    record {
      entries = two.entries
          ∙ (ap (λ k. entries_by t new ++ entries_from t k later) counted
          ∙ (ap (λ es. es ++ entries_from t (length (entries_by t old) + length first) later) one.entries
          ∙ (append_assoc (entries_by t old) first (entries_from t (length (entries_by t old) + length first) later)
          ∙ ap (λ es. entries_by t old ++ es) (sym (entries_more t answered later (length (entries_by t old)))))));
      recorded = All-append (IsRecorded last t) answered later (recorded_kept t new last two.more answered two.grown one.recorded) two.recorded;
      more = one.more ++ two.more;
      grown = two.grown ∙ (ap (λ es. es ++ two.more) one.grown ∙ append_assoc old one.more two.more);
    }

-- ---- one turn

get_last : (xs : List Entry) (e : Entry) → slice_get (xs ++ e ∷ []) (length xs) ≡ Some e
get_last [] e = refl
get_last (x ∷ xs) e = get_last xs e

-- of another terminal
other_entry : (t : ℕ) (old : List Entry) (e : Entry) → (e.terminal ≡ t → ⊥) → Records t old (old ++ e ∷ []) []
other_entry t old e apart =
    let none : entries_by t (e ∷ []) ≡ [] = ap (λ b. cond b (e ∷ []) []) (ne_eqb e.terminal t apart) in
    record {
      entries = filter-append (λ x. eqb x.terminal t) old (e ∷ []) ∙ ap (λ es. entries_by t old ++ es) none;
      recorded = All-nil (IsRecorded (old ++ e ∷ []) t);
      more = e ∷ [];
      grown = refl;
    }

-- of the terminal itself
own_entry : (t : ℕ) (old : List Entry) (e : Entry) (c : Collected) (reply : Reply) → c.outcome ≡ Ok reply → c.place ≡ Some (length old)
    → e ≡ record { terminal = t; number = length (entries_by t old); request = c.request; reply = reply } → Records t old (old ++ e ∷ []) (c ∷ [])
own_entry t old e c reply accepted place is =
    let one : entries_by t (e ∷ []) ≡ e ∷ [] = ap (λ b. cond b (e ∷ []) []) (eq-eqb e.terminal t (ap (λ (x : Entry). x.terminal) is)) in
    let from : entries_from t (length (entries_by t old)) (c ∷ []) ≡ e ∷ [] = ap (λ o. with_entry t (length (entries_by t old)) c.request o (λ k. [])) accepted ∙ ap (λ x. x ∷ []) (sym is) in
    let at : StandsAt (old ++ e ∷ []) t c.request reply c.place = record { place = length old; number = length (entries_by t old); place_is = place; entry_is = get_last old e ∙ ap (λ x. Some x) is } in
    record {
      entries = filter-append (λ x. eqb x.terminal t) old (e ∷ []) ∙ ap (λ es. entries_by t old ++ es) (one ∙ sym from);
      recorded = All-cons (IsRecorded (old ++ e ∷ []) t) c [] (subst (λ o. MatchResult o (λ r. StandsAt (old ++ e ∷ []) t c.request r c.place) (λ refusal. c.place ≡ None)) (sym accepted) at) (All-nil (IsRecorded (old ++ e ∷ []) t));
      more = e ∷ [];
      grown = refl;
    }

refusal_records : (t : ℕ) (old : List Entry) (c : Collected) (refusal : Refusal) → c.outcome ≡ Err refusal → c.place ≡ None → Records t old old (c ∷ [])
refusal_records t old c refusal is none =
    let from : entries_from t (length (entries_by t old)) (c ∷ []) ≡ [] = ap (λ o. with_entry t (length (entries_by t old)) c.request o (λ k. [])) is in
    record {
      entries = sym (ap (λ es. entries_by t old ++ es) from ∙ append-nil (entries_by t old));
      recorded = All-cons (IsRecorded old t) c [] (subst (λ o. MatchResult o (λ r. StandsAt old t c.request r c.place) (λ r. c.place ≡ None)) (sym is) none) (All-nil (IsRecorded old t));
      more = [];
      grown = sym (append-nil old);
    }

abbrev pub answer_for : ℕ → ℕ → Collected → List Collected
answer_for terminal t c = cond (eqb terminal t) (c ∷ []) []

the_entry : (a b : ℕ) (m n : ℕ) (q r : Request) (x y : Reply) → a ≡ b → m ≡ n → q ≡ r → x ≡ y
    → ◌≡◌ {A = Entry} (record { terminal = a; number = m; request = q; reply = x }) (record { terminal = b; number = n; request = r; reply = y })
the_entry a b m n q r x y e f g h = cc

turn_records : (old new : Past) (purse : PurseView) (request asked : Request) (place : Option ℕ) (o : Result Reply Refusal) (t : ℕ)
    → asked ≡ request → ForOk o (Accepts old purse.terminal purse.entries request place new) → ForErr o (Refuses old purse.terminal purse.entries request place new)
    → Records t old.entries new.entries (answer_for purse.terminal t (record { request = asked; outcome = o; place = place }))
turn_records old new purse request asked place (Ok reply) t same accepts refuses =
    let a = accepts reply refl in
    let entry = entry_of old purse.terminal purse.entries request in
    let c : Collected = record { request = asked; outcome = Ok reply; place = place } in
    let number : purse.entries ≡ count_of purse.terminal old.entries = (accepted_by old purse.terminal purse.entries request a.none_applies).number_is in
    subst (λ es. Records t old.entries es (answer_for purse.terminal t c)) (sym (ap (λ (p : Past). p.entries) a.new_is))
    (⊎_elim
    (λ (yes : (eqb purse.terminal t ≡ true) × (purse.terminal ≡ t)). subst (λ b. Records t old.entries (old.entries ++ entry ∷ []) (cond b (c ∷ []) [])) (sym yes.0)
    (own_entry t old.entries entry c reply refl a.place_is
    (the_entry purse.terminal t purse.entries (length (entries_by t old.entries)) request asked (reply_to old.state request) reply
    yes.1 (number ∙ (ap (λ k. count_of k old.entries) yes.1 ∙ sym (length-filter (λ e. eqb e.terminal t) old.entries))) (sym same) (sym a.reply_is))))
    (λ (not : (eqb purse.terminal t ≡ false) × (purse.terminal ≢ t)). subst (λ b. Records t old.entries (old.entries ++ entry ∷ []) (cond b (c ∷ []) [])) (sym not.0)
    (other_entry t old.entries entry not.1))
    (eqb_tells purse.terminal t))
turn_records old new purse request asked place (Err refusal) t same accepts refuses =
    let r = refuses refusal refl in
    let c : Collected = record { request = asked; outcome = Err refusal; place = place } in
    subst (λ es. Records t old.entries es (answer_for purse.terminal t c)) (sym (ap (λ (p : Past). p.entries) r.same))
    (⊎_elim
    (λ (yes : (eqb purse.terminal t ≡ true) × (purse.terminal ≡ t)). subst (λ b. Records t old.entries old.entries (cond b (c ∷ []) [])) (sym yes.0) (refusal_records t old.entries c refusal refl r.no_place))
    (λ (not : (eqb purse.terminal t ≡ false) × (purse.terminal ≢ t)). subst (λ b. Records t old.entries old.entries (cond b (c ∷ []) [])) (sym not.0) (nothing_new t old.entries old.entries refl))
    (eqb_tells purse.terminal t))

-- the answer of a served request, of this terminal or another
pub serve_records : (old new : Past) (request : Request) (purse : PurseView) (answer : AnswerView PurseView) (t : ℕ) → IsServed old request purse answer new
    → Records t old.entries new.entries (answer_for purse.terminal t (kept_of answer))
serve_records old new request purse answer t served =
    turn_records old new purse request answer.request answer.place answer.outcome t served.turn.request_is served.turn.accepts served.turn.refuses
