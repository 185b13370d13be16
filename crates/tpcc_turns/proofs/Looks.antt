-- Looking whether the turn has come keeps the rule.
use Rattle.std.proofs.Common.{◌≡◌, ◌≢◌, ℕ, ◌%◌, ◌^◌, ◌==◌, Bool, true, false, List, ◌∷◌, refl, sym, ap, ◌∙◌, subst, ⊎_elim, inl, inr, arith, Some}
use Rattle.std.specs.Prelude.{Option, slice_index, slice_set}
use Rattle.std.proofs.lemmas.Bool.Decides.{nat_tests}
use mathlib.Core.Option.{some, none, some-injective, Option as Home}
use mathlib.Core.List.{IsPrefix}
use lib.ListN.{get_elem?}
use Rattle.atomic_table.specs.Table.{State, Me, Step, keeps, takes, Act, Valid, stepped, carried_after, Allows}
use Rattle.atomic_table.proofs.Lists.{set_again, one_turn}
use Rattle.tpcc_rows.specs.declared.transactions.entry.Entry.{Entry}
use Rattle.tpcc_book.specs.Past.{Past}
use Rattle.tpcc_turns.specs.Knows.{Knows, Stage, Out, Holds}
use Rattle.tpcc_turns.specs.Knows.{knows}
use Rattle.tpcc_turns.specs.Internal.TurnRule.{out_of, HasTicket, Stands, IsSeated, AtHome, Away, FollowsTurnRule, HasBook, LookStep}
use Rattle.tpcc_turns.specs.Internal.TurnSteps.{Awaits}
use Rattle.tpcc_turns.proofs.Seats.{total_set, total_le, each_set, apart_set, set_same, prefix_self}
use Rattle.tpcc_population.specs.declared.opening.Opening.{Opening}

abbrev After : Opening → ℕ → Knows → List (ℕ × Option Past) → Step (Option Past) → State (Option Past) Knows → Type 0
After start id v c s0 s =
    (w : Knows) × (a : Act (Option Past)) × Valid s.homes c a × FollowsTurnRule start (stepped s 1 (slice_index s.words 1) id c w a) × LookStep s0 (v, c) (slice_index s.words 1) (w, carried_after c a)

out_same : (a b : ℕ) → Out a ≡ Out b → a ≡ b
out_same a b e = cc

-- a number that is out is served where the word says so
served_is : (start : Opening) (s : State (Option Past) Knows) (h : FollowsTurnRule start s) (ticket : ℕ) → Stands h.log h.served h.drawn (Out ticket) → h.served % 2 ^ 64 ≡ ticket % 2 ^ 64 → h.served ≡ ticket
served_is start s h ticket stands e =
    let few = total_le (λ (v : Knows). out_of v.stage) (λ (v : Knows). v.parts) s.views (λ j v at. (h.each j v at).backed) in
    one_turn h.served ticket (2 ^ 64) stands.0 (omega (arith, stands.1, few, h.outs, h.parts)) e

words_stay : (start : Opening) (s : State (Option Past) Knows) (h : FollowsTurnRule start s) → slice_set s.words 1 (slice_index s.words 1) ≡ s.words
words_stay start s h =
    ap (λ (ws : List ℕ). slice_set ws 1 (slice_index ws 1)) h.words ∙ sym h.words

-- the turn has come: the book is there
comes : (start : Opening) (id : ℕ) (v : Knows) (c : List (ℕ × Option Past)) (s0 : Step (Option Past)) (ticket : ℕ) (s : State (Option Past) Knows) (h : FollowsTurnRule start s)
    → v.stage ≡ Out ticket → get_elem? s.views id ≡ some v → h.served ≡ ticket → AtHome start h.log s.homes s.views → After start id v c s0 s
comes start id v c s0 ticket s h out at now b =
    let w = knows v.start b.book.entries v.parts (Holds ticket b.book.entries) v.told in
    let mine = h.each id v at in
    let one_out : out_of v.stage ≡ 1 = ap out_of out in
    let outs = total_set (λ (u : Knows). out_of u.stage) s.views id v w at in
    let parts = total_set (λ (u : Knows). u.parts) s.views id v w at in
    let stands : Stands h.log h.served h.drawn (Out ticket) = subst (Stands h.log h.served h.drawn) out mine.stands in
    let found : slice_index s.words 1 ≡ h.served % 2 ^ 64 = ap (λ (ws : List ℕ). slice_index ws 1) h.words in (
      w,
      takes 0 (Some b.book),
      ap (λ (hs : List (Home (Option Past))). get_elem? hs 0) b.there,
      record {
        log = h.log;
        served = h.served;
        drawn = h.drawn;
        words = words_stay start s h ∙ h.words;
        outs = omega (arith, outs, one_out, h.outs);
        parts = omega (arith, parts, h.parts);
        each = each_set (λ (j : ℕ) (u : Knows). IsSeated start h.log h.served h.drawn u) s.views id w (λ j u apart e. h.each j u e) (record {
          start_is = mine.start_is;
          front = prefix_self b.book.entries h.log b.entries;
          told = mine.told;
          backed = omega (arith, one_out, mine.backed);
          stands = (sym now, stands.1, b.entries);
        });
        apart = apart_set s.views id w h.apart (λ j u n apart e t other. apart (sym (h.apart id j v u n at e (subst (λ (k : Stage). HasTicket k n) (sym out) t) other)));
        book = inr (record { gone = ap (λ (hs : List (Home (Option Past))). slice_set hs 0 none) b.there; seat = id; holder = w; base = b.book.entries; at = set_same s.views id v w at; holds = ap (λ (k : ℕ). Holds k b.book.entries) (sym now) });
      },
      λ k same. inl (found ∙ ap (λ (n : ℕ). n % 2 ^ 64) (now ∙ out_same ticket k (sym out ∙ same)), record { book = b.book; now_is = ap (λ (n : ℕ). (knows v.start b.book.entries v.parts (Holds n b.book.entries) v.told, (0, Some b.book) ∷ c)) (out_same ticket k (sym out ∙ same)); begins = subst (λ (xs : List Entry). IsPrefix v.front xs) (sym b.entries) mine.front; opening = b.opening ∙ sym (mine.start_is (omega (arith, one_out, mine.backed))) }),
    )

-- no other seat can have it then
not_away : (start : Opening) (id : ℕ) (v : Knows) (ticket : ℕ) (s : State (Option Past) Knows) (h : FollowsTurnRule start s)
    → v.stage ≡ Out ticket → get_elem? s.views id ≡ some v → h.served ≡ ticket → Away h.served s.homes s.views → ⊥
not_away start id v ticket s h out at now b =
    let same : id ≡ b.seat = h.apart id b.seat v b.holder h.served at b.at (subst (λ (k : Stage). HasTicket k h.served) (sym out) (sym now)) (subst (λ (k : Stage). HasTicket k h.served) (sym b.holds) refl) in
    let one : v ≡ b.holder = some-injective v b.holder (sym at ∙ (ap (λ (k : ℕ). get_elem? s.views k) same ∙ b.at)) in
    let clash : Out ticket ≡ Holds h.served b.base = sym out ∙ (ap (λ (k : Knows). k.stage) one ∙ b.holds) in cc clash

-- it has not come
waits : (start : Opening) (id : ℕ) (v : Knows) (c : List (ℕ × Option Past)) (s0 : Step (Option Past)) (ticket : ℕ) (s : State (Option Past) Knows) (h : FollowsTurnRule start s)
    → v.stage ≡ Out ticket → get_elem? s.views id ≡ some v → h.served ≢ ticket → After start id v c s0 s
waits start id v c s0 ticket s h out at other =
    let mine = h.each id v at in
    let stands : Stands h.log h.served h.drawn (Out ticket) = subst (Stands h.log h.served h.drawn) out mine.stands in
    let found : slice_index s.words 1 ≡ h.served % 2 ^ 64 = ap (λ (ws : List ℕ). slice_index ws 1) h.words in
    let same : s ≡ stepped s 1 (slice_index s.words 1) id c v keeps = λ i. record { words = sym (words_stay start s h) i; homes = s.homes; views = sym (set_again s.views id v at) i } in (
      v,
      keeps,
      tt,
      subst (FollowsTurnRule start) same h,
      λ k is. inr ((λ e. other (served_is start s h ticket stands (sym found ∙ (e ∙ ap (λ (n : ℕ). n % 2 ^ 64) (out_same k ticket (sym is ∙ out)))))), refl),
    )

looks_by : (start : Opening) (id : ℕ) (v : Knows) (c : List (ℕ × Option Past)) (s0 : Step (Option Past)) (ticket : ℕ) (s : State (Option Past) Knows) (h : FollowsTurnRule start s)
    → v.stage ≡ Out ticket → get_elem? s.views id ≡ some v → (b : Bool) → (h.served == ticket) ≡ b → After start id v c s0 s
looks_by start id v c s0 ticket s h out at true is =
    let now : h.served ≡ ticket = grind (arith, nat_tests) in
    elim h.book [ inl b ↦ comes start id v c s0 ticket s h out at now b | inr b ↦ absurd (not_away start id v ticket s h out at now b) ]
looks_by start id v c s0 ticket s h out at false is =
    waits start id v c s0 ticket s h out at (λ now. absurd (grind (arith, nat_tests)))

pub looks : (start : Opening) (slots id : ℕ) (v : Knows) (c : List (ℕ × Option Past)) (s0 : Step (Option Past)) (ticket : ℕ) → v.stage ≡ Out ticket
    → Allows (FollowsTurnRule start) slots id (v, c) 1 (λ n. n) (LookStep s0 (v, c))
looks start slots id v c s0 ticket out s h homes at small =
    looks_by start id v c s0 ticket s h out at (h.served == ticket) refl

-- what was looked for has come, where the numbers agree
pub look_takes : (s0 : Step (Option Past)) (found ticket : ℕ) (me was now : Me (Option Past) Knows) → Awaits me ticket → was ≡ me → found ≡ ticket → LookStep s0 was found now
    → (number : ℕ) → me.0.stage ≡ Out number → HasBook me number now
look_takes s0 found ticket me was now waits same is looked number stage =
    let number_is : waits.number ≡ number = out_same waits.number number (sym waits.stage ∙ stage) in
    ⊎_elim
    (λ (x : (found ≡ number % 2 ^ 64) × HasBook was number now). subst (λ (m : Me (Option Past) Knows). HasBook m number now) same x.1)
    (λ (x : (found ≡ number % 2 ^ 64 → ⊥) × (now ≡ was)). absurd (x.0 (is ∙ (waits.ticket_is ∙ ap (λ (n : ℕ). n % 2 ^ 64) number_is))))
    (looked number (ap (λ (m : Me (Option Past) Knows). m.0.stage) same ∙ stage))

pub look_misses : (s0 : Step (Option Past)) (found ticket : ℕ) (me was now : Me (Option Past) Knows) → Awaits me ticket → was ≡ me → (found ≡ ticket → ⊥) → LookStep s0 was found now → now ≡ me
look_misses s0 found ticket me was now waits same other looked =
    ⊎_elim
    (λ (x : (found ≡ waits.number % 2 ^ 64) × HasBook was waits.number now). absurd (other (x.0 ∙ sym waits.ticket_is)))
    (λ (x : (found ≡ waits.number % 2 ^ 64 → ⊥) × (now ≡ was)). x.1 ∙ same)
    (looked waits.number (ap (λ (m : Me (Option Past) Knows). m.0.stage) same ∙ waits.stage))
