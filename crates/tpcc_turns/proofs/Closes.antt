-- The book that is found when the turns end.
use Rattle.std.proofs.Common.{◌≡◌, ℕ, ◌%◌, ◌^◌, ◌==◌, List, [], refl, sym, ap, ◌∙◌, subst, ⊎_elim, arith, Some}
use Rattle.std.specs.Prelude.{Option, None, IfSome, if◌then◌else◌, ℤ, Result, Ok, Err, IsOk, IfOk, IfErr}
use Rattle.std.proofs.lemmas.Int.{ints}
use Rattle.std.proofs.lemmas.Bool.Decides.{nat_tests}
use mathlib.Core.Option.{some, some-injective, Option as Home}
use lib.ListN.{get_elem?}
use Rattle.atomic_table.specs.Table.{State, Final, Seen}
use Rattle.atomic_table.proofs.Lists.{one_turn}
use Rattle.tpcc_rows.specs.declared.transactions.entry.Entry.{Entry}
use Rattle.tpcc_population.specs.declared.opening.Opening.{Opening}
use Rattle.tpcc_book.specs.Past.{Past}
use Rattle.tpcc_turns.specs.Seats.{SeatedView, purses_of}
use Rattle.tpcc_book.specs.Serve.{rooms_of}
use Rattle.tpcc_book.specs.Purses.{PoolView, all_shares}
use Rattle.tpcc_turns.specs.Closing.{IsLeft, IsGathered}
use Rattle.tpcc_turns.specs.Internal.Closing.{TellsBook, IsAudited}
use Rattle.tpcc_book.specs.Internal.Pooling.{AreAll}
use Rattle.tpcc_turns.specs.Internal.Gathering.{HasSeen, AllBegin, HasJoined}
use Rattle.tpcc_turns.specs.Knows.{Knows, Idle}
use Rattle.tpcc_turns.specs.Internal.TurnRule.{out_of, Stands, AtHome, Away, FollowsTurnRule}
use Rattle.tpcc_turns.proofs.Seats.{total_le}
use Rattle.tpcc_turns.proofs.Shares.{none_out}

abbrev Last : Opening → ℕ → Knows → List ℕ → List (Option Past) → Type 0
Last start id v words slots = Final (Seen (FollowsTurnRule start) id v) words slots

-- where every ticket was served the book is at home
home_of : (start : Opening) (s : State (Option Past) Knows) (h : FollowsTurnRule start s) → h.served ≡ h.drawn → AtHome start h.log s.homes s.views
home_of start s h done =
    ⊎_elim
    (λ (x : AtHome start h.log s.homes s.views). x)
    (λ (x : Away h.served s.homes s.views).
    let f = subst (Stands h.log h.served h.drawn) x.holds (h.each x.seat x.holder x.at).stands in absurd (omega (arith, f.1, done)))
    h.book

-- the words that are found are those of the rule
drawn_found : (start : Opening) (s : State (Option Past) Knows) (h : FollowsTurnRule start s) (words : List ℕ) (n : ℕ) → s.words ≡ words → get_elem? words 0 ≡ some n → n ≡ h.drawn % 2 ^ 64
drawn_found start s h words n same found =
    some-injective n (h.drawn % 2 ^ 64) (sym found ∙ ap (λ (ws : List ℕ). get_elem? ws 0) (sym same ∙ h.words))

served_found : (start : Opening) (s : State (Option Past) Knows) (h : FollowsTurnRule start s) (words : List ℕ) (n : ℕ) → s.words ≡ words → get_elem? words 1 ≡ some n → n ≡ h.served % 2 ^ 64
served_found start s h words n same found =
    some-injective n (h.served % 2 ^ 64) (sym found ∙ ap (λ (ws : List ℕ). get_elem? ws 1) (sym same ∙ h.words))

-- words that agree are numbers that agree
all_served : (start : Opening) (s : State (Option Past) Knows) (h : FollowsTurnRule start s) → h.served % 2 ^ 64 ≡ h.drawn % 2 ^ 64 → h.served ≡ h.drawn
all_served start s h e =
    let few = total_le (λ (v : Knows). out_of v.stage) (λ (v : Knows). v.parts) s.views (λ j v at. (h.each j v at).backed) in
    one_turn h.served h.drawn (2 ^ 64) (omega (arith, h.outs)) (omega (arith, few, h.outs, h.parts)) e

slot_found : (slots : List (Option Past)) (slot : Option Past) (book : Past) → get_elem? slots 0 ≡ some slot → get_elem? slots 0 ≡ some (Some book) → slot ≡ Some book
slot_found slots slot book found is = some-injective slot (Some book) (sym found ∙ is)

some_of : (a b : Past) → Some a ≡ Some b → a ≡ b
some_of a b e = cc

told_there : (drawn served : ℕ) (slot told : Option Past) → told ≡ (if drawn == served then slot else None) → drawn ≡ served → told ≡ slot
told_there drawn served slot told is same = grind (arith, nat_tests)

told_same : (drawn served : ℕ) (slot told : Option Past) (book : Past) → told ≡ (if drawn == served then slot else None) → told ≡ Some book → drawn ≡ served
told_same drawn served slot told book is there = grind (arith, nat_tests)

-- the book that is found, with the journal of the rule
record Found (start : Opening) (log : List Entry) (slot : Option Past) : Type 0 where
  book : Past
  is : slot ≡ Some book
  opening : book.opening ≡ start
  entries : book.entries ≡ log

book_is_found : (start : Opening) (words : List ℕ) (slots : List (Option Past)) (told : Option Past) (last : Final (FollowsTurnRule start) words slots) (t : TellsBook words slots told) → t.drawn ≡ t.served → Found start last.1.log t.slot
book_is_found start words slots told last t same =
    let s = last.0 in
    let h : FollowsTurnRule start s = last.1 in
    let agree : h.served % 2 ^ 64 ≡ h.drawn % 2 ^ 64 = sym (served_found start s h words t.served last.2 t.served_is) ∙ (sym same ∙ drawn_found start s h words t.drawn last.2 t.drawn_is) in
    let home = home_of start s h (all_served start s h agree) in
    let there = last.4 0 (Some home.book) (ap (λ (hs : List (Home (Option Past))). get_elem? hs 0) home.there) in
    record { book = home.book; is = slot_found slots t.slot home.book t.slot_is there; opening = home.opening; entries = home.entries }

-- what is told is the book, whose journal begins with every front that the rule tells of
pub tells_book : (start : Opening) (words : List ℕ) (slots : List (Option Past)) (told : Option Past) (purses : List SeatedView) (last : Final (FollowsTurnRule start) words slots) → TellsBook words slots told → AllBegin purses last.1.log → IfSome told (IsLeft start purses)
tells_book start words slots told purses last t begin = go told refl
  where
    go : (o : Option Past) → told ≡ o → IfSome o (IsLeft start purses)
    go None e = tt
    go (Some book) e =
        let same = told_same t.drawn t.served t.slot told book t.told_is e in
        let f = book_is_found start words slots told last t same in
        let b : f.book ≡ book = some_of f.book book (sym f.is ∙ (sym (told_there t.drawn t.served t.slot told t.told_is same) ∙ e)) in
        record {
          opening = ap (λ (p : Past). p.opening) (sym b) ∙ f.opening;
          begins = subst (λ (p : Past). AllBegin purses p.entries) b (subst (AllBegin purses) (sym f.entries) begin);
        }

-- what a seat has seen begins the journal
seen_of : (start : Opening) (s : State (Option Past) Knows) (h : FollowsTurnRule start s) (id : ℕ) (v : Knows) → get_elem? s.views id ≡ some v → HasSeen v h.log
seen_of start s h id v at = let mine = h.each id v at in record { front = mine.front; told = λ x k at. (mine.told x k at).1 }

none_left : (log : List Entry) → AllBegin [] log
none_left log k d lt = absurd (omega (arith, lt))

-- no purse, no front
pub closes_alone : (start : Opening) (words : List ℕ) (slots : List (Option Past)) (told : Option Past) (purses : List SeatedView) → Final (FollowsTurnRule start) words slots → TellsBook words slots told → purses ≡ [] → IfSome told (IsLeft start purses)
closes_alone start words slots told purses last t none =
    tells_book start words slots told purses last t (subst (λ (ps : List SeatedView). AllBegin ps last.1.log) (sym none) (none_left last.1.log))

-- the fronts of all purses that were joined into one seat
pub closes_joined : (start : Opening) (id : ℕ) (v : Knows) (words : List ℕ) (slots : List (Option Past)) (told : Option Past) (purses : List SeatedView) (pool : PoolView) → Last start id v words slots → TellsBook words slots told → HasJoined purses [] pool v → IfSome told (IsLeft start purses)
closes_joined start id v words slots told purses pool last t joined =
    let ended : Final (FollowsTurnRule start) words slots = (last.0, last.1.0, last.2, last.3, last.4) in
    tells_book start words slots told purses ended t (joined.fronts last.1.0.log (seen_of start last.0 last.1.0 id v last.1.1) (none_left last.1.0.log))

no_book : (book : Past) → None ≡ Some book → ⊥
no_book book e = cc e

-- with every part in one idle seat there is a book
pub is_there : (start : Opening) (id : ℕ) (v : Knows) (words : List ℕ) (slots : List (Option Past)) (told : Option Past) → Last start id v words slots → TellsBook words slots told → v.stage ≡ Idle → v.parts ≡ all_shares → told ≡ None → ⊥
is_there start id v words slots told last t idle all none =
    let s = last.0 in
    let h : FollowsTurnRule start s = last.1.0 in
    let ended : Final (FollowsTurnRule start) words slots = (last.0, last.1.0, last.2, last.3, last.4) in
    let done = none_out start s id v h last.1.1 idle all in
    let served : t.drawn ≡ t.served = drawn_found start s h words t.drawn last.2 t.drawn_is ∙ (ap (λ (n : ℕ). n % 2 ^ 64) done ∙ sym (served_found start s h words t.served last.2 t.served_is)) in
    let f = book_is_found start words slots told ended t served in
    no_book f.book (sym none ∙ (told_there t.drawn t.served t.slot told t.told_is served ∙ f.is))

-- what is gathered, refused or left, by what was found and what is pooled
module _ (start : Opening) (purses : List SeatedView) (pool : PoolView) (told : Option Past) (shares : AreAll (purses_of purses) pool []) (left : IfSome told (IsLeft start purses)) where
  abbrev Ended : Type 0
  Ended = Result (Past × ℕ × ℤ) (Option Past)

  all_rooms : rooms_of (purses_of purses) ≡ pool.parts
  all_rooms = omega (arith, shares.rooms)

  is_left : (o : Option Past) (book : Past) → IfSome o (IsLeft start purses) → o ≡ Some book → IsLeft start purses book
  is_left None book l e = absurd (no_book book e)
  is_left (Some x) book l e = subst (IsLeft start purses) (some_of x book e) l

  pub gathers : (r : Ended) → IfOk r (λ x. (pool.parts ≡ all_shares) × (told ≡ Some x.0)) → IfOk r (λ x. IsAudited pool x.0 x.1 x.2) → IfOk r (λ x. IsGathered start purses x.0 x.1 x.2)
  gathers (Ok x) all audited =
      record {
        left = is_left told x.0 left all.1;
        kept = audited.kept;
        entries_are = omega (arith, audited.entries_are, shares.entries);
        entries_counted = audited.entries_counted;
        paid_is = omega (arith, ints, audited.paid_is, shares.paid);
        paid_rose = audited.paid_rose;
      }
  gathers (Err e) all audited = tt

  pub leaves : (r : Ended) → IfErr r (λ e. e ≡ told) → IfErr r (λ e. IfSome e (IsLeft start purses))
  leaves (Ok x) missing = tt
  leaves (Err e) missing = subst (λ (o : Option Past). IfSome o (IsLeft start purses)) (sym missing) left

  not_ok : (e : Option Past) → IsOk {T = Past × ℕ × ℤ} (Err e) → ⊥
  not_ok e ok = cc ok

  pub all_where_ok : (r : Ended) → IfOk r (λ x. (pool.parts ≡ all_shares) × (told ≡ Some x.0)) → IsOk r → rooms_of (purses_of purses) ≡ all_shares
  all_where_ok (Ok x) all ok = all_rooms ∙ all.0
  all_where_ok (Err e) all ok = absurd (not_ok e ok)

  pub ok_where_all : (r : Ended) → IfErr r (λ e. pool.parts ≡ all_shares → told ≡ None) → (pool.parts ≡ all_shares → told ≡ None → ⊥) → rooms_of (purses_of purses) ≡ all_shares → IsOk r
  ok_where_all (Ok x) few there all = refl
  ok_where_all (Err e) few there all = let parts = sym all_rooms ∙ all in absurd (there parts (few parts))
