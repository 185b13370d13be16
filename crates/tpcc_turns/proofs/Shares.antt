-- Splitting and joining seats keeps the rule.
use Rattle.std.proofs.Common.{◌≡◌, ◌≢◌, ◌⊎◌, ◌==◌, Bool, true, false, ℕ, zero, suc, ◌+◌, ◌<◌, ◌≤◌, List, [], ◌∷◌, ◌++◌, set, refl, sym, ap, ◌∙◌, subst, ⊎_elim, inl, inr, arith}
use Rattle.std.specs.Prelude.{Option}
use Rattle.std.proofs.lemmas.Bool.Decides.{nat_tests}
use mathlib.Core.Option.{some, some-ne-none, some-injective, Option as Home}
use lib.ListN.{get_elem?}
use Rattle.atomic_table.specs.Table.{State, Splits, Joins}
use Rattle.atomic_table.proofs.Lists.{at_snoc, at_longer, set_else}
use Rattle.tpcc_rows.specs.declared.transactions.entry.Entry.{Entry}
use Rattle.tpcc_book.specs.Past.{Past}
use Rattle.tpcc_book.specs.Purses.{all_shares}
use Rattle.tpcc_turns.specs.Knows.{Knows, Stage, Heard, Idle, Out, Holds}
use Rattle.tpcc_turns.specs.Knows.{knows}
use Rattle.tpcc_turns.specs.Internal.TurnRule.{out_of, sum_over, HasTicket, IsHeard, IsSeated, AtHome, Away, FollowsTurnRule, no_opening}
use Rattle.tpcc_turns.specs.Internal.Shares.{kept_of, given_of, heard_of, both_of, nobody, last_parts, freed_of, back_of}
use Rattle.tpcc_turns.proofs.Seats.{total_set, total_le, each_set, apart_set, set_same}
use Rattle.tpcc_population.specs.declared.opening.Opening.{Opening}

-- the part of the rule that is about the seats one by one
record AreSeated (start : Opening) (log : List Entry) (served drawn : ℕ) (homes : List (Home (Option Past))) (views : List Knows) : Type 0 where
  each : (j : ℕ) (v : Knows) → get_elem? views j ≡ some v → IsSeated start log served drawn v
  apart : (i j : ℕ) (v w : Knows) (n : ℕ) → get_elem? views i ≡ some v → get_elem? views j ≡ some w → HasTicket v.stage n → HasTicket w.stage n → i ≡ j
  book : AtHome start log homes views ⊎ Away served homes views

-- a seat that has the book has it with another view of the same stage
away_by : (served : ℕ) (homes : List (Home (Option Past))) (views : List Knows) (id : ℕ) (v w : Knows) (b : Bool) (h : Away served homes views)
    → (h.seat == id) ≡ b → get_elem? views id ≡ some v → w.stage ≡ v.stage → Away served homes (set views id w)
away_by served homes views id v w true h is at same =
    let here : h.seat ≡ id = grind (arith, nat_tests) in
    let one : v ≡ h.holder = some-injective v h.holder (sym at ∙ (ap (λ (k : ℕ). get_elem? views k) (sym here) ∙ h.at)) in
    record { gone = h.gone; seat = id; holder = w; base = h.base; at = set_same views id v w at; holds = same ∙ (ap (λ (k : Knows). k.stage) one ∙ h.holds) }
away_by served homes views id v w false h is at same =
    let other : h.seat ≢ id = λ here. absurd (grind (arith, nat_tests)) in
    record { gone = h.gone; seat = h.seat; holder = h.holder; base = h.base; at = set_else views id h.seat w other ∙ h.at; holds = h.holds }

-- a seat has another view of the same stage
seated_set : (start : Opening) (log : List Entry) (served drawn : ℕ) (homes : List (Home (Option Past))) (views : List Knows) (id : ℕ) (v w : Knows)
    → AreSeated start log served drawn homes views → get_elem? views id ≡ some v → w.stage ≡ v.stage → IsSeated start log served drawn w → AreSeated start log served drawn homes (set views id w)
seated_set start log served drawn homes views id v w h at same fits =
    record {
      each = each_set (λ (j : ℕ) (u : Knows). IsSeated start log served drawn u) views id w (λ j u apart e. h.each j u e) fits;
      apart = apart_set views id w h.apart (λ j u n apart e t other. apart (sym (h.apart id j v u n at e (subst (λ (k : Stage). HasTicket k n) same t) other)));
      book = ⊎_elim
          (λ (b : AtHome start log homes views). inl (record {
            book = b.book;
            there = b.there;
            entries = b.entries;
            opening = b.opening;
            nobody = λ j u t base e holds. each_set (λ (k : ℕ) (x : Knows). (t : ℕ) (base : List Entry) → x.stage ≡ Holds t base → ⊥) views id w (λ k x apart there t base. b.nobody k x t base there) (λ t base is. b.nobody id v t base at (sym same ∙ is)) j u e t base holds;
          }))
          (λ (b : Away served homes views). inr (away_by served homes views id v w (b.seat == id) b refl at same))
          h.book;
    }

-- a seat more, which is idle
seated_more : (start : Opening) (log : List Entry) (served drawn : ℕ) (homes : List (Home (Option Past))) (views : List Knows) (w : Knows)
    → AreSeated start log served drawn homes views → w.stage ≡ Idle → IsSeated start log served drawn w → AreSeated start log served drawn homes (views ++ w ∷ [])
seated_more start log served drawn homes views w h idle fits =
    record {
      each = λ j u e. ⊎_elim (λ was. h.each j u was) (λ (same : w ≡ u). subst (IsSeated start log served drawn) same fits) (at_snoc views w u j e);
      apart = λ i j v u n ei ej hi hj. ⊎_elim
          (λ (a : get_elem? views i ≡ some v). ⊎_elim
          (λ (b : get_elem? views j ≡ some u). h.apart i j v u n a b hi hj)
          (λ (same : w ≡ u). absurd (subst (λ (k : Stage). HasTicket k n) (ap (λ (k : Knows). k.stage) (sym same) ∙ idle) hj))
          (at_snoc views w u j ej))
          (λ (same : w ≡ v). absurd (subst (λ (k : Stage). HasTicket k n) (ap (λ (k : Knows). k.stage) (sym same) ∙ idle) hi))
          (at_snoc views w v i ei);
      book = ⊎_elim
          (λ (b : AtHome start log homes views). inl (record {
            book = b.book;
            there = b.there;
            entries = b.entries;
            opening = b.opening;
            nobody = λ j u t base e holds. ⊎_elim
                (λ was. b.nobody j u t base was holds)
                (λ (same : w ≡ u). let clash : Idle ≡ Holds t base = sym idle ∙ (ap (λ (k : Knows). k.stage) same ∙ holds) in cc clash)
                (at_snoc views w u j e);
          }))
          (λ (b : Away served homes views). inr (record { gone = b.gone; seat = b.seat; holder = b.holder; base = b.base; at = at_longer views (w ∷ []) b.seat b.holder b.at; holds = b.holds }))
          h.book;
    }

total_more : (f : Knows → ℕ) (views : List Knows) (w : Knows) → sum_over f (views ++ w ∷ []) ≡ sum_over f views + f w
total_more f [] w = omega arith
total_more f (x ∷ xs) w = omega (arith, total_more f xs w)

seats_of : (start : Opening) (s : State (Option Past) Knows) (h : FollowsTurnRule start s) → AreSeated start h.log h.served h.drawn s.homes s.views
seats_of start s h = record { each = h.each; apart = h.apart; book = h.book }

out_most : (s : Stage) → out_of s ≤ 1
out_most Idle = omega arith
out_most (Out t) = omega arith
out_most (Holds t base) = omega arith

pub splits : (start : Opening) (id : ℕ) (v : Knows) → v.stage ≡ Idle → 1 < v.parts → Splits (FollowsTurnRule start) id v (kept_of v) (given_of v)
splits start id v idle has s h at =
    let mine = h.each id v at in
    let kept = kept_of v in
    let given = given_of v in
    let fits : IsSeated start h.log h.served h.drawn kept = record { start_is = λ part. mine.start_is (omega arith); front = mine.front; told = mine.told; backed = rw idle (omega arith); stands = mine.stands } in
    let fits' : IsSeated start h.log h.served h.drawn given = record { start_is = λ part. mine.start_is (omega arith); front = mine.front; told = λ x k there. absurd (some-ne-none x (sym there)); backed = omega arith; stands = tt } in
    let here = seated_set start h.log h.served h.drawn s.homes s.views id v kept (seats_of start s h) at refl fits in
    let both = seated_more start h.log h.served h.drawn s.homes (set s.views id kept) given here refl fits' in
    record {
      log = h.log;
      served = h.served;
      drawn = h.drawn;
      words = h.words;
      outs = omega (arith, total_more (λ (u : Knows). out_of u.stage) (set s.views id kept) given, total_set (λ (u : Knows). out_of u.stage) s.views id v kept at, h.outs);
      parts = omega (arith, total_more (λ (u : Knows). u.parts) (set s.views id kept) given, total_set (λ (u : Knows). u.parts) s.views id v kept at, h.parts);
      each = both.each;
      apart = both.apart;
      book = both.book;
    }

told_of : (start : Opening) (log : List Entry) (v w : Knows) → ((x : Heard) (k : ℕ) → get_elem? v.told k ≡ some x → IsHeard start log x) → ((x : Heard) (k : ℕ) → get_elem? w.told k ≡ some x → IsHeard start log x)
    → IsHeard start log (heard_of w) → (x : Heard) (k : ℕ) → get_elem? (heard_of w ∷ (w.told ++ v.told)) k ≡ some x → IsHeard start log x
told_of start log v w hv hw this x zero e = subst (IsHeard start log) (some-injective (heard_of w) x e) this
told_of start log v w hv hw this x (suc k) e = in_both w.told k hw e
  where
    in_both : (l : List Heard) (k : ℕ) → ((x : Heard) (k : ℕ) → get_elem? l k ≡ some x → IsHeard start log x) → get_elem? (l ++ v.told) k ≡ some x → IsHeard start log x
    in_both [] k h e = hv x k e
    in_both (y ∷ ys) zero h e = h x zero e
    in_both (y ∷ ys) (suc k) h e = in_both ys k (λ z j. h z (suc j)) e

-- an idle seat is joined into another
pub joins : (start : Opening) (id : ℕ) (v : Knows) (other : ℕ) (w : Knows) → w.stage ≡ Idle → 0 < v.parts → 0 < w.parts → Joins (FollowsTurnRule start) id v other w (both_of v w) nobody
joins start id v other w idle has has' s h at apart there =
    let mine = h.each id v at in
    let both = both_of v w in
    let was : get_elem? s.views other ≡ some w = sym (set_else s.views id other both apart) ∙ there in
    let theirs = h.each other w was in
    let fits : IsSeated start h.log h.served h.drawn both = record { start_is = λ part. mine.start_is has; front = mine.front; told = told_of start h.log v w mine.told theirs.told (theirs.start_is has', theirs.front); backed = omega (arith, mine.backed); stands = mine.stands } in
    let fits' : IsSeated start h.log h.served h.drawn nobody = record { start_is = λ none. absurd (omega arith); front = (h.log, refl); told = λ x k e. absurd (some-ne-none x (sym e)); backed = omega arith; stands = tt } in
    let here = seated_set start h.log h.served h.drawn s.homes s.views id v both (seats_of start s h) at refl fits in
    let last = seated_set start h.log h.served h.drawn s.homes (set s.views id both) other w nobody here there (sym idle) fits' in
    let none_out : out_of w.stage ≡ 0 = ap out_of idle in
    record {
      log = h.log;
      served = h.served;
      drawn = h.drawn;
      words = h.words;
      outs = omega (arith, total_set (λ (u : Knows). out_of u.stage) (set s.views id both) other w nobody there, total_set (λ (u : Knows). out_of u.stage) s.views id v both at, none_out, h.outs);
      parts = omega (arith, total_set (λ (u : Knows). u.parts) (set s.views id both) other w nobody there, total_set (λ (u : Knows). u.parts) s.views id v both at, h.parts);
      each = last.each;
      apart = last.apart;
      book = last.book;
    }

-- who was joined last is split off again
pub frees : (start : Opening) (id : ℕ) (v : Knows) → 0 < last_parts v.told → last_parts v.told < v.parts → Splits (FollowsTurnRule start) id v (freed_of v) (back_of v)
frees start id v has few s h at =
    let mine = h.each id v at in
    let kept = freed_of v in
    let given = back_of v in
    let one : out_of v.stage ≤ 1 = out_most v.stage in
    let fits : IsSeated start h.log h.served h.drawn kept = record { start_is = λ part. mine.start_is (omega arith); front = mine.front; told = λ x k there. absurd (some-ne-none x (sym there)); backed = omega (arith, one, few); stands = mine.stands } in
    let fits' : IsSeated start h.log h.served h.drawn given = record { start_is = λ part. mine.start_is (omega (arith, few)); front = mine.front; told = λ x k there. absurd (some-ne-none x (sym there)); backed = omega arith; stands = tt } in
    let here = seated_set start h.log h.served h.drawn s.homes s.views id v kept (seats_of start s h) at refl fits in
    let both = seated_more start h.log h.served h.drawn s.homes (set s.views id kept) given here refl fits' in
    record {
      log = h.log;
      served = h.served;
      drawn = h.drawn;
      words = h.words;
      outs = omega (arith, total_more (λ (u : Knows). out_of u.stage) (set s.views id kept) given, total_set (λ (u : Knows). out_of u.stage) s.views id v kept at, h.outs);
      parts = omega (arith, few, total_more (λ (u : Knows). u.parts) (set s.views id kept) given, total_set (λ (u : Knows). u.parts) s.views id v kept at, h.parts);
      each = both.each;
      apart = both.apart;
      book = both.book;
    }

-- once every part is in one idle seat no ticket is out
pub none_out : (start : Opening) (s : State (Option Past) Knows) (id : ℕ) (v : Knows) (h : FollowsTurnRule start s) → get_elem? s.views id ≡ some v → v.stage ≡ Idle → v.parts ≡ all_shares → h.drawn ≡ h.served
none_out start s id v h at idle all =
    let none = knows no_opening [] 0 Idle [] in
    let out = λ (u : Knows). out_of u.stage in
    let parts = λ (u : Knows). u.parts in
    let idle_out : out_of v.stage ≡ 0 = ap out_of idle in
    let backed = each_set (λ (j : ℕ) (u : Knows). out_of u.stage ≤ u.parts) s.views id none (λ j u apart e. (h.each j u e).backed) (omega arith) in
    let few = total_le out parts (set s.views id none) backed in
    let a = total_set parts s.views id v none at in
    let b = total_set out s.views id v none at in
    omega (arith, few, a, b, idle_out, h.outs, h.parts, all)

pub alone : (x y : Knows) → x ∷ [] ≡ y ∷ [] → x ≡ y
alone x y e = cc
