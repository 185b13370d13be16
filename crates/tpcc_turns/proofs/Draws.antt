-- Drawing a ticket keeps the rule.
use Rattle.std.proofs.Common.{◌≡◌, ◌≢◌, ◌⊎◌, ℕ, ◌+◌, ◌%◌, ◌^◌, ◌<◌, List, [], ◌∷◌, set, refl, sym, ap, ◌∙◌, inl, inr, arith}
use Rattle.std.specs.Prelude.{Option, slice_index, slice_set}
use Rattle.std.proofs.Math.Nat.{mod-add-mod}
use mathlib.Core.Option.{some, some-injective}
use lib.ListN.{get_elem?}
use Rattle.atomic_table.specs.Table.{State, Step, keeps, Allows}
use Rattle.atomic_table.proofs.Lists.{set_else}
use Rattle.tpcc_rows.specs.declared.transactions.entry.Entry.{Entry}
use Rattle.tpcc_book.specs.Past.{Past}
use Rattle.tpcc_turns.specs.Knows.{Knows, Idle, Out, Holds}
use Rattle.tpcc_turns.specs.Knows.{knows}
use Rattle.tpcc_turns.specs.Internal.TurnRule.{out_of, IsSeated, AtHome, Away, FollowsTurnRule, DrawStep}
use Rattle.tpcc_turns.proofs.Seats.{total_set, each_set, apart_set, ticket_below, seated_more_drawn}
use Rattle.tpcc_population.specs.declared.opening.Opening.{Opening}

-- the book stays where it is while an idle seat draws
pub book_stays : (start : Opening) (log : List Entry) (served : ℕ) (s : State (Option Past) Knows) (id : ℕ) (v w : Knows)
    → get_elem? s.views id ≡ some v → v.stage ≡ Idle → ((t : ℕ) (base : List Entry) → w.stage ≡ Holds t base → ⊥)
    → AtHome start log s.homes s.views ⊎ Away served s.homes s.views
    → AtHome start log s.homes (set s.views id w) ⊎ Away served s.homes (set s.views id w)
book_stays start log served s id v w at idle free (inl h) =
    inl (record {
      book = h.book;
      there = h.there;
      entries = h.entries;
      opening = h.opening;
      nobody = λ j u t base e holds. each_set (λ (k : ℕ) (x : Knows). x.stage ≡ Holds t base → ⊥) s.views id w (λ k x apart there. h.nobody k x t base there) (free t base) j u e holds;
    })
book_stays start log served s id v w at idle free (inr h) =
    let other : h.seat ≢ id = λ same.
    let one : v ≡ h.holder = some-injective v h.holder (sym at ∙ (ap (λ (k : ℕ). get_elem? s.views k) (sym same) ∙ h.at)) in
    let clash : Idle ≡ Holds served h.base = sym idle ∙ (ap (λ (k : Knows). k.stage) one ∙ h.holds) in
    cc clash in
    inr (record { gone = h.gone; seat = h.seat; holder = h.holder; base = h.base; at = set_else s.views id h.seat w other ∙ h.at; holds = h.holds })

pub draws : (start : Opening) (slots id : ℕ) (v : Knows) (c : List (ℕ × Option Past)) (s0 : Step (Option Past)) → v.stage ≡ Idle → 0 < v.parts
    → Allows (FollowsTurnRule start) slots id (v, c) 0 (λ n. (n + 1) % 2 ^ 64) (DrawStep s0 (v, c))
draws start slots id v c s0 idle has s h homes at small =
    let w = knows v.start v.front v.parts (Out h.drawn) v.told in
    let mine = h.each id v at in
    let outs = total_set (λ (u : Knows). out_of u.stage) s.views id v w at in
    let none_out : out_of v.stage ≡ 0 = ap out_of idle in
    let parts = total_set (λ (u : Knows). u.parts) s.views id v w at in
    let drawn : slice_index s.words 0 ≡ h.drawn % 2 ^ 64 = ap (λ (ws : List ℕ). slice_index ws 0) h.words in (
      w,
      keeps,
      tt,
      record {
        log = h.log;
        served = h.served;
        drawn = h.drawn + 1;
        words = ap (λ (ws : List ℕ). slice_set ws 0 ((slice_index ws 0 + 1) % 2 ^ 64)) h.words ∙ ap (λ (n : ℕ). n ∷ (h.served % 2 ^ 64) ∷ []) (mod-add-mod h.drawn (2 ^ 64) 1);
        outs = omega (arith, outs, none_out, h.outs);
        parts = omega (arith, parts, h.parts);
        each = each_set (λ (j : ℕ) (u : Knows). IsSeated start h.log h.served (h.drawn + 1) u) s.views id w (λ j u apart e. seated_more_drawn start h.log h.served h.drawn u (h.each j u e)) (record {
          start_is = mine.start_is;
          front = mine.front;
          told = mine.told;
          backed = omega arith;
          stands = (omega (arith, h.outs), omega arith);
        });
        apart = apart_set s.views id w h.apart (λ j u n apart e t other. let less = ticket_below h.log h.served h.drawn u.stage n (h.each j u e).stands other in omega (arith, less, t));
        book = book_stays start h.log h.served s id v w at idle (λ t base holds. cc holds) h.book;
      },
      record { ticket = h.drawn; found_is = drawn; now_is = refl },
    )
