-- Ending a turn keeps the rule.
use Rattle.std.proofs.Common.{◌≡◌, ◌≢◌, ℕ, ◌+◌, ◌%◌, ◌^◌, ◌<◌, List, [], ◌∷◌, refl, sym, ap, ◌∙◌, subst, inl, inr, arith, Some}
use Rattle.std.specs.Prelude.{Option, slice_set}
use mathlib.Core.Option.{some, none, Option as Home}
use mathlib.Core.List.{IsPrefix}
use lib.ListN.{get_elem?}
use Rattle.atomic_table.specs.Table.{State, Step, gives, rest, Allows}
use Rattle.tpcc_rows.specs.declared.transactions.entry.Entry.{Entry}
use Rattle.tpcc_book.specs.Past.{Past}
use Rattle.tpcc_turns.specs.Knows.{Knows, Stage, Idle, Out, Holds}
use Rattle.tpcc_turns.specs.Knows.{knows}
use Rattle.tpcc_turns.specs.Internal.TurnRule.{out_of, HasTicket, Stands, IsSeated, FollowsTurnRule, EndStep}
use Rattle.tpcc_turns.proofs.Seats.{total_set, each_set, apart_set, prefix_self, prefix_trans, heard_on}
use Rattle.tpcc_population.specs.declared.opening.Opening.{Opening}

-- who doesn't have the number that is served stands as well at the next one
stands_on : (log log' : List Entry) (served drawn : ℕ) (s : Stage) → Stands log served drawn s → (HasTicket s served → ⊥) → Stands log' (served + 1) drawn s
stands_on log log' served drawn Idle h other = tt
stands_on log log' served drawn (Out k) h other = let apart : k ≢ served = other in (omega (arith, h.0, apart), h.1)
stands_on log log' served drawn (Holds k base) h other = absurd (other h.0)

pub holder : (log : List Entry) (served drawn : ℕ) (s : Stage) (t : ℕ) (base : List Entry) → s ≡ Holds t base → Stands log served drawn s → (t ≡ served) × (t < drawn) × (base ≡ log)
holder log served drawn s t base is h = subst (Stands log served drawn) is h

pub some_same : (a b : Past) → ◌≡◌ {A = List (ℕ × Option Past)} ((0, Some a) ∷ []) ((0, Some b) ∷ []) → a ≡ b
some_same a b e =
    let pair : ◌≡◌ {A = ℕ × Option Past} (0, Some a) (0, Some b) = cc e in
    let held : Some a ≡ Some b = ap (λ (p : ℕ × Option Past). p.1) pair in cc held

-- its seat has the book, so no other place has it
pub is_away : (start : Opening) (s : State (Option Past) Knows) (h : FollowsTurnRule start s) (id : ℕ) (v : Knows) (t : ℕ) (base : List Entry) → get_elem? s.views id ≡ some v → v.stage ≡ Holds t base → s.homes ≡ none ∷ []
is_away start s h id v t base at holds =
    elim h.book [ inl b ↦ absurd (b.nobody id v t base at holds) | inr b ↦ b.gone ]

pub ends : (start : Opening) (slots id : ℕ) (v : Knows) (s0 : Step (Option Past)) (t : ℕ) (base : List Entry) (book : Past) (new : ℕ) (c : List (ℕ × Option Past)) → v.stage ≡ Holds t base → c ≡ (0, Some book) ∷ []
    → IsPrefix base book.entries → book.opening ≡ v.start → new ≡ (t + 1) % 2 ^ 64
    → Allows (FollowsTurnRule start) slots id (v, c) 1 (λ _. new) (λ _. EndStep s0 (v, c) new)
ends start slots id v s0 t base book new c holds carried longer opening next s h homes at small =
    let w = knows v.start book.entries v.parts Idle v.told in
    let mine = h.each id v at in
    let one_out : out_of v.stage ≡ 1 = ap out_of holds in
    let outs = total_set (λ (u : Knows). out_of u.stage) s.views id v w at in
    let parts = total_set (λ (u : Knows). u.parts) s.views id v w at in
    let stands = holder h.log h.served h.drawn v.stage t base holds mine.stands in
    let served : t ≡ h.served = stands.0 in
    let grown : IsPrefix h.log book.entries = subst (λ (xs : List Entry). IsPrefix xs book.entries) stands.2 longer in
    let has_it : HasTicket v.stage h.served = subst (λ (k : Stage). HasTicket k h.served) (sym holds) served in
    let others : (j : ℕ) (u : Knows) → j ≢ id → get_elem? s.views j ≡ some u → HasTicket u.stage h.served → ⊥ = λ j u apart e has. apart (h.apart j id u v h.served e at has has_it) in
    let gone = is_away start s h id v t base at holds in (
      w,
      gives,
      tt,
      record {
        log = book.entries;
        served = h.served + 1;
        drawn = h.drawn;
        words = ap (λ (ws : List ℕ). slice_set ws 1 new) h.words ∙ ap (λ (n : ℕ). (h.drawn % 2 ^ 64) ∷ n ∷ []) (next ∙ ap (λ (n : ℕ). (n + 1) % 2 ^ 64) served);
        outs = omega (arith, outs, one_out, h.outs);
        parts = omega (arith, parts, h.parts);
        each = each_set (λ (j : ℕ) (u : Knows). IsSeated start book.entries (h.served + 1) h.drawn u) s.views id w
            (λ j u apart e. let f = h.each j u e in record {
              start_is = f.start_is;
              front = prefix_trans u.front h.log book.entries f.front grown;
              told = λ x k there. heard_on start h.log book.entries x (f.told x k there) grown;
              backed = f.backed;
              stands = stands_on h.log book.entries h.served h.drawn u.stage f.stands (others j u apart e);
            })
            (record {
              start_is = mine.start_is;
              front = prefix_self book.entries book.entries refl;
              told = λ x k there. heard_on start h.log book.entries x (mine.told x k there) grown;
              backed = omega arith;
              stands = tt;
            });
        apart = apart_set s.views id w h.apart (λ j u n apart e t other. absurd t);
        book = inl (record {
          book = book;
          there = rw carried (ap (λ (hs : List (Home (Option Past))). slice_set hs 0 (some (Some book))) gone);
          entries = refl;
          opening = opening ∙ mine.start_is (omega (arith, one_out, mine.backed));
          nobody = λ j u k b e has. each_set (λ (j : ℕ) (u : Knows). (k : ℕ) (b : List Entry) → u.stage ≡ Holds k b → ⊥) s.views id w
              (λ j u apart e k b has. others j u apart e (subst (λ (x : Stage). HasTicket x h.served) (sym has) (holder h.log h.served h.drawn u.stage k b has (h.each j u e).stands).0))
              (λ k b has. cc has) j u e k b has;
        });
      },
      λ other same.
          let e : book ≡ other = some_same book other (sym carried ∙ same) in
          λ i. (knows v.start (e i).entries v.parts Idle v.told, ap rest carried i),
    )
