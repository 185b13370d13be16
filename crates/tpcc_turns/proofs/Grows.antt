-- Telling that the journal has grown keeps the rule.
use Rattle.std.proofs.Common.{◌≡◌, ◌≢◌, ℕ, ◌<◌, List, [], ◌∷◌, refl, sym, ap, ◌∙◌, subst, inr, arith, Some}
use Rattle.std.specs.Prelude.{Option, slice_index, slice_set}
use mathlib.Core.Option.{some}
use mathlib.Core.List.{IsPrefix}
use lib.ListN.{get_elem?}
use Rattle.atomic_table.specs.Table.{State, Step, keeps, Allows}
use Rattle.tpcc_rows.specs.declared.transactions.entry.Entry.{Entry}
use Rattle.tpcc_book.specs.Past.{Past}
use Rattle.tpcc_turns.specs.Knows.{Knows, Stage, Idle, Out, Holds}
use Rattle.tpcc_turns.specs.Knows.{knows}
use Rattle.tpcc_turns.specs.Internal.TurnRule.{out_of, HasTicket, Stands, IsSeated, FollowsTurnRule, GrowStep}
use Rattle.tpcc_turns.proofs.Seats.{total_set, each_set, apart_set, set_same, prefix_self, prefix_trans, heard_on}
use Rattle.tpcc_turns.proofs.Ends.{holder, some_same, is_away}
use Rattle.tpcc_population.specs.declared.opening.Opening.{Opening}

-- who doesn't have the number that is served stands as well beside a longer journal
stands_beside : (log log' : List Entry) (served drawn : ℕ) (s : Stage) → Stands log served drawn s → (HasTicket s served → ⊥) → Stands log' served drawn s
stands_beside log log' served drawn Idle h other = tt
stands_beside log log' served drawn (Out k) h other = h
stands_beside log log' served drawn (Holds k base) h other = absurd (other h.0)

ticket_of : (a b : ℕ) (xs ys : List Entry) → Holds a xs ≡ Holds b ys → a ≡ b
ticket_of a b xs ys e = cc e

pub base_of : (a b : ℕ) (xs ys : List Entry) → Holds a xs ≡ Holds b ys → xs ≡ ys
base_of a b xs ys e = cc e

words_stay : (start : Opening) (s : State (Option Past) Knows) (h : FollowsTurnRule start s) → slice_set s.words 0 (slice_index s.words 0) ≡ s.words
words_stay start s h =
    ap (λ (ws : List ℕ). slice_set ws 0 (slice_index ws 0)) h.words ∙ sym h.words

pub grows : (start : Opening) (slots id : ℕ) (v : Knows) (s0 : Step (Option Past)) (t : ℕ) (base : List Entry) (book : Past) (c : List (ℕ × Option Past)) → v.stage ≡ Holds t base → c ≡ (0, Some book) ∷ []
    → IsPrefix base book.entries → 0 < v.parts
    → Allows (FollowsTurnRule start) slots id (v, c) 0 (λ n. n) (GrowStep s0 (v, c))
grows start slots id v s0 t base book c holds carried longer has s h homes at small =
    let w = knows v.start book.entries v.parts (Holds t book.entries) v.told in
    let mine = h.each id v at in
    let one_out : out_of v.stage ≡ 1 = ap out_of holds in
    let outs = total_set (λ (u : Knows). out_of u.stage) s.views id v w at in
    let parts = total_set (λ (u : Knows). u.parts) s.views id v w at in
    let stands = holder h.log h.served h.drawn v.stage t base holds mine.stands in
    let served : t ≡ h.served = stands.0 in
    let grown : IsPrefix h.log book.entries = subst (λ (xs : List Entry). IsPrefix xs book.entries) stands.2 longer in
    let has_it : HasTicket v.stage h.served = subst (λ (k : Stage). HasTicket k h.served) (sym holds) served in
    let others : (j : ℕ) (u : Knows) → j ≢ id → get_elem? s.views j ≡ some u → HasTicket u.stage h.served → ⊥ = λ j u apart e has. apart (h.apart j id u v h.served e at has has_it) in
    let gone = is_away start s h id v t base at holds in (
      w,
      keeps,
      tt,
      record {
        log = book.entries;
        served = h.served;
        drawn = h.drawn;
        words = words_stay start s h ∙ h.words;
        outs = omega (arith, outs, one_out, h.outs);
        parts = omega (arith, parts, h.parts);
        each = each_set (λ (j : ℕ) (u : Knows). IsSeated start book.entries h.served h.drawn u) s.views id w
            (λ j u apart e. let f = h.each j u e in record {
              start_is = f.start_is;
              front = prefix_trans u.front h.log book.entries f.front grown;
              told = λ x k there. heard_on start h.log book.entries x (f.told x k there) grown;
              backed = f.backed;
              stands = stands_beside h.log book.entries h.served h.drawn u.stage f.stands (others j u apart e);
            })
            (record {
              start_is = mine.start_is;
              front = prefix_self book.entries book.entries refl;
              told = λ x k there. heard_on start h.log book.entries x (mine.told x k there) grown;
              backed = omega (arith, has);
              stands = (served, stands.1, refl);
            });
        apart = apart_set s.views id w h.apart (λ j u n apart e x other. apart (sym (h.apart id j v u n at e (subst (λ (k : Stage). HasTicket k n) (sym holds) x) other)));
        book = inr (record { gone = gone; seat = id; holder = w; base = book.entries; at = set_same s.views id v w at; holds = ap (λ (k : ℕ). Holds k book.entries) served });
      },
      λ ticket base' other stage same.
          let b : book ≡ other = some_same book other (sym carried ∙ same) in
          let k : t ≡ ticket = ticket_of t ticket base base' (sym holds ∙ stage) in
          let begun : h.log ≡ base' = sym stands.2 ∙ base_of t ticket base base' (sym holds ∙ stage) in
          record {
            now_is = λ i. (knows v.start (b i).entries v.parts (Holds (k i) (b i).entries) v.told, c);
            told = λ x n there. let f = mine.told x n there in (f.0 ∙ sym (mine.start_is has), subst (λ (xs : List Entry). IsPrefix x.front xs) begun f.1);
          },
    )
