-- One seat of many changes its view.
use Rattle.std.proofs.Common.{◌≡◌, ◌≢◌, ℕ, zero, suc, ◌+◌, ◌<◌, ◌≤◌, List, [], ◌∷◌, ◌++◌, set, refl, sym, ap, ◌∙◌, subst, ⊎_elim, arith}
use Rattle.std.proofs.lemmas.List.{append-nil}
use Rattle.std.proofs.Common.{append_assoc}
use mathlib.Core.Option.{some, some-ne-none, some-injective}
use mathlib.Core.List.{IsPrefix}
use lib.ListN.{get_elem?}
use Rattle.atomic_table.proofs.Lists.{at_set}
use Rattle.tpcc_rows.specs.declared.transactions.entry.Entry.{Entry}
use Rattle.tpcc_turns.specs.Knows.{Knows, Heard, Stage, Idle, Out, Holds}
use Rattle.tpcc_turns.specs.Internal.TurnRule.{sum_over, HasTicket, Stands, IsHeard, IsSeated}
use Rattle.tpcc_population.specs.declared.opening.Opening.{Opening}

-- the sum after a change of one seat
pub total_set : (f : Knows → ℕ) (views : List Knows) (j : ℕ) (v w : Knows) → get_elem? views j ≡ some v → sum_over f (set views j w) + f v ≡ sum_over f views + f w
total_set f [] j v w e = absurd (some-ne-none v (sym e))
total_set f (x ∷ xs) zero v w e =
    let same : x ≡ v = some-injective x v e in omega (arith, ap f same)
total_set f (x ∷ xs) (suc j) v w e = omega (arith, total_set f xs j v w e)

-- a fact of each seat, after a change of one
pub each_set : (P : ℕ → Knows → Type 0) (views : List Knows) (by : ℕ) (w : Knows) → ((j : ℕ) (u : Knows) → j ≢ by → get_elem? views j ≡ some u → P j u) → P by w → (j : ℕ) (u : Knows) → get_elem? (set views by w) j ≡ some u → P j u
each_set P views by w others mine j u e =
    ⊎_elim
    (λ (x : (j ≡ by) × (w ≡ u)). subst (λ (y : ℕ × Knows). P y.0 y.1) (λ i. (sym x.0 i, x.1 i)) mine)
    (λ (x : (j ≢ by) × (get_elem? views j ≡ some u)). others j u x.0 x.1)
    (at_set views by j w u e)

-- two seats with one ticket are one, after a change of one seat
pub apart_set : (views : List Knows) (by : ℕ) (w : Knows)
    → ((i j : ℕ) (v u : Knows) (n : ℕ) → get_elem? views i ≡ some v → get_elem? views j ≡ some u → HasTicket v.stage n → HasTicket u.stage n → i ≡ j)
    → ((j : ℕ) (u : Knows) (n : ℕ) → j ≢ by → get_elem? views j ≡ some u → HasTicket w.stage n → HasTicket u.stage n → ⊥)
    → (i j : ℕ) (v u : Knows) (n : ℕ) → get_elem? (set views by w) i ≡ some v → get_elem? (set views by w) j ≡ some u → HasTicket v.stage n → HasTicket u.stage n → i ≡ j
apart_set views by w old mine i j v u n ei ej hi hj =
    ⊎_elim
    (λ (x : (i ≡ by) × (w ≡ v)). ⊎_elim
    (λ (y : (j ≡ by) × (w ≡ u)). x.0 ∙ sym y.0)
    (λ (y : (j ≢ by) × (get_elem? views j ≡ some u)). absurd (mine j u n y.0 y.1 (subst (λ (k : Knows). HasTicket k.stage n) (sym x.1) hi) hj))
    (at_set views by j w u ej))
    (λ (x : (i ≢ by) × (get_elem? views i ≡ some v)). ⊎_elim
    (λ (y : (j ≡ by) × (w ≡ u)). absurd (mine i v n x.0 x.1 (subst (λ (k : Knows). HasTicket k.stage n) (sym y.1) hj) hi))
    (λ (y : (j ≢ by) × (get_elem? views j ≡ some u)). old i j v u n x.1 y.1 hi hj)
    (at_set views by j w u ej))
    (at_set views by i w v ei)

-- a ticket is one that was drawn
pub ticket_below : (log : List Entry) (served drawn : ℕ) (s : Stage) (n : ℕ) → Stands log served drawn s → HasTicket s n → n < drawn
ticket_below log served drawn Idle n h t = absurd t
ticket_below log served drawn (Out k) n h t = omega (arith, h.1, t)
ticket_below log served drawn (Holds k base) n h t = omega (arith, h.1, t)

pub stands_more : (log : List Entry) (served drawn : ℕ) (s : Stage) → Stands log served drawn s → Stands log served (drawn + 1) s
stands_more log served drawn Idle h = tt
stands_more log served drawn (Out k) h = (h.0, omega (arith, h.1))
stands_more log served drawn (Holds k base) h = (h.0, omega (arith, h.1), h.2)

pub seated_more_drawn : (start : Opening) (log : List Entry) (served drawn : ℕ) (v : Knows) → IsSeated start log served drawn v → IsSeated start log served (drawn + 1) v
seated_more_drawn start log served drawn v h =
    record { start_is = h.start_is; front = h.front; told = h.told; backed = h.backed; stands = stands_more log served drawn v.stage h.stands }

pub set_same : (views : List Knows) (j : ℕ) (v w : Knows) → get_elem? views j ≡ some v → get_elem? (set views j w) j ≡ some w
set_same [] j v w e = absurd (some-ne-none v (sym e))
set_same (x ∷ xs) zero v w e = refl
set_same (x ∷ xs) (suc j) v w e = set_same xs j v w e

-- no more tickets are out than there are parts
pub total_le : (f g : Knows → ℕ) (views : List Knows) → ((j : ℕ) (v : Knows) → get_elem? views j ≡ some v → f v ≤ g v) → sum_over f views ≤ sum_over g views
total_le f g [] h = omega arith
total_le f g (x ∷ xs) h = omega (arith, h 0 x refl, total_le f g xs (λ j v e. h (suc j) v e))

pub prefix_self : (xs ys : List Entry) → xs ≡ ys → IsPrefix xs ys
prefix_self xs ys e = ([], append-nil xs ∙ e)

pub prefix_trans : (xs ys zs : List Entry) → IsPrefix xs ys → IsPrefix ys zs → IsPrefix xs zs
prefix_trans xs ys zs p q = (p.0 ++ q.0, sym (append_assoc xs p.0 q.0) ∙ (ap (λ w. w ++ q.0) p.1 ∙ q.1))

-- what was heard stays a beginning of a longer journal
pub heard_on : (start : Opening) (log log' : List Entry) (x : Heard) → IsHeard start log x → IsPrefix log log' → IsHeard start log' x
heard_on start log log' x h longer = (h.0, prefix_trans x.front log log' h.1 longer)
