-- A fresh table meets the rule.
use Rattle.std.proofs.Common.{◌≡◌, ℕ, zero, suc, List, [], ◌∷◌, refl, sym, ap, ◌∙◌, subst, inl, arith, Some}
use mathlib.Core.Option.{some, some-ne-none, some-injective}
use lib.ListN.{get_elem?}
use Rattle.atomic_table.specs.Table.{opening}
use Rattle.tpcc_rows.specs.declared.transactions.entry.Entry.{Entry}
use Rattle.tpcc_book.specs.Past.{Past, opening_past}
use Rattle.std.specs.Prelude.{Option}
use Rattle.tpcc_turns.specs.Knows.{Knows, Idle, Holds}
use Rattle.tpcc_turns.specs.Internal.TurnRule.{first, HasTicket, IsSeated, FollowsTurnRule}
use Rattle.tpcc_population.specs.declared.opening.Opening.{Opening}

pub starts : (start : Opening) (book : Past) → book.opening ≡ start → book.entries ≡ [] → FollowsTurnRule start (opening (0 ∷ 0 ∷ []) (Some book ∷ []) (first start))
starts start book is empty =
    record {
      log = [];
      served = 0;
      drawn = 0;
      words = refl;
      outs = refl;
      parts = refl;
      each = fits;
      apart = one;
      book = inl (record { book = book; there = refl; entries = empty; opening = is; nobody = idle });
    }
  where
    fits : (j : ℕ) (v : Knows) → get_elem? (first start ∷ []) j ≡ some v → IsSeated start [] 0 0 v
    fits zero v e = subst (IsSeated start [] 0 0) (some-injective (first start) v e) (record { start_is = λ _. refl; front = ([], refl); told = λ xs k there. absurd (some-ne-none xs (sym there)); backed = omega arith; stands = tt })
    fits (suc j) v e = absurd (some-ne-none v (sym e))

    one : (i j : ℕ) (v w : Knows) (n : ℕ) → get_elem? (first start ∷ []) i ≡ some v → get_elem? (first start ∷ []) j ≡ some w → HasTicket v.stage n → HasTicket w.stage n → i ≡ j
    one zero j v w n ei ej hi hj = absurd (subst (λ (k : Knows). HasTicket k.stage n) (sym (some-injective (first start) v ei)) hi)
    one (suc i) j v w n ei ej hi hj = absurd (some-ne-none v (sym ei))

    idle : (j : ℕ) (v : Knows) (t : ℕ) (base : List Entry) → get_elem? (first start ∷ []) j ≡ some v → v.stage ≡ Holds t base → ⊥
    idle zero v t base e holds = let clash : Idle ≡ Holds t base = ap (λ (k : Knows). k.stage) (some-injective (first start) v e) ∙ holds in cc clash
    idle (suc j) v t base e holds = absurd (some-ne-none v (sym e))

-- the same at the opened book
pub starts_at_opening : (start : Opening) (book : Past) (slots : List (Option Past)) → slots ≡ Some book ∷ [] → book ≡ opening_past start → FollowsTurnRule start (opening (0 ∷ 0 ∷ []) slots (first start))
starts_at_opening start book slots there is =
    subst (λ (xs : List (Option Past)). FollowsTurnRule start (opening (0 ∷ 0 ∷ []) xs (first start))) (sym there) (starts start book (ap (λ (p : Past). p.opening) is) (ap (λ (p : Past). p.entries) is))
