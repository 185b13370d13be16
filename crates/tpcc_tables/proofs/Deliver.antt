-- The sum of some rows, one row more at a time.
use Rattle.std.proofs.Common.{◌≡◌, ℕ, ◌+◌, ◌<◌, List, [], ◌∷◌, ◌++◌, length, take, get_or, sym, ap, ◌∙◌, arith}
use Rattle.std.specs.Prelude.{ℤ, ◌+ℤ◌, pos}
use Rattle.std.proofs.lemmas.Int.{ints}
use Rattle.std.proofs.lemmas.List.{take_more}
use Rattle.tpcc_money.specs.Amounts.{total}
use Rattle.tpcc_laws.proofs.List.{total-append}

pub total_more : {X : Type 0} (column : X → ℤ) (xs : List X) (i : ℕ) (x : X) → i < length xs → x ≡ get_or xs i x → total column (take (i + 1) xs) ≡ total column (take i xs) +ℤ column x
total_more column xs i x lt e =
    ap (total column) (take_more xs i x lt ∙ ap (λ y. take i xs ++ y ∷ []) (sym e)) ∙ total-append column (take i xs) (x ∷ []) ∙ one_more (total column (take i xs)) (column x)
  where
    one_more : (s a : ℤ) → s +ℤ (a +ℤ pos 0) ≡ s +ℤ a
    one_more s a = omega (arith, ints)
