-- Rounds of answers, one answer after another.
use Rattle.std.proofs.Common.{◌≡◌, ◌∙◌, ap, ℕ, ◌+◌, ◌≤◌, List, [], ◌∷◌, ◌++◌, append_assoc, arith}
use Rattle.std.proofs.lemmas.List.{length-append}
use Rattle.tpcc_server.specs.Rounds.{IsRising, HasAnswered, HasAnsweredInTurn}

-- a higher bound
pub wider : (low : ℕ) (ks : List ℕ) (k m : ℕ) → k ≤ m → IsRising low ks k → IsRising low ks m
wider low [] k m up rising = tt
wider low (x ∷ xs) k m up rising = (rising.0, (let h = rising.1 in omega arith), wider (x + 1) xs k m up rising.2)

-- one number more, at the end
pub one_more : (low : ℕ) (ks : List ℕ) (k : ℕ) → low ≤ k → IsRising low ks k → IsRising low (ks ++ k ∷ []) (k + 1)
one_more low [] k above rising = (above, omega arith, tt)
one_more low (x ∷ xs) k above rising = (rising.0, (let h = rising.1 in omega arith), one_more (x + 1) xs k (let h = rising.1 in omega arith) rising.2)

pub one_answer : (xs ys zs : List ℕ) (n m k : ℕ) → HasAnsweredInTurn xs ys n k → zs ≡ ys ++ k ∷ [] → m ≡ n + 1 → HasAnsweredInTurn xs zs m (k + 1)
one_answer xs ys zs n m k round is next =
    (round.0 ++ k ∷ [], is ∙ (ap (λ w. w ++ k ∷ []) round.1 ∙ append_assoc xs round.0 (k ∷ [])), (let e = length-append round.0 (k ∷ []) in let f = round.2 in omega arith), one_more 0 round.0 k (omega arith) round.3)

pub goes_on : (xs ys zs : List ℕ) (n m k bound : ℕ) → HasAnsweredInTurn xs ys n k → zs ≡ ys → m ≡ n → k ≤ bound → HasAnsweredInTurn xs zs m bound
goes_on xs ys zs n m k bound round is same up = (round.0, is ∙ round.1, (let f = round.2 in omega arith), wider 0 round.0 k bound up round.3)

pub one_round : (xs ys from zs : List ℕ) (n m k : ℕ) → HasAnswered xs ys n → from ≡ ys → HasAnsweredInTurn from zs m k → HasAnswered xs zs (n + m)
one_round xs ys from zs n m k before is round =
    (before.0 ++ round.0, round.1 ∙ (ap (λ w. w ++ round.0) (is ∙ before.1) ∙ append_assoc xs before.0 round.0), (let e = length-append before.0 round.0 in let f = before.2 in let g = round.2 in omega arith))

-- the same answers, under other names
pub same_answers : (xs ys zs : List ℕ) (n m : ℕ) → HasAnswered xs ys n → zs ≡ ys → m ≡ n → HasAnswered xs zs m
same_answers xs ys zs n m before is same = (before.0, is ∙ before.1, (let f = before.2 in omega arith))
