-- Texts drawn one after another.
use Rattle.std.proofs.Common.{◌≡◌, ◌∙◌, refl, ℕ, suc, List, [], ◌∷◌, ◌++◌}
use Rattle.rand_core.specs.Stream.{Stream}
use Rattle.tpcc_draws.specs.Draws.{a_string}
use Rattle.tpcc_population.specs.Seeded.{drawn_texts}

pub one_more_text : (n : ℕ) (ts : List (List ℕ)) (t : List ℕ) (s u v : Stream) → (ts, u) ≡ drawn_texts n s → (t, v) ≡ a_string 24 24 u → (ts ++ t ∷ [], v) ≡ drawn_texts (suc n) s
unfolding drawn_texts
one_more_text n ts t s u v before next =
    (λ i. (ts ++ (next i).0 ∷ [], (next i).1)) ∙ (λ i. ((before i).0 ++ (a_string 24 24 (before i).1).0 ∷ [], (a_string 24 24 (before i).1).1))

pub no_text : (s : Stream) → ([], s) ≡ drawn_texts 0 s
unfolding drawn_texts
no_text s = refl
