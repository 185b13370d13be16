use Rattle.std.proofs.Common.{rules, arith, ℕ, ◌≡◌, ◌∷◌, ◌∙◌, ap, refl, List, [], Bool, false, get_or, set}
use Rattle.tpcc_turns.proofs.turns.gather.home_of.Goals as goal

pub word-drawn-requires : goal.word-drawn-requires
word-drawn-requires g c = (omega (arith, c.requires.counts.0), c.requires.full.0)

pub word-served-requires : goal.word-served-requires
word-served-requires g c = (omega (arith, c.requires.counts.0), c.requires.full.0)

pub take-slot-requires : goal.take-slot-requires
take-slot-requires g c = (omega (arith, c.requires.counts.1), search (rules, c.requires.full.1 0 (omega arith) (omega (arith, c.requires.counts.1))))

first_out : (was now : List Bool) (k : ℕ) → now ≡ set was 0 false → k ≡ 0 → get_or now k false ≡ false
first_out was now k is first = ap (λ (l : List Bool). get_or l k false) is ∙ (ap (λ (n : ℕ). get_or (set was 0 false) n false) first ∙ out was)
  where
    out : (l : List Bool) → get_or (set l 0 false) 0 false ≡ false
    out [] = refl
    out (x ∷ xs) = refl

pub free-requires : goal.free-requires
free-requires g c k h = let took = c.take-slot.ensures.others in first_out _ _ k took.1 (omega (arith, h, took.2, c.requires.counts.1))
