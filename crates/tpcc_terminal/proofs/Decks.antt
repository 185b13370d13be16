-- A deck has cards.
use Rattle.std.proofs.Common.{◌<◌, List, length, arith}
use Rattle.std.specs.Prelude.{IsPermutation}
use Rattle.std.proofs.lemmas.List.Sorted.{length_permutation}
use Rattle.tpcc_draws.specs.Cards.{cards}
use Rattle.tpcc_draws.specs.declared.cards.Card.{Card}

pub some_cards : (ys : List Card) → IsPermutation cards ys → 0 < length ys
some_cards ys h = omega (arith, length_permutation cards ys h)
