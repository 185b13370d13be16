-- Seated purses put together one by one.
use Rattle.std.specs.Prelude.{ℕ, ◌≡◌, ◌<◌, List, All}
use mathlib.Core.Option.{some}
use mathlib.Core.List.{IsPrefix}
use lib.ListN.{get_elem?}
use Rattle.tpcc_rows.specs.declared.transactions.entry.Entry.{Entry}
use Rattle.tpcc_book.specs.Internal.Pooling.{AreAll}
use Rattle.tpcc_book.specs.Purses.{PoolView}
use Rattle.tpcc_turns.specs.Seats.{SeatedView, purses_of}
use Rattle.tpcc_turns.specs.Knows.{Knows, Heard, Idle}

-- the journal begins with all that a seat has seen, or was told
pub record HasSeen (v : Knows) (log : List Entry) : Type 0 where
  pub front : IsPrefix v.front log
  pub told : (x : Heard) (k : ℕ) → get_elem? v.told k ≡ some x → IsPrefix x.front log

-- the journal begins with the front of each purse
abbrev pub AllBegin : List SeatedView → List Entry → Type 0
AllBegin purses log = All (λ p. IsPrefix p.front log) purses

-- a seat that took in those of some purses, whose shares are pooled
pub record HasJoined (purses rest : List SeatedView) (pool : PoolView) (v : Knows) : Type 0 where
  pub idle : v.stage ≡ Idle
  pub parts : v.parts ≡ pool.parts
  pub some_part : 0 < pool.parts
  pub fronts : (log : List Entry) → HasSeen v log → AllBegin rest log → AllBegin purses log
  pub shares : AreAll (purses_of purses) pool (purses_of rest)
