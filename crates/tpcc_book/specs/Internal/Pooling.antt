-- Purses put together one by one.
use Rattle.std.specs.Prelude.{◌≡◌, ◌+◌, ◌+ℤ◌, List}
use Rattle.tpcc_book.specs.Purses.{PurseView, PoolView}
use Rattle.tpcc_book.specs.Serve.{rooms_of, entries_of, paid_of}

-- what is pooled and what is left are all
pub record AreAll (purses : List PurseView) (pool : PoolView) (rest : List PurseView) : Type 0 where
  pub rooms : pool.parts + rooms_of rest ≡ rooms_of purses
  pub entries : pool.entries + entries_of rest ≡ entries_of purses
  pub paid : pool.paid +ℤ paid_of rest ≡ paid_of purses
