-- What every request that nothing refuses keeps: 1.3 to 1.5 and 3.3.2 of the rows, and the ranges of the queue.
use Rattle.tpcc_rows.specs.Tables.{State}
use Rattle.tpcc_rows.specs.WellKeyed.{IsWellKeyed, IsQueueInRange, IsStocked}
use Rattle.tpcc_rows.specs.Conditions.{IsConsistent}

pub record IsSoundState (s : State) : Type 0 where
  pub well_keyed : IsWellKeyed s.rows
  pub queue : IsQueueInRange s.queue
  pub stocked : IsStocked s.rows
  pub consistent : IsConsistent s.rows
