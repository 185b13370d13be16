use Rattle.std.proofs.Common.{rules, zero-le}
use Rattle.tpcc_tables.proofs.Ready.{ready-none}
use Rattle.tpcc_tables.proofs.tables.Tables.empty.Goals as goal

pub returns : goal.returns
returns c = search rules

pub invariant_of-result : goal.invariant_of-result
invariant_of-result c = record { well_keyed = search rules; names = search rules; sums = search rules; ready = ready-none _ _ _ _; payments = rw c.new-5.ensures.len zero-le }
