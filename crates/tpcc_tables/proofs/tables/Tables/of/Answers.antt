use Rattle.std.proofs.Common.{rules}
use Rattle.tpcc_tables.proofs.Ready.{ready-none}
use Rattle.tpcc_tables.proofs.tables.Tables.of.Goals as goal

pub returns-in_err-sums : goal.returns-in_err-sums
returns-in_err-sums c = search rules

pub returns-in_err-names : goal.returns-in_err-names
returns-in_err-names c = search rules

pub returns : goal.returns
returns c = search rules

pub invariant_of-result : goal.invariant_of-result
invariant_of-result c = record { well_keyed = c.requires.keyed; names = rw c.as_slice.ensures at c.in_ok-names.ensures; sums = c.in_ok-sums.ensures; ready = ready-none _ _ _ _; payments = search rules }
