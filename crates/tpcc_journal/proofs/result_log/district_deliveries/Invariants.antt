use Rattle.std.proofs.Common.{◌≡◌, take}
use Rattle.tpcc_rows.specs.Replay.{district_deliveries}
use Rattle.tpcc_journal.proofs.result_log.district_deliveries.Given as goal

abbrev pub invariant-loop-place : goal.invariant-loop-place
invariant-loop-place l = l.runs.items ≡ district_deliveries (take l.place l.journal.entries)
