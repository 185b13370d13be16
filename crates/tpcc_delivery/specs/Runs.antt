-- 2.7.4: what a run that was prepared is, and what it leaves of the queue.
use Rattle.std.specs.Prelude.{◌≡◌, ℕ, List, None}
use Rattle.tpcc_rows.specs.declared.transactions.requests.QueuedTicket.{QueuedTicket}
use Rattle.tpcc_rows.specs.Delivery.{run_refusal, run_reply}
use Rattle.tpcc_rows.specs.Tables.{Rows}
use Rattle.tpcc_delivery.specs.declared.runs.PreparedRun.{PreparedRun}

-- a run at a moment that nothing refuses, with what it answers
pub record IsPreparedRun (rows : Rows) (queue : List QueuedTicket) (at : ℕ) (run : PreparedRun) : Type 0 where
  pub accepted : run_refusal rows queue ≡ None
  pub reply : run.reply ≡ run_reply rows queue at
