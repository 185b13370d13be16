use Rattle.tpcc_journal.proofs.Log.{ten_runs}
use Rattle.tpcc_journal.proofs.result_log.whole_ticket.Goals as goal

pub returns : goal.returns
returns c =
    ten_runs c.args.runs.now c.index-runs-9.result c.index-runs-9-2.result c.index-runs-0.result c.index-runs-1.result c.index-runs-2.result c.index-runs-3.result c.index-runs-4.result c.index-runs-5.result c.index-runs-6.result c.index-runs-7.result c.index-runs-8.result c.index-runs-9-3.result
    c.requires c.index-runs-0.is c.index-runs-1.is c.index-runs-2.is c.index-runs-3.is c.index-runs-4.is c.index-runs-5.is c.index-runs-6.is c.index-runs-7.is c.index-runs-8.is c.index-runs-9-3.is
