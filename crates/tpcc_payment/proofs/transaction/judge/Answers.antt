use Rattle.tpcc_payment.proofs.Preparations.{prepared_is}
use Rattle.tpcc_payment.proofs.transaction.judge.Goals as goal

pub returns-clause-ok : goal.returns-clause-ok
returns-clause-ok c = prepared_is c.args.tables.now.rows c.args.payment.now c.in_ok-named.named c.well_keyed.ensures c.in_ok-named.ensures.ok
