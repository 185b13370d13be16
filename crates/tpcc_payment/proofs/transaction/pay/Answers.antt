use Rattle.tpcc_payment.proofs.transaction.pay.Goals as goal

pub returns-clause-refused : goal.returns-clause-refused
returns-clause-refused c = tt

pub returns-clause-same : goal.returns-clause-same
returns-clause-same c = tt
