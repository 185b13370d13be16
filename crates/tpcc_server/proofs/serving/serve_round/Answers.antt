use Rattle.std.proofs.Common.{rules}
use Rattle.tpcc_server.proofs.serving.serve_round.Goals as goal

pub returns-clause-served : goal.returns-clause-served
returns-clause-served g c = search rules

pub returns-clause-answered : goal.returns-clause-answered
returns-clause-answered g c = search rules
