use Rattle.tpcc_run.proofs.Turned.{turned_as}
use Rattle.tpcc_run.proofs.threads.route.Route.ask.Goals as goal

pub returns-in-ByTurn : goal.returns-in-ByTurn
returns-in-ByTurn g c = record { turned = search turned_as }
