use Rattle.tpcc_script.proofs.Turns.{served_check, served_results}
use Rattle.tpcc_script.proofs.session.Session.answer.Goals as goal

pub returns-in-Check-clause-served : goal.returns-in-Check-clause-served
returns-in-Check-clause-served g c = rw c.in-Check.is (served_check _)

pub returns-in-Results-clause-served : goal.returns-in-Results-clause-served
returns-in-Results-clause-served g c = rw c.in-Results.is (served_results _)
