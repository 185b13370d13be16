-- What the promise of a terminal's thread says.
use Rattle.tpcc_run.specs.Internal.Answered.{IfAll}
use Rattle.tpcc_run.specs.declared.threads.operator_work.OperatorBack.{OperatorBack}
use Rattle.tpcc_run.specs.declared.threads.promises.ComesBack.{ComesBack}
use Rattle.tpcc_run.specs.Working.{HasWorked}

-- one that has asked all was a terminal of the run
abbrev pub HasComeBack : {N T C : Type 0} → ComesBack → OperatorBack N T C → Type 0
HasComeBack promise back = IfAll back (HasWorked promise.duty promise.scale promise.plan promise.number)
