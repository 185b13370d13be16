-- Which fault a run is to end with.
use Rattle.std.specs.Prelude.{◌≡◌, ◌⊎◌, Option, Some, None}
use Rattle.tpcc_run.specs.declared.threads.operator_work.OperatorBack.{OperatorBack}
use Rattle.tpcc_run.specs.declared.threads.operator_work.OperatorBack.TheVariants.{All, Short, Missing}
use Rattle.tpcc_run.specs.declared.threads.fault.RunFault.{RunFault}
use Rattle.tpcc_run.specs.declared.threads.fault.RunFault.TheVariants as faults

-- the fault behind one more: want of memory stays
abbrev pub noted : Option RunFault → RunFault → Option RunFault
noted (Some faults.NoMemory) fault = Some faults.NoMemory
noted (Some faults.Missing) fault = Some fault
noted (Some faults.Write) fault = Some fault
noted None fault = Some fault

-- the fault behind what a terminal's thread gave back: none is new where it asked all, and there is room for what it has
abbrev pub HasNoted : {N T C : Type 0} → OperatorBack N T C → Option RunFault → Option RunFault → Type 0
HasNoted (All s) before after = (after ≡ before) ⊎ (after ≡ Some faults.NoMemory)
HasNoted (Short s) before after = after ≡ Some faults.NoMemory
HasNoted Missing before after = after ≡ noted before faults.Missing
