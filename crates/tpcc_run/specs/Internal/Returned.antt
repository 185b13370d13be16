-- What is kept of a terminal that came back.
use Rattle.std.specs.Prelude.{List, [], ◌∷◌, Vec}
use Rattle.std.specs.declared.alloc.Global.{Global}
use Rattle.tpcc_turns.specs.Seats.{SeatedView}
use Rattle.tpcc_terminal.specs.declared.receipts.Receipt.{Receipt}
use Rattle.tpcc_run.specs.declared.threads.operator_work.OperatorBack.{OperatorBack}
use Rattle.tpcc_run.specs.declared.threads.operator_work.OperatorBack.TheVariants.{All as Whole, Short, Missing}
use Rattle.tpcc_run.specs.Returned.{HasKept, returned_of}

-- a terminal that has asked all is kept whole, and any other leaves a fault
abbrev pub HasKeptBack : {N T C : Type 0} → OperatorBack N T C → List SeatedView → List (Vec Receipt Global) → List SeatedView → List (Vec Receipt Global) → Type 0
HasKeptBack (Whole s) purses receipts new_purses new_receipts = HasKept (returned_of s ∷ []) purses receipts new_purses new_receipts
HasKeptBack (Short s) purses receipts new_purses new_receipts = ⊥
HasKeptBack Missing purses receipts new_purses new_receipts = ⊥
