-- What a parsing function answers.
use Rattle.std.specs.Prelude.{◌≡◌, Option, Some, None, Result, Ok, Err}
use Rattle.tpcc_text.specs.declared.script.fault.ParseFault.{ParseFault}
use Rattle.tpcc_text.specs.declared.script.fault.ParseFault.TheVariants.{Bad, NoMemory}

abbrev pub Fails : {Y : Type 0} → ParseFault → Option Y → Type 0
Fails Bad read = read ≡ None
Fails NoMemory read = Unit {0}

-- what is read, seen by view; Bad where there is nothing to read
abbrev pub Gives : {X Y : Type 0} → (X → Y) → Result X ParseFault → Option Y → Type 0
Gives view (Ok x) read = read ≡ Some (view x)
Gives view (Err fault) read = Fails fault read
