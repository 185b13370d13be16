-- Which duties ask all of their requests.
use Rattle.std.specs.Prelude.{⊤}
use Rattle.tpcc_run.specs.declared.threads.duty.Duty.{Duty}
use Rattle.tpcc_run.specs.declared.threads.duty.Duty.TheVariants.{Cards, Deliveries, Rest}

-- a duty that asks all of its requests, whatever is answered
abbrev pub IsEndless : Duty → Type 0
IsEndless Cards = ⊤
IsEndless Deliveries = ⊤
IsEndless Rest = ⊥
