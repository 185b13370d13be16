-- What is known of a task.
use Rattle.std.specs.Prelude.{⊤, ◌≤◌}
use Rattle.tpcc_run.specs.Plans.{IsPlan}
use Rattle.tpcc_program.specs.declared.command.Task.{Task}
use Rattle.tpcc_program.specs.declared.command.Task.TheVariants as tasks

-- a plan is in its ranges, and terminals are counted from 1
abbrev pub HasPlan : Task → Type 0
HasPlan tasks.Script = ⊤
HasPlan (tasks.Dump table) = ⊤
HasPlan (tasks.Run plan) = IsPlan plan
HasPlan (tasks.Requests asking) = 1 ≤ asking.terminal
