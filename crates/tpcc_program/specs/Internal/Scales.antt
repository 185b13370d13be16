-- Whether the options of a command name a scale.
use Rattle.std.specs.Prelude.{◌≡◌, Some, None}
use Rattle.tpcc_rows.specs.Layout.{Scale}
use Rattle.tpcc_program.specs.declared.command.Command.{Command}
use Rattle.tpcc_program.specs.declared.words.fault.WordsFault.{WordsFault}
use Rattle.tpcc_program.specs.declared.words.fault.WordsFault.TheVariants as words
use Rattle.tpcc_program.specs.Openings.{named_scale, scale_fault}

-- they name this one
pub record IsScaleOf (command : Command) (scale : Scale) : Type 0 where
  pub named : scale ≡ named_scale command
  pub found : scale_fault (named_scale command) ≡ None

-- they name none, for this reason
abbrev pub HasNoScale : Command → WordsFault → Type 0
HasNoScale command (words.Scale fault) = scale_fault (named_scale command) ≡ Some fault
HasNoScale command words.Arguments = ⊥
HasNoScale command words.NoMemory = ⊥
