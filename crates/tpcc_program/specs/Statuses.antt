-- The exit statuses of the program's faults.
use Rattle.std.specs.Prelude.{ℕ}
use Rattle.tpcc_program.specs.declared.words.fault.WordsFault.{WordsFault}
use Rattle.tpcc_program.specs.declared.words.fault.WordsFault.TheVariants as words
use Rattle.tpcc_text.specs.declared.script.fault.ScriptFault.{ScriptFault}
use Rattle.tpcc_text.specs.declared.script.fault.ScriptFault.TheVariants as script
use Rattle.tpcc_show.specs.declared.table_dump.output_fault.OutputFault.{OutputFault}
use Rattle.tpcc_show.specs.declared.table_dump.output_fault.OutputFault.TheVariants as dump
use Rattle.tpcc_run.specs.declared.threads.fault.RunFault.{RunFault}
use Rattle.tpcc_run.specs.declared.threads.fault.RunFault.TheVariants as run
use Rattle.tpcc_program.specs.declared.fault.ProgramFault.{ProgramFault}
use Rattle.tpcc_program.specs.declared.fault.ProgramFault.TheVariants as program

-- 2 for what a script's lines say, 3 for reading and writing, 4 for memory
abbrev pub status_of_script : ScriptFault → ℕ
status_of_script (script.Bad line) = 2
status_of_script (script.Cut line) = 2
status_of_script (script.LongLine line) = 2
status_of_script script.TooManyLines = 2
status_of_script script.Read = 3
status_of_script script.Write = 3
status_of_script script.NoMemory = 4

abbrev pub status_of_dump : OutputFault → ℕ
status_of_dump dump.Write = 3
status_of_dump dump.NoMemory = 4

-- 5 for a purse that is missing
abbrev pub status_of_run : RunFault → ℕ
status_of_run run.Missing = 5
status_of_run run.NoMemory = 4
status_of_run run.Write = 3

-- 1 for arguments and scale
abbrev pub status_of_words : WordsFault → ℕ
status_of_words words.Arguments = 1
status_of_words words.NoMemory = 4
status_of_words (words.Scale fault) = 1

abbrev pub status_of : ProgramFault → ℕ
status_of (program.Words fault) = status_of_words fault
status_of (program.Script fault) = status_of_script fault
status_of (program.Output fault) = status_of_dump fault
status_of (program.Run fault) = status_of_run fault
