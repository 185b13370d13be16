use Rattle.std.proofs.Common.{◌≤◌, ◌-◌, ◌+◌, length, take}
use Rattle.std.specs.Prelude.{◌*◌}
use Rattle.std.specs.Io.KnownBytes.{Appends}
use Rattle.tpcc_text.specs.declared.blocks.writing.TheConstants.{MOST_RETRIES}
use Rattle.tpcc_text.proofs.blocks.writing.put_all.Given as goal

abbrev pub invariant-turns : goal.invariant-turns
invariant-turns g l = record {
  within : l.done ≤ length l.bytes;
  tries : l.retries ≤ MOST_RETRIES;
  written : Appends (g.W.Write.contents l.initial.out) (g.W.Write.contents l.out) (take l.done l.bytes);
}

-- what is left to write, and how often an interrupted write may be made again before the next bytes are taken
abbrev pub decreases-turns : goal.decreases-turns
decreases-turns g l = (length l.bytes - l.done) * (MOST_RETRIES + 1) + l.retries
