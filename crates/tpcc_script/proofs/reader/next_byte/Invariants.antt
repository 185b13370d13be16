use Rattle.std.specs.Io.KnownBytes.{Keeps}
use Rattle.tpcc_script.proofs.reader.next_byte.Given as goal

abbrev pub invariant-reads : goal.invariant-reads
invariant-reads g l = Keeps (g.R.Read.remaining l.initial.input) (g.R.Read.remaining l.input)

abbrev pub decreases-reads : goal.decreases-reads
decreases-reads g l = l.watch.retries
