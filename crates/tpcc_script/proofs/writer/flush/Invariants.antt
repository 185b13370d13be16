use Rattle.std.specs.Io.KnownBytes.{Keeps}
use Rattle.tpcc_script.specs.Internal.Attempts.{IsNoWorse}
use Rattle.tpcc_script.proofs.writer.flush.Given as goal

abbrev pub invariant-writes : goal.invariant-writes
invariant-writes g l = record {
  kept : Keeps (g.W.Write.contents l.initial.out) (g.W.Write.contents l.out);
  same : IsNoWorse l.initial.watch l.watch;
}

abbrev pub decreases-writes : goal.decreases-writes
decreases-writes g l = l.watch.retries
