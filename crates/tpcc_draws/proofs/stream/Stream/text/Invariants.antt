use Rattle.std.proofs.Common.{◌≡◌, length}
use Rattle.tpcc_draws.specs.Draws.{answers, drawn_bytes}
use Rattle.tpcc_draws.proofs.stream.Stream.text.Given as goal

abbrev pub invariant-loop : goal.invariant-loop
invariant-loop g l = record {
  drawn : (l.text, answers l.self) ≡ drawn_bytes l.alphabet l.counter (answers l.initial.self);
  count : length l.text ≡ l.counter;
}
