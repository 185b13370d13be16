use Rattle.std.proofs.Common.{◌≡◌, length}
use Rattle.tpcc_draws.specs.Draws.{answers}
use Rattle.tpcc_terminal.specs.Cards.{drawn_lines}
use Rattle.tpcc_terminal.proofs.draws.lines.Given as goal

abbrev pub invariant-loop-number : goal.invariant-loop-number
invariant-loop-number l = record {
  drawn : (l.lines, answers l.stream) ≡ drawn_lines l.home l.count l.is_unused l.number (answers l.initial.stream);
  count : length l.lines ≡ l.number;
}
