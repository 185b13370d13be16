use Rattle.std.proofs.Common.{rules}
use Rattle.tpcc_turns.proofs.turns.Turns.serve.Goals as goal

pub serve_by-requires-clause-turns : goal.serve_by-requires-clause-turns
serve_by-requires-clause-turns g c = search rules
