use Rattle.std.proofs.Common.{ap, sym, ◌∙◌, Some}
use Rattle.tpcc_turns.proofs.turns.gather.audit_book.Goals as goal

pub audit-entries-requires : goal.audit-entries-requires
audit-entries-requires g c = record { all = cc }

pub returns-clause-all : goal.returns-clause-all
returns-clause-all g c = (cc, c.in-Some.is ∙ ap Some (sym c.audit-entries.ensures.same))
