use Rattle.std.proofs.Common.{rules, ap, sym, subst, ◌≤◌}
use Rattle.tpcc_mailbox.specs.Rule.{hand_bound, hand_in}
use Rattle.tpcc_mailbox.proofs.Keeps.{flag_keeps_seat}
use Rattle.tpcc_mailbox.proofs.Flags.{looks}
use Rattle.tpcc_mailbox.proofs.table.Mailboxes.is_closed.Goals as goal

pub load_word-requires-clause-allowed : goal.load_word-requires-clause-allowed
load_word-requires-clause-allowed g c = rw c.word_index.ensures (looks (λ j a. g.A.Answers.fits (g.A.Answers.label j) a) _ _ _ _ (search rules))

pub invariant_of-serving : goal.invariant_of-serving
invariant_of-serving g c = let did = c.load_word.ensures.told.0 in record {
  sized = search rules;
  inside = subst (λ l. hand_bound (hand_in l) ≤ c.load_word.new.seat.table_id.slots) (sym (ap (λ m. m.0.roles) did)) (search rules);
  serves = flag_keeps_seat _ _ _ c.args.serving.now.serves did;
}
