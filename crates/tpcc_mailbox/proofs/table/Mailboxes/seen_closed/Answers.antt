use Rattle.std.proofs.Common.{rules, ap, ◌∙◌}
use Rattle.tpcc_mailbox.proofs.Keeps.{is_seat_with}
use Rattle.tpcc_mailbox.proofs.Flags.{looks}
use Rattle.tpcc_mailbox.proofs.table.Mailboxes.seen_closed.Goals as goal

pub load_word-requires-clause-allowed : goal.load_word-requires-clause-allowed
load_word-requires-clause-allowed g c = rw c.word_index.ensures (looks (λ j a. g.A.Answers.fits (g.A.Answers.label j) a) _ _ _ _ (search rules))

pub invariant_of-waiting : goal.invariant_of-waiting
invariant_of-waiting g c = let did = c.load_word.ensures.told.0 in record {
  within = search rules;
  sized = search rules;
  sent = is_seat_with _ _ _ (ap (λ m. m.0.roles) did ∙ ap (λ s. s.me.0.roles) c.args.waiting.now.sent) (ap (λ m. m.1) did ∙ ap (λ s. s.me.1) c.args.waiting.now.sent);
}
