use Rattle.std.proofs.Common.{rules, ap, ◌∙◌}
use Rattle.tpcc_mailbox.specs.Internal.Rule.{opener_after, next_client}
use Rattle.tpcc_mailbox.proofs.Keeps.{first_collects, is_seat_with}
use Rattle.tpcc_mailbox.proofs.Splits.{deals}
use Rattle.tpcc_mailbox.proofs.new_mailboxes.first_idle.Goals as goal

pub split_seat-seat-requires-clause-splits : goal.split_seat-seat-requires-clause-splits
split_seat-seat-requires-clause-splits g c = deals (λ j a. g.A.Answers.fits (g.A.Answers.label j) a) _ _ c.args.mailbox (ap (λ v. v.roles) c.requires.opens)

pub step_word-requires-clause-allowed : goal.step_word-requires-clause-allowed
step_word-requires-clause-allowed g c = let is = c.split_seat-seat.ensures.right.1 in first_collects (λ j a. g.A.Answers.fits (g.A.Answers.label j) a) _ _ _ c.args.mailbox (search rules) (ap (λ m. m.0.roles) is ∙ ap (λ v. (next_client v).roles) c.requires.opens) (ap (λ m. m.1) is)

pub invariant_of-result : goal.invariant_of-result
invariant_of-result g c = let is = c.split_seat-seat.ensures.right.1 in let did = c.step_word.ensures.told c.args.mailbox (ap (λ m. m.0.roles) is ∙ ap (λ v. (next_client v).roles) c.requires.opens) (ap (λ m. m.1) is) in record {
  within = search rules;
  sized = search rules;
  free = is_seat_with _ _ _ (ap (λ m. m.0.roles) did) (ap (λ m. m.1) did);
}

pub returns-clause-opens : goal.returns-clause-opens
returns-clause-opens g c = ap (λ m. m.0) c.split_seat-seat.ensures.left.1 ∙ ap opener_after c.requires.opens

pub returns-clause-open : goal.returns-clause-open
returns-clause-open g c = let is = c.split_seat-seat.ensures.right.1 in let did = c.step_word.ensures.told c.args.mailbox (ap (λ m. m.0.roles) is ∙ ap (λ v. (next_client v).roles) c.requires.opens) (ap (λ m. m.1) is) in
    ap (λ m. m.0.closed) did ∙ (ap (λ m. m.0.closed) is ∙ ap (λ v. v.closed) c.requires.opens)
