use Rattle.std.proofs.Common.{rules, ◌≡◌, ◌≤◌, ap, ◌∙◌, sym, subst}
use Rattle.tpcc_mailbox.specs.Rule.{splits_of, hand_of, hand_bound, hand_in}
use Rattle.tpcc_mailbox.specs.Internal.Rule.{first_server}
use Rattle.tpcc_mailbox.proofs.Sorting.{all_to}
use Rattle.tpcc_mailbox.proofs.Keeps.{seated_server}
use Rattle.tpcc_mailbox.proofs.Splits.{starts}
use Rattle.tpcc_mailbox.proofs.table.Mailboxes.new.Goals as goal

pub returns-clause-one_each : goal.returns-clause-one_each
returns-clause-one_each g c = c.first_idles.ensures.len ∙ c.in_ok-table.ensures.opens.1

pub returns-clause-numbers : goal.returns-clause-numbers
returns-clause-numbers g c = c.first_idles.ensures.numbers

pub split_seat-seat-requires-clause-splits : goal.split_seat-seat-requires-clause-splits
split_seat-seat-requires-clause-splits g c = starts (λ j a. g.A.Answers.fits (g.A.Answers.label j) a) _ _ _ (ap (λ v. v.roles) c.first_idles.ensures.opens)

pub invariant_of-result : goal.invariant_of-result
invariant_of-result g c = let is = c.split_seat-seat.ensures.right.1 in record {
  sized = search rules;
  inside = subst (λ l. hand_bound (hand_in l) ≤ c.split_seat-seat.result.table_id.slots) (sym (ap (λ m. m.0.roles) is)) (search rules);
  serves = seated_server _ _ (ap (λ m. m.0.roles) is) (ap (λ m. m.1) is);
}

pub returns-clause-idles : goal.returns-clause-idles
returns-clause-idles g c = all_to (λ x. x.seat.table_id ≡ c.in_ok-table.table.shared.table_id) c.first_idles.new.idles.items (λ k x e. (c.first_idles.ensures.numbers k x e).0)

pub returns-clause-serving : goal.returns-clause-serving
returns-clause-serving g c = let is = ap (λ m. m.0) c.split_seat-seat.ensures.right.1 ∙ ap first_server c.first_idles.ensures.opens in (ap hand_of is, ap splits_of is)

pub returns-clause-open : goal.returns-clause-open
returns-clause-open g c = ap (λ m. m.0.closed) c.split_seat-seat.ensures.right.1 ∙ ap (λ v. (first_server v).closed) c.first_idles.ensures.opens

pub returns-clause-answered : goal.returns-clause-answered
returns-clause-answered g c = ap (λ m. m.0.answered) c.split_seat-seat.ensures.right.1 ∙ ap (λ v. (first_server v).answered) c.first_idles.ensures.opens
