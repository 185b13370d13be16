use Rattle.std.proofs.Common.{rules, refl, sym, ap, ◌∙◌, ◌∷◌, ◌≤◌, subst, Some}
use Rattle.tpcc_mailbox.specs.Rule.{hand_bound, hand_in, splits_in}
use Rattle.atomic_table.specs.Table.{rest}
use Rattle.tpcc_mailbox.specs.declared.words.rule.Mail.TheVariants.{Letter}
use Rattle.tpcc_mailbox.proofs.Keeps.{takes_letter, letter_or, slot_is_exchanged, free_server, seated_server, seated_holder}
use Rattle.tpcc_mailbox.proofs.table.Mailboxes.take.Goals as goal

pub step_word-requires-clause-allowed : goal.step_word-requires-clause-allowed
step_word-requires-clause-allowed g c = let was = free_server _ c.args.serving.now.serves c.requires.free in takes_letter (λ j a. g.A.Answers.fits (g.A.Answers.label j) a) _ _ _ _ _ (search rules) was.0

pub invariant_of-serving : goal.invariant_of-serving
invariant_of-serving g c = let was = free_server _ c.args.serving.now.serves c.requires.free in let same = (c.step_word.ensures.told _ was.0).1 c.if-step_word-ne-POSTED.true in record {
  sized = search rules;
  inside = subst (λ l. hand_bound (hand_in l) ≤ c.step_word.new.seat.table_id.slots) (sym (ap (λ m. m.0.roles) same ∙ was.0)) (search rules);
  serves = seated_server _ _ (ap (λ m. m.0.roles) same ∙ was.0) (ap (λ m. m.1) same ∙ was.1);
}

pub exchange_slot-found-requires-clause-has : goal.exchange_slot-found-requires-clause-has
exchange_slot-found-requires-clause-has g c = let was = free_server _ c.args.serving.now.serves c.requires.free in let got = (c.step_word.ensures.told _ was.0).0 c.if-step_word-ne-POSTED.false c.args.k refl in
    (Some (Letter got.0), ap (λ m. m.1) got.1 ∙ ap (λ l. (c.args.k, Some (Letter got.0)) ∷ rest l) (sym (ap (λ m. m.1) got.1)))

pub invariant_of-serving-2 : goal.invariant_of-serving-2
invariant_of-serving-2 g c = let was = free_server _ c.args.serving.now.serves c.requires.free in let got = (c.step_word.ensures.told _ was.0).0 c.if-step_word-ne-POSTED.false c.args.k refl in
    let took = slot_is_exchanged _ _ _ _ (Some (Letter got.0)) _ (ap (λ m. m.0.roles) got.1) (ap (λ m. m.1) got.1 ∙ ap (λ l. (c.args.k, Some (Letter got.0)) ∷ l) was.1) c.exchange_slot-found.ensures.now in record {
      sized = search rules;
      inside = subst (λ l. hand_bound (hand_in l) ≤ c.exchange_slot-found.new.seat.table_id.slots) (sym took.0) (search rules);
      serves = seated_holder _ _ _ _ took.0 took.1;
    }

pub unreachable-requires : goal.unreachable-requires
unreachable-requires g c = let was = free_server _ c.args.serving.now.serves c.requires.free in let got = (c.step_word.ensures.told _ was.0).0 c.if-step_word-ne-POSTED.false c.args.k refl in search rules

pub returns-clause-hand : goal.returns-clause-hand
returns-clause-hand g c = let was = free_server _ c.args.serving.now.serves c.requires.free in let got = (c.step_word.ensures.told _ was.0).0 c.if-step_word-ne-POSTED.false c.args.k refl in
    let is = ap (letter_or got.0) (sym (ap (λ m. m.1) got.1) ∙ (c.exchange_slot-found.ensures.was ∙ ap (λ x. (c.args.k, x) ∷ rest c.step_word.new.seat.me.1) (c.in-Some-Letter.is ∙ ap Some c.in-Some-Letter.field-0-is))) in
    ap (λ m. hand_in m.0.roles) c.exchange_slot-found.ensures.now ∙ (ap (λ m. hand_in m.0.roles) got.1 ∙ ap (λ j. Some (c.args.k, j)) (is ∙ sym c.open-letter.ensures.letter))

pub returns-clause-closed : goal.returns-clause-closed
returns-clause-closed g c = let was = free_server _ c.args.serving.now.serves c.requires.free in let got = (c.step_word.ensures.told _ was.0).0 c.if-step_word-ne-POSTED.false c.args.k refl in ap (λ m. m.0.closed) c.exchange_slot-found.ensures.now ∙ ap (λ m. m.0.closed) got.1

pub returns-clause-splits : goal.returns-clause-splits
returns-clause-splits g c = let was = free_server _ c.args.serving.now.serves c.requires.free in let got = (c.step_word.ensures.told _ was.0).0 c.if-step_word-ne-POSTED.false c.args.k refl in ap (λ m. splits_in m.0.roles) c.exchange_slot-found.ensures.now ∙ ap (λ m. splits_in m.0.roles) got.1

pub returns-clause-answered : goal.returns-clause-answered
returns-clause-answered g c = let was = free_server _ c.args.serving.now.serves c.requires.free in let got = (c.step_word.ensures.told _ was.0).0 c.if-step_word-ne-POSTED.false c.args.k refl in ap (λ m. m.0.answered) c.exchange_slot-found.ensures.now ∙ ap (λ m. m.0.answered) got.1
