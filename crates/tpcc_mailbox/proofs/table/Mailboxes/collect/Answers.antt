use Rattle.std.proofs.Common.{rules, sym, ap, subst, ◌∙◌, ◌∷◌, Some}
use Rattle.atomic_table.specs.Table.{rest}
use Rattle.tpcc_mailbox.specs.declared.words.rule.Mail.TheVariants.{Reply}
use Rattle.tpcc_mailbox.proofs.Keeps.{collects, reply_or, slot_is_exchanged, is_seat_with}
use Rattle.tpcc_mailbox.proofs.table.Mailboxes.collect.Goals as goal

pub step_word-requires-clause-allowed : goal.step_word-requires-clause-allowed
step_word-requires-clause-allowed g c = collects (λ j a. g.A.Answers.fits (g.A.Answers.label j) a) _ _ _ _ c.args.waiting.letter.value (search rules) (ap (λ s. s.me.0.roles) c.args.waiting.sent)

pub invariant_of-result : goal.invariant_of-result
invariant_of-result g c = let same = (c.step_word.ensures.told _ _ (ap (λ s. s.me.0.roles) c.args.waiting.sent)).1 c.if-step_word-ne-ANSWERED.true in record {
  within = search rules;
  sized = search rules;
  sent = is_seat_with _ _ _ (ap (λ m. m.0.roles) same ∙ ap (λ s. s.me.0.roles) c.args.waiting.sent) (ap (λ m. m.1) same ∙ ap (λ s. s.me.1) c.args.waiting.sent);
}

pub exchange_slot-found-requires-clause-has : goal.exchange_slot-found-requires-clause-has
exchange_slot-found-requires-clause-has g c = let got = (c.step_word.ensures.told _ _ (ap (λ s. s.me.0.roles) c.args.waiting.sent)).0 c.if-step_word-ne-ANSWERED.false in
    (Some (Reply got.0), ap (λ m. m.1) got.2 ∙ ap (λ l. (c.args.waiting.mailbox, Some (Reply got.0)) ∷ rest l) (sym (ap (λ m. m.1) got.2)))

pub invariant_of-idle : goal.invariant_of-idle
invariant_of-idle g c = let got = (c.step_word.ensures.told _ _ (ap (λ s. s.me.0.roles) c.args.waiting.sent)).0 c.if-step_word-ne-ANSWERED.false in
    let took = slot_is_exchanged _ _ _ _ (Some (Reply got.0)) _ (ap (λ m. m.0.roles) got.2) (ap (λ m. m.1) got.2 ∙ ap (λ s. (c.args.waiting.mailbox, Some (Reply got.0)) ∷ s.me.1) c.args.waiting.sent) c.exchange_slot-found.ensures.now in record {
      within = search rules;
      sized = search rules;
      free = is_seat_with _ _ _ took.0 took.1;
    }

pub returns-clause-closed : goal.returns-clause-closed
returns-clause-closed g c = let got = (c.step_word.ensures.told _ _ (ap (λ s. s.me.0.roles) c.args.waiting.sent)).0 c.if-step_word-ne-ANSWERED.false in
    ap (λ m. m.0.closed) c.exchange_slot-found.ensures.now ∙ ap (λ m. m.0.closed) got.2

pub returns-clause-fits : goal.returns-clause-fits
returns-clause-fits g c = let got = (c.step_word.ensures.told _ _ (ap (λ s. s.me.0.roles) c.args.waiting.sent)).0 c.if-step_word-ne-ANSWERED.false in
    let is = ap (reply_or got.0) (sym (ap (λ m. m.1) got.2) ∙ (c.exchange_slot-found.ensures.was ∙ ap (λ x. (c.args.waiting.mailbox, x) ∷ rest c.step_word.new.seat.me.1) (c.in-Some-Reply.is ∙ ap Some c.in-Some-Reply.field-0-is))) in
    subst (λ a. g.A.Answers.fits (g.A.Answers.label c.args.waiting.letter.value) a) (is ∙ sym c.take_out-answer.ensures.answer) got.1

pub unreachable-requires : goal.unreachable-requires
unreachable-requires g c = let got = (c.step_word.ensures.told _ _ (ap (λ s. s.me.0.roles) c.args.waiting.sent)).0 c.if-step_word-ne-ANSWERED.false in search rules
