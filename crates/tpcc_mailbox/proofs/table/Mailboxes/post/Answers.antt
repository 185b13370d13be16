use Rattle.std.proofs.Common.{rules, refl, ap, ◌∙◌}
use Rattle.tpcc_mailbox.proofs.Keeps.{posts, slot_is_exchanged, is_seat_with}
use Rattle.tpcc_mailbox.proofs.table.Mailboxes.post.Goals as goal

pub step_word-requires-clause-allowed : goal.step_word-requires-clause-allowed
step_word-requires-clause-allowed g c = let put_in = slot_is_exchanged _ _ _ _ _ _ (ap (λ s. s.me.0.roles) c.args.idle.free) (ap (λ s. s.me.1) c.args.idle.free) c.exchange_slot-was.ensures.now in
    posts (λ j a. g.A.Answers.fits (g.A.Answers.label j) a) _ _ _ _ c.new.result (search rules) put_in.0 put_in.1

pub invariant_of-result : goal.invariant_of-result
invariant_of-result g c = let put_in = slot_is_exchanged _ _ _ _ _ _ (ap (λ s. s.me.0.roles) c.args.idle.free) (ap (λ s. s.me.1) c.args.idle.free) c.exchange_slot-was.ensures.now in
    let did = c.step_word.ensures.told _ c.new.result put_in.0 put_in.1 in record {
      within = search rules;
      sized = search rules;
      sent = is_seat_with _ _ _ (ap (λ m. m.0.roles) did ∙ search rules) (ap (λ m. m.1) did);
    }

pub returns-clause-origin : goal.returns-clause-origin
returns-clause-origin g c = c.step_word.ensures.seat.0 ∙ c.exchange_slot-was.ensures.seat.0

pub returns-clause-mailbox : goal.returns-clause-mailbox
returns-clause-mailbox g c = refl

pub returns-clause-letter : goal.returns-clause-letter
returns-clause-letter g c = c.of-kept.ensures

pub returns-clause-closed : goal.returns-clause-closed
returns-clause-closed g c = let put_in = slot_is_exchanged _ _ _ _ _ _ (ap (λ s. s.me.0.roles) c.args.idle.free) (ap (λ s. s.me.1) c.args.idle.free) c.exchange_slot-was.ensures.now in
    let did = c.step_word.ensures.told _ c.new.result put_in.0 put_in.1 in ap (λ m. m.0.closed) did ∙ ap (λ m. m.0.closed) c.exchange_slot-was.ensures.now
