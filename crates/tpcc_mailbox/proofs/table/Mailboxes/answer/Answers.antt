use Rattle.std.proofs.Common.{rules, sym, ap, ◌≤◌, ◌∙◌, ◌++◌, ◌∷◌, [], subst}
use Rattle.tpcc_mailbox.specs.Rule.{hand_bound, hand_in, splits_in}
use Rattle.tpcc_mailbox.proofs.Keeps.{answers, slot_is_exchanged, busy_server, seated_server}
use Rattle.tpcc_mailbox.proofs.table.Mailboxes.answer.Goals as goal

pub step_word-requires-clause-allowed : goal.step_word-requires-clause-allowed
step_word-requires-clause-allowed g c = let was = busy_server _ _ _ c.args.serving.now.serves c.requires.taken in let put_in = slot_is_exchanged _ _ _ _ _ _ was.0 was.1 c.exchange_slot-was.ensures.now in
    answers (λ j a. g.A.Answers.fits (g.A.Answers.label j) a) _ _ _ _ _ _ c.fill.result put_in.0 put_in.1 (subst (λ a. g.A.Answers.fits (g.A.Answers.label c.args.taken.letter.value) a) (sym c.fill.ensures.answer) c.requires.fits)

pub invariant_of-serving : goal.invariant_of-serving
invariant_of-serving g c = let was = busy_server _ _ _ c.args.serving.now.serves c.requires.taken in let put_in = slot_is_exchanged _ _ _ _ _ _ was.0 was.1 c.exchange_slot-was.ensures.now in
    let did = c.step_word.ensures.told _ _ _ _ put_in.0 put_in.1 in record {
      sized = search rules;
      inside = subst (λ l. hand_bound (hand_in l) ≤ c.step_word.new.seat.table_id.slots) (sym (ap (λ m. m.0.roles) did)) (search rules);
      serves = seated_server _ _ (ap (λ m. m.0.roles) did) (ap (λ m. m.1) did);
    }

pub returns-clause-free : goal.returns-clause-free
returns-clause-free g c = let was = busy_server _ _ _ c.args.serving.now.serves c.requires.taken in let put_in = slot_is_exchanged _ _ _ _ _ _ was.0 was.1 c.exchange_slot-was.ensures.now in
    let did = c.step_word.ensures.told _ _ _ _ put_in.0 put_in.1 in ap (λ m. hand_in m.0.roles) did

pub returns-clause-closed : goal.returns-clause-closed
returns-clause-closed g c = let was = busy_server _ _ _ c.args.serving.now.serves c.requires.taken in let put_in = slot_is_exchanged _ _ _ _ _ _ was.0 was.1 c.exchange_slot-was.ensures.now in
    let did = c.step_word.ensures.told _ _ _ _ put_in.0 put_in.1 in ap (λ m. m.0.closed) did ∙ ap (λ m. m.0.closed) c.exchange_slot-was.ensures.now

pub returns-clause-splits : goal.returns-clause-splits
returns-clause-splits g c = let was = busy_server _ _ _ c.args.serving.now.serves c.requires.taken in let put_in = slot_is_exchanged _ _ _ _ _ _ was.0 was.1 c.exchange_slot-was.ensures.now in
    let did = c.step_word.ensures.told _ _ _ _ put_in.0 put_in.1 in ap (λ m. splits_in m.0.roles) did

pub returns-clause-answered : goal.returns-clause-answered
returns-clause-answered g c = let was = busy_server _ _ _ c.args.serving.now.serves c.requires.taken in let put_in = slot_is_exchanged _ _ _ _ _ _ was.0 was.1 c.exchange_slot-was.ensures.now in
    let did = c.step_word.ensures.told _ _ _ _ put_in.0 put_in.1 in ap (λ m. m.0.answered) did ∙ ap (λ m. m.0.answered ++ c.args.taken.mailbox ∷ []) c.exchange_slot-was.ensures.now
