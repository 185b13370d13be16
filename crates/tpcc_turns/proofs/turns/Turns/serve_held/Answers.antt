use Rattle.std.proofs.Common.{◌≡◌, ◌∙◌, List, ◌+◌, ◌%◌, ◌^◌, ap, sym, subst, arith}
use mathlib.Core.List.{IsPrefix}
use Rattle.tpcc_rows.specs.declared.transactions.entry.Entry.{Entry}
use Rattle.tpcc_turns.specs.Seats.{SeatedView, IsTurned}
use Rattle.tpcc_book.specs.AnswerView.{AnswerView}
use Rattle.tpcc_turns.proofs.Keepers.{back_is, can_grow, grew_of, grown_is, longer_of, old_book, opening_stays, parts_left, room_stays, still_holds, still_numbered, still_opened, turned_within}
use Rattle.tpcc_turns.proofs.turns.Turns.serve_held.Goals as goal

pub serve-answer-requires-clause-has : goal.serve-answer-requires-clause-has
serve-answer-requires-clause-has g c =
    let i = c.held.invariant in
    (i.book, ap (λ m. m.1) c.adopt.ensures.adopted ∙ ap (λ m. m.1) i.holds)

pub grow-requires-clause-grows : goal.grow-requires-clause-grows
grow-requires-clause-grows g c =
    let h = c.held.inside in
    let i = c.held.invariant in
    can_grow h.seat.me c.adopt.new.seat.me c.serve-answer.new.seat.me c.into_seat-purse.result.1.me.0 (h.purse.room + 1) i.book c.args.request c.into_seat-purse.result.0 c.serve-answer.result i.holds c.adopt.ensures.adopted c.serve-answer.ensures.served (omega arith)

pub returns-clause-turned : goal.returns-clause-turned
returns-clause-turned g c =
    let h = c.held.inside in
    let i = c.held.invariant in
    let here = c.serve-answer.ensures.served in
    let grew = grew_of h.seat.me c.adopt.new.seat.me c.serve-answer.new.seat.me c.grow.new.seat.me c.into_seat-purse.result.1.me.0 (h.purse.room + 1) i.book c.args.request c.into_seat-purse.result.0 c.serve-answer.result i.holds c.adopt.ensures.adopted here c.grow.ensures.grown in
    let told = turned_within c.into_seat-purse.result.0 c.args.purse h.seat.me c.adopt.new.seat.me c.serve-answer.new.seat.me c.grow.new.seat.me c.free-back.result.me c.into_seat-purse.result.1.me.0 (h.purse.room + 1) i.book c.serve-answer.result c.args.request c.into_seat-purse.ensures.purse (ap (λ m. m.0) c.into_seat-purse.ensures.seat) i.holds i.opened c.adopt.ensures.adopted here grew c.free-back.ensures.back.1 in
    subst (λ (t : AnswerView SeatedView). IsTurned c.args.request c.args.purse t) (sym c.carried_with.ensures.carried) told

pub free-back-requires-clause-parts : goal.free-back-requires-clause-parts
free-back-requires-clause-parts g c =
    let h = c.held.inside in
    let i = c.held.invariant in
    let here = c.serve-answer.ensures.served in
    let w = c.into_seat-purse.result.1.me.0 in
    let parts = h.purse.room + 1 in
    let asked = c.into_seat-purse.result.0 in
    let grew = grew_of h.seat.me c.adopt.new.seat.me c.serve-answer.new.seat.me c.grow.new.seat.me w parts i.book c.args.request asked c.serve-answer.result i.holds c.adopt.ensures.adopted here c.grow.ensures.grown in
    let grown = grown_is h.seat.me c.adopt.new.seat.me c.serve-answer.new.seat.me c.grow.new.seat.me w i.book.entries c.args.request asked c.serve-answer.result c.adopt.ensures.adopted here grew in
    let mine : h.seat.me.0.parts ≡ parts = ap (λ m. m.0.parts) i.holds in
    let theirs : w.parts ≡ c.args.purse.purse.room + 1 = ap (λ m. m.0.parts) c.into_seat-purse.ensures.seat in
    parts_left h.seat.me c.grow.new.seat.me w here.new parts grown mine (omega arith) (omega (arith, theirs))

pub invariant_of-held : goal.invariant_of-held
invariant_of-held g c =
    let h = c.held.inside in
    let i = c.held.invariant in
    let here = c.serve-answer.ensures.served in
    let w = c.into_seat-purse.result.1.me.0 in
    let parts = h.purse.room + 1 in
    let asked = c.into_seat-purse.result.0 in
    let grew = grew_of h.seat.me c.adopt.new.seat.me c.serve-answer.new.seat.me c.grow.new.seat.me w parts i.book c.args.request asked c.serve-answer.result i.holds c.adopt.ensures.adopted here c.grow.ensures.grown in
    let grown = grown_is h.seat.me c.adopt.new.seat.me c.serve-answer.new.seat.me c.grow.new.seat.me w i.book.entries c.args.request asked c.serve-answer.result c.adopt.ensures.adopted here grew in
    let mine : h.seat.me.0.parts ≡ parts = ap (λ m. m.0.parts) i.holds in
    let theirs : w.parts ≡ c.args.purse.purse.room + 1 = ap (λ m. m.0.parts) c.into_seat-purse.ensures.seat in
    let last = c.free-back.new.seat.me in
    let left = c.free-back.ensures.left in
    let same = old_book h.seat.me c.adopt.new.seat.me c.serve-answer.new.seat.me w parts i.book c.args.request asked c.serve-answer.result (record { keeps = i.holds; joined = c.adopt.ensures.adopted; here = here }) in
    record {
      book = here.new;
      placed = c.free-back.ensures.same.0 ∙ (c.grow.ensures.same.0 ∙ (c.serve-answer.ensures.same.0 ∙ (c.adopt.ensures.same.0 ∙ i.placed)));
      holds = still_holds h.seat.me c.grow.new.seat.me last w here.new parts grown mine left;
      numbered = i.numbered ∙ ap (λ n. n % 2 ^ 64) (sym (still_numbered h.seat.me c.grow.new.seat.me last w here.new grown left));
      opened = opening_stays here.old here.new i.book c.args.request asked c.serve-answer.result same here.served ∙ (i.opened ∙ sym (still_opened h.seat.me c.grow.new.seat.me last w here.new grown left));
    }

pub carried_with-requires : goal.carried_with-requires
carried_with-requires g c =
    let h = c.held.inside in
    let i = c.held.invariant in
    let here = c.serve-answer.ensures.served in
    let w = c.into_seat-purse.result.1.me.0 in
    let parts = h.purse.room + 1 in
    let asked = c.into_seat-purse.result.0 in
    let grew = grew_of h.seat.me c.adopt.new.seat.me c.serve-answer.new.seat.me c.grow.new.seat.me w parts i.book c.args.request asked c.serve-answer.result i.holds c.adopt.ensures.adopted here c.grow.ensures.grown in
    let grown = grown_is h.seat.me c.adopt.new.seat.me c.serve-answer.new.seat.me c.grow.new.seat.me w i.book.entries c.args.request asked c.serve-answer.result c.adopt.ensures.adopted here grew in
    let mine : h.seat.me.0.parts ≡ parts = ap (λ m. m.0.parts) i.holds in
    let theirs : w.parts ≡ c.args.purse.purse.room + 1 = ap (λ m. m.0.parts) c.into_seat-purse.ensures.seat in
    let room = room_stays here.old here.new c.args.request asked c.serve-answer.result here.served ∙ ap (λ p. p.room) c.into_seat-purse.ensures.purse in
    record {
      fits = (
        c.free-back.ensures.back.0 ∙ (c.grow.ensures.same.0 ∙ (c.serve-answer.ensures.same.0 ∙ (c.adopt.ensures.same.0 ∙ i.placed))),
        back_is h.seat.me c.grow.new.seat.me c.free-back.result.me w here.new (c.serve-answer.result.purse.room + 1) grown (theirs ∙ ap (λ n. n + 1) (sym room)) c.free-back.ensures.back.1,
      );
    }

pub returns-clause-grows : goal.returns-clause-grows
returns-clause-grows g c =
    let h = c.held.inside in
    let i = c.held.invariant in
    let here = c.serve-answer.ensures.served in
    let w = c.into_seat-purse.result.1.me.0 in
    let parts = h.purse.room + 1 in
    let asked = c.into_seat-purse.result.0 in
    let grew = grew_of h.seat.me c.adopt.new.seat.me c.serve-answer.new.seat.me c.grow.new.seat.me w parts i.book c.args.request asked c.serve-answer.result i.holds c.adopt.ensures.adopted here c.grow.ensures.grown in
    let grown = grown_is h.seat.me c.adopt.new.seat.me c.serve-answer.new.seat.me c.grow.new.seat.me w i.book.entries c.args.request asked c.serve-answer.result c.adopt.ensures.adopted here grew in
    let mine : h.seat.me.0.parts ≡ parts = ap (λ m. m.0.parts) i.holds in
    let theirs : w.parts ≡ c.args.purse.purse.room + 1 = ap (λ m. m.0.parts) c.into_seat-purse.ensures.seat in
    let same = old_book h.seat.me c.adopt.new.seat.me c.serve-answer.new.seat.me w parts i.book c.args.request asked c.serve-answer.result (record { keeps = i.holds; joined = c.adopt.ensures.adopted; here = here }) in
    let before : h.seat.me.0.front ≡ i.book.entries = ap (λ m. m.0.front) i.holds in
    let after : c.free-back.new.seat.me.0.front ≡ here.new.entries = ap (λ m. m.0.front) c.free-back.ensures.left ∙ ap (λ m. m.0.front) grown in
    let longer = longer_of here.old here.new c.args.request asked c.serve-answer.result here.served in
    let from : IsPrefix h.seat.me.0.front here.new.entries = subst (λ (xs : List Entry). IsPrefix xs here.new.entries) (sym before) (subst (λ p. IsPrefix p.entries here.new.entries) same longer) in
    let shown : h.seat.me.0.front ≡ c.args.held.front = ap (λ (p : SeatedView). p.front) c.held.view_is in
    subst (λ (ys : List Entry). IsPrefix c.args.held.front ys) (sym after) (subst (λ (xs : List Entry). IsPrefix xs here.new.entries) shown from)
