use Rattle.std.proofs.Common.{◌∙◌, subst}
use Rattle.std.specs.Prelude.{IfSome}
use Rattle.std.specs.Slots.{slots_items}
use Rattle.tpcc_population.specs.declared.opening.Opening.{Opening}
use Rattle.tpcc_turns.specs.Closing.{IsLeft}
use Rattle.tpcc_turns.proofs.Closes.{closes_alone, closes_joined, is_there, gathers, leaves, all_where_ok, ok_where_all}
use Rattle.tpcc_turns.proofs.turns.Turns.gather.Goals as goal

pub returns-in_default-clause-left : goal.returns-in_default-clause-left
returns-in_default-clause-left g c =
    let told = closes_alone c.self.inside.table.shared.key (slots_items c.close.result.words) (slots_items c.close.result.slots) c.home_of.result c.args.purses.items c.close.ensures.values.2 c.home_of.ensures.told c.in_default.ensures.none in
    subst (λ (start : Opening). IfSome c.home_of.result (IsLeft start c.args.purses.items)) c.self.view_is told

pub returns-clause-exactly : goal.returns-clause-exactly
returns-clause-exactly g c =
    let j = c.in-Some.ensures.joined in
    let key = c.self.inside.table.shared.key in
    let words = slots_items c.close_with.result.words in
    let slots = slots_items c.close_with.result.slots in
    let told = c.home_of-2.result in
    let left = closes_joined key c.in-Some.seat.id c.in-Some.seat.me.0 words slots told c.args.purses.items c.in-Some.pool c.close_with.ensures.values.2 c.home_of-2.ensures.told j in
    let there = is_there key c.in-Some.seat.id c.in-Some.seat.me.0 words slots told c.close_with.ensures.values.2 c.home_of-2.ensures.told j.idle in (
      all_where_ok key c.args.purses.items c.in-Some.pool told j.shares left c.audit_book.result c.audit_book.ensures.all,
      ok_where_all key c.args.purses.items c.in-Some.pool told j.shares left c.audit_book.result c.audit_book.ensures.few (λ all. there (j.parts ∙ all)),
    )

pub returns-clause-gathered : goal.returns-clause-gathered
returns-clause-gathered g c =
    let j = c.in-Some.ensures.joined in
    let told = c.home_of-2.result in
    let left = closes_joined c.self.inside.table.shared.key c.in-Some.seat.id c.in-Some.seat.me.0 (slots_items c.close_with.result.words) (slots_items c.close_with.result.slots) told c.args.purses.items c.in-Some.pool c.close_with.ensures.values.2 c.home_of-2.ensures.told j in
    let left' = subst (λ (start : Opening). IfSome told (IsLeft start c.args.purses.items)) c.self.view_is left in
    gathers c.args.self c.args.purses.items c.in-Some.pool told j.shares left' c.audit_book.result c.audit_book.ensures.all c.audit_book.ensures.audited

pub returns-clause-left : goal.returns-clause-left
returns-clause-left g c =
    let j = c.in-Some.ensures.joined in
    let told = c.home_of-2.result in
    let left = closes_joined c.self.inside.table.shared.key c.in-Some.seat.id c.in-Some.seat.me.0 (slots_items c.close_with.result.words) (slots_items c.close_with.result.slots) told c.args.purses.items c.in-Some.pool c.close_with.ensures.values.2 c.home_of-2.ensures.told j in
    let left' = subst (λ (start : Opening). IfSome told (IsLeft start c.args.purses.items)) c.self.view_is left in
    leaves c.args.self c.args.purses.items c.in-Some.pool told j.shares left' c.audit_book.result c.audit_book.ensures.missing
