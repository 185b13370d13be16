use Rattle.std.proofs.Common.{rules, ◌≡◌, ◌≤◌, ◌++◌, ◌∙◌, ap, refl, arith, subst}
use Rattle.std.proofs.lemmas.Grind.{common_steps}
use Rattle.atomic_table.specs.Seated.{TableId}
use Rattle.atomic_table.specs.Table.{rest}
use Rattle.tpcc_mailbox.specs.Internal.Roles.{server_role}
use Rattle.tpcc_mailbox.specs.Rule.{splits_of, hand_of, hand_bound}
use Rattle.tpcc_mailbox.proofs.Joins.{returns_server, rest_serving}
use Rattle.tpcc_mailbox.proofs.Rows.{row_start, row_step, row_end, all_back, all_rest, all_last}
use Rattle.tpcc_mailbox.proofs.ending.gather.gather_servings.Goals as goal

pub loop-serving-init : goal.loop-serving-init
loop-serving-init g c = let is = c.backwards-servings.ensures.items in
    (refl, refl, refl, row_start server_role c.args.all.now.me.0.roles _ _ is, all_back (λ x. x.seat.table_id ≡ c.args.shared.now.table_id) _ _ is c.requires.own.0)

pub gather_seat-requires-clause-own : goal.gather_seat-requires-clause-own
gather_seat-requires-clause-own g c = (all_last (λ x. x.seat.table_id ≡ c.args.shared.now.table_id) _ _ _ c.in-Some.ensures.items c.loop-serving.invariant.4, c.loop-serving.invariant.0 ∙ c.requires.own.1)

pub gather_seat-requires-clause-gives : goal.gather_seat-requires-clause-gives
gather_seat-requires-clause-gives g c = let it = c.in-Some.serving in let from = all_last (λ x. x.seat.table_id ≡ c.args.shared.now.table_id) _ _ _ c.in-Some.ensures.items c.loop-serving.invariant.4 in (
  returns_server (λ j a. g.A.Answers.fits (g.A.Answers.label j) a) _ _ _ _ (splits_of it.seat.me.0) (hand_of it.seat.me.0) (ap (λ s. s.me.0.roles) it.serves) (ap (λ s. s.me.1) it.serves) (subst (λ (t : TableId). hand_bound (hand_of it.seat.me.0) ≤ t.slots) from it.inside),
  ap (λ s. rest s.me.1) it.serves ∙ rest_serving (λ j a. g.A.Answers.fits (g.A.Answers.label j) a) (hand_of it.seat.me.0),
)

pub loop-serving-preserved : goal.loop-serving-preserved
loop-serving-preserved g c = let did = c.gather_seat.ensures in let was = c.loop-serving.invariant in let it = c.in-Some.serving in (
  did.seat.0 ∙ was.0,
  did.seat.1 ∙ was.1,
  did.seat.2 ∙ was.2,
  row_step server_role _ _ _ _ _ _ (did.roles ∙ ap (λ s. c.loop-serving.all.me.0.roles ++ s.me.0.roles) it.serves) c.in-Some.ensures.items was.3,
  all_rest (λ x. x.seat.table_id ≡ c.args.shared.now.table_id) _ _ _ c.in-Some.ensures.items was.4,
)

pub returns-clause-seat : goal.returns-clause-seat
returns-clause-seat g c = search rules

pub returns-clause-roles : goal.returns-clause-roles
returns-clause-roles g c = row_end server_role _ _ c.loop-serving.servings.items (first_of (search rules, grind (arith, common_steps))) c.loop-serving.invariant.3
