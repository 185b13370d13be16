use Rattle.std.proofs.Common.{rules, ◌≡◌, ◌<◌, [], ◌++◌, ◌∙◌, ap, refl, arith, ◌∷◌}
use Rattle.std.proofs.lemmas.Grind.{common_steps}
use Rattle.tpcc_mailbox.specs.Tokens.{client_origin, client_mailbox}
use Rattle.tpcc_mailbox.specs.Internal.Roles.{client_role}
use Rattle.tpcc_mailbox.proofs.Rows.{row_start, row_step, row_end, all_back, all_rest, all_last, all_more, row_first, all_none}
use Rattle.tpcc_mailbox.proofs.ending.gather.gather_clients.Goals as goal

pub loop-client-init : goal.loop-client-init
loop-client-init g c = let is = c.backwards-clients.ensures.items in (
  refl,
  refl,
  refl,
  row_start client_role c.args.all.now.me.0.roles _ _ is,
  all_back (λ x. client_origin x ≡ c.args.shared.now.table_id) _ _ is c.requires.own.0,
  row_first client_mailbox _ _ _ (search rules) is,
  all_none _ _ (search rules),
  grind (arith, common_steps),
)

pub gather_client-mailbox-requires-clause-own : goal.gather_client-mailbox-requires-clause-own
gather_client-mailbox-requires-clause-own g c = (all_last (λ x. client_origin x ≡ c.args.shared.now.table_id) _ _ _ c.in-Some.ensures.items c.loop-client.invariant.4, c.loop-client.invariant.0 ∙ c.requires.own.1)

pub push_reserved-requires : goal.push_reserved-requires
push_reserved-requires g c = grind (arith, common_steps)

pub loop-client-preserved : goal.loop-client-preserved
loop-client-preserved g c = let did = c.gather_client-mailbox.ensures in let was = c.loop-client.invariant in (
  did.seat.0 ∙ was.0,
  did.seat.1 ∙ was.1,
  did.seat.2 ∙ was.2,
  row_step client_role _ _ _ _ _ _ did.roles c.in-Some.ensures.items was.3,
  all_rest (λ x. client_origin x ≡ c.args.shared.now.table_id) _ _ _ c.in-Some.ensures.items was.4,
  row_step client_mailbox _ _ _ _ _ _ (c.push_reserved.ensures.items ∙ ap (λ x. c.loop-client.places.items ++ x ∷ []) did.mailbox.0) c.in-Some.ensures.items was.5,
  all_more (λ x. x < c.args.count) _ _ _ c.push_reserved.ensures.items was.6 did.mailbox.1,
  grind (arith, common_steps),
)

pub returns-clause-seat : goal.returns-clause-seat
returns-clause-seat g c = search rules

pub returns-clause-roles : goal.returns-clause-roles
returns-clause-roles g c = row_end client_role _ _ c.loop-client.clients.items (first_of (search rules, grind (arith, common_steps))) c.loop-client.invariant.3

pub returns-clause-places : goal.returns-clause-places
returns-clause-places g c = row_end client_mailbox _ _ c.loop-client.clients.items (first_of (search rules, grind (arith, common_steps))) c.loop-client.invariant.5

pub returns-clause-within : goal.returns-clause-within
returns-clause-within g c = c.loop-client.invariant.6
