use Rattle.std.proofs.Common.{◌≡◌, ◌∙◌, ◌++◌, ◌∷◌, [], sym, ap, add-one, arith}
use Rattle.tpcc_core.specs.OpeningDesk.{hands_of}
use Rattle.tpcc_core.proofs.new_desk.make_servers.Goals as goal

pub loop-k-init : goal.loop-k-init
loop-k-init g c = record {
  count = c.in_ok-hands.ensures.len;
  room = c.in_ok-hands.ensures.capacity;
  so_far = c.in_ok-hands.ensures.items;
}

pub push_reserved-requires : goal.push_reserved-requires
push_reserved-requires g c = omega (arith, c.loop-k-test.true, c.loop-k.invariant.count, c.loop-k.invariant.room)

pub loop-k-preserved : goal.loop-k-preserved
loop-k-preserved g c = record {
  count = omega (arith, c.push_reserved.ensures.len, c.loop-k.invariant.count);
  room = omega (arith, c.push_reserved.ensures.capacity, c.loop-k.invariant.room);
  so_far = c.push_reserved.ensures.items ∙ (λ i. c.loop-k.invariant.so_far i ++ c.new.ensures i ∷ []) ∙ sym (ap hands_of (add-one c.loop-k.k));
}

pub returns : goal.returns
returns g c =
    let all : c.loop-k.k ≡ c.args.servers = omega (arith, c.loop-k-test.false, c.loop-k.auto.k-end) in
    record { servers = c.loop-k.invariant.so_far ∙ ap hands_of all }
