use Rattle.std.proofs.Common.{arith}
use Rattle.tpcc_server.proofs.Boxes.{held-called}
use Rattle.tpcc_server.proofs.one_turn.BoxedTurnOneTurn.turn_once.Goals as goal

pub returns : goal.returns
returns g c =
    record {
      turn = c.args.self.turns _ c.args.request c.args.terminal c.args.number c.call_mut.result _ (omega arith) (omega arith) (held-called g.dyn-1.0 _ _ _ _ c.call_mut.new.self c.deref_box_mut-1.ensures.value.1 c.call_mut.ensures.0);
    }
