use Rattle.tpcc_server.proofs.one_turn.BoxedTurn.new.Goals as goal

pub invariant_of-result : goal.invariant_of-result
invariant_of-result g c =
    record {
      takes = c.requires.takes;
      turns = λ register request terminal number made left small less post. c.requires.turns register request terminal number made left small less (record { ptr = c.args.call.ptr; vtable = c.args.call.vtable; alloc = c.args.call.alloc; value = post.0 }, post.1);
    }
