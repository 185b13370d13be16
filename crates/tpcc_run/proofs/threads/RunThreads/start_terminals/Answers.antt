use Rattle.std.proofs.Common.{◌+◌, ap, length, arith}
use Rattle.tpcc_run.proofs.Started.{added_most, rooms_more, started_more, started_nothing, with_none}
use Rattle.tpcc_run.proofs.threads.RunThreads.start_terminals.Goals as goal

pub loop-number-init : goal.loop-number-init
loop-number-init g c = record {
  rest = with_none c.args.first.now;
  most = omega (arith, ap length c.new-handles.ensures.items);
  all = λ none. started_nothing (λ handle. handle.promise) c.args.self.now.scale c.args.self.now.plan c.new-handles.result.items c.new-handles.ensures.items;
}

pub loop-number-preserved : goal.loop-number-preserved
loop-number-preserved g c = record {
  rest = rooms_more c.args.first.now c.loop-number.first c.start_next.new.first c.loop-number.number 1 (c.loop-number.number + 1) c.loop-number.invariant.rest c.start_next.ensures.rest (omega arith);
  most = added_most c.in-Some.handle c.loop-number.handles.items c.keep_handle.new.handles.items c.loop-number.number c.loop-number.invariant.most c.keep_handle.ensures.added;
  all = started_more (λ handle. handle.promise) c.args.self.now.scale c.args.self.now.plan c.loop-number.number c.in-Some.handle c.loop-number.handles.items c.keep_handle.new.handles.items
      c.loop-number.invariant.most c.loop-number.invariant.all c.in-Some.ensures.promised c.in-Some.ensures.number c.keep_handle.ensures.added;
}
