use Rattle.std.proofs.Common.{◌+◌, ◌∙◌, ap, length, arith}
use Rattle.tpcc_run.proofs.Started.{rooms_more, servers_more, servers_nothing, some_most, with_none}
use Rattle.tpcc_run.proofs.threads.RunThreads.start_servers.Goals as goal

pub loop-number-init : goal.loop-number-init
loop-number-init g c = record {
  origin = c.requires.origin;
  rest = with_none c.args.first.now;
  most = omega (arith, ap length c.new-handles.ensures.items);
  all = λ none. servers_nothing (λ handle. handle.promise) c.args.first.now c.new-handles.result.items c.new-handles.ensures.items;
}

pub loop-number-preserved : goal.loop-number-preserved
loop-number-preserved g c = record {
  origin = c.split-one.ensures.origin.0 ∙ c.loop-number.invariant.origin;
  rest = rooms_more c.args.first.now c.loop-number.first c.split-purse.new.self c.loop-number.number 1 (c.loop-number.number + 1) c.loop-number.invariant.rest c.split-purse.ensures.rest (omega arith);
  most = some_most c.start_server-started.result c.loop-number.handles.items c.keep_started.new.handles.items c.loop-number.number c.loop-number.invariant.most c.keep_started.ensures.added;
  all = servers_more (λ handle. handle.promise) c.args.first.now c.loop-number.first (c.args.self.now.plan.terminals + 2) c.loop-number.number c.start_server-started.result c.loop-number.handles.items c.keep_started.new.handles.items
      c.loop-number.invariant.rest c.loop-number.invariant.most c.loop-number.invariant.all c.split-purse.result c.start_server-started.ensures.purse c.split-purse.ensures.new c.keep_started.ensures.added;
}
