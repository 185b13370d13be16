use Rattle.std.specs.Prelude.{vec_len}
use Rattle.tpcc_run.proofs.Joined.{nothing_left, so_far_nothing, so_far_more, so_far_all}
use Rattle.tpcc_run.proofs.threads.terminal_threads.join_terminals.Goals as goal

pub loop-handle-init : goal.loop-handle-init
loop-handle-init g c = record {
  seen = c.requires.seen;
  before = λ none. none;
  joined = λ none. so_far_nothing (λ handle. handle.promise) c.args.handles.items c.reverse.new.self.items c.args.all.now.purses.items c.args.all.now.receipts.items c.reverse.ensures.items;
}

pub loop-handle-preserved : goal.loop-handle-preserved
loop-handle-preserved g c = record {
  seen = c.take_in.ensures.seen;
  before = λ none. c.loop-handle.invariant.before (c.take_in.ensures.before none);
  joined = λ none. so_far_more (λ handle. handle.promise) c.args.handles.items c.loop-handle.handles.items c.pop.new.self.items c.in-Some.handle c.join.result
      c.args.all.now.purses.items c.args.all.now.receipts.items c.loop-handle.all.purses.items c.loop-handle.all.receipts.items c.take_in.new.self.purses.items c.take_in.new.self.receipts.items
      (c.loop-handle.invariant.joined (c.take_in.ensures.before none)) c.in-Some.ensures.items c.join.ensures (c.take_in.ensures.kept none);
}

pub returns : goal.returns
returns g c = record {
  seen = c.loop-handle.invariant.seen;
  before = c.loop-handle.invariant.before;
  joined = λ none. so_far_all (λ handle. handle.promise) c.args.handles.items c.loop-handle.handles.items c.args.all.now.purses.items c.args.all.now.receipts.items c.loop-handle.all.purses.items c.loop-handle.all.receipts.items
      (c.loop-handle.invariant.joined none) (nothing_left c.loop-handle.handles.items c.pop.new.self.items (vec_len c.loop-handle.handles) c.in_default.ensures.items c.in_default.ensures.rest c.in_default.ensures.cases.0);
}
