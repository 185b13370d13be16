use Rattle.std.proofs.Common.{◌∙◌, ap, sym, ◌∷◌, [], ◌++◌, append_assoc}
use Rattle.tpcc_run.proofs.Joined.{none_before, servers_step}
use Rattle.tpcc_run.proofs.threads.server_threads.join_servers.Goals as goal

pub loop-handle-preserved : goal.loop-handle-preserved
loop-handle-preserved g c = record {
  can = tt;
  finite = tt;
  whole = c.loop-handle.invariant.whole ∙ ap (λ hs. c.loop-handle.yielded ++ hs) c.in-Some.ensures.steps.0 ∙ sym (append_assoc c.loop-handle.yielded (c.in-Some.handle ∷ []) _);
  seen = c.keep.ensures.seen;
  before = λ none. c.loop-handle.invariant.before (none_before c.loop-handle.all.fault c.keep.new.self.fault c.keep.ensures.noted none);
  joined = λ none. servers_step (λ handle. handle.promise) c.loop-handle.yielded c.in-Some.handle c.join.result c.new.result.items
      c.args.all.now.purses.items c.args.all.now.receipts.items c.loop-handle.all.purses.items c.loop-handle.all.receipts.items c.keep.new.self.purses.items c.keep.new.self.receipts.items
      (c.loop-handle.invariant.joined (none_before c.loop-handle.all.fault c.keep.new.self.fault c.keep.ensures.noted none)) c.join.ensures c.new.ensures.items (c.keep.ensures.kept none);
}
