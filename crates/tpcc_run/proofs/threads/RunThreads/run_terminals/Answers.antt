use Rattle.std.proofs.Common.{◌≡◌, [], arith, length, map}
use Rattle.std.specs.Prelude.{None}
use Rattle.tpcc_run.proofs.ComeBack.{all_asked_with}
use Rattle.tpcc_run.proofs.Joined.{none_before}
use Rattle.tpcc_run.proofs.threads.RunThreads.run_terminals.Goals as goal

pub returns : goal.returns
returns g c = record {
  seen = c.keep.ensures.seen;
  back = λ none.
      let ran : c.join_runner.new.all.fault ≡ None = none_before c.join_runner.new.all.fault c.keep.new.self.fault c.keep.ensures.noted none in
      let joined : c.join_terminals.new.all.fault ≡ None = c.join_runner.ensures.before ran in
      let noted : c.note_started.new.self.fault ≡ None = c.join_terminals.ensures.before joined in
      let many : length c.start_terminals-terminals.result.items ≡ c.args.self.now.plan.terminals =
      omega (arith, c.note_started.ensures.enough noted, c.start_terminals-terminals.ensures.most, c.len.ensures, c.start_terminals-terminals.result.ok) in
      let purses : c.note_started.new.self.purses.items ≡ [] = rw (c.note_started.ensures.purses, c.new-all.ensures.purses) in
      let receipts : c.note_started.new.self.receipts.items ≡ [] = rw (c.note_started.ensures.receipts, c.new-all.ensures.receipts) in
      all_asked_with c.args.self.now.scale c.args.self.now.plan (λ handle. handle.promise) c.args.first c.start_next-runner.new.first c.start_terminals-terminals.new.first c.start_next-runner.result
      (map (λ handle. handle.promise) c.start_terminals-terminals.result.items) c.new.result.items
      c.note_started.new.self.purses.items c.note_started.new.self.receipts.items c.join_terminals.new.all.purses.items c.join_terminals.new.all.receipts.items
      c.join_runner.new.all.purses.items c.join_runner.new.all.receipts.items c.keep.new.self.purses.items c.keep.new.self.receipts.items
      purses receipts c.start_next-runner.ensures.rest (c.start_terminals-terminals.ensures.rest many)
      (c.join_runner.ensures.made ran) c.start_next-runner.ensures.promised c.start_next-runner.ensures.number (c.start_terminals-terminals.ensures.all many)
      (c.join_terminals.ensures.joined joined) (c.join_runner.ensures.joined ran) c.new.ensures.items (c.keep.ensures.kept none);
}
