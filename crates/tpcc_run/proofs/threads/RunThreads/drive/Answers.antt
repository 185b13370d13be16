use Rattle.std.proofs.Common.{◌≡◌, arith, length, map}
use Rattle.std.specs.Prelude.{None}
use Rattle.tpcc_run.proofs.ComeBack.{all_served}
use Rattle.tpcc_run.proofs.threads.RunThreads.drive.Goals as goal

pub returns : goal.returns
returns g c = record {
  seen = c.join_servers.ensures.seen;
  back = λ none.
      let noted : c.note_started.new.self.fault ≡ None = c.join_servers.ensures.before none in
      let asked : c.run_terminals-all.result.fault ≡ None = c.note_started.ensures.before noted in
      let many : length c.start_servers-handles.result.items ≡ c.args.servers.count =
      omega (arith, c.note_started.ensures.enough noted, c.start_servers-handles.ensures.most, c.len-started.ensures, c.start_servers-handles.result.ok) in
      let purses : c.note_started.new.self.purses.items ≡ c.run_terminals-all.result.purses.items = rw c.note_started.ensures.purses in
      let receipts : c.note_started.new.self.receipts.items ≡ c.run_terminals-all.result.receipts.items = rw c.note_started.ensures.receipts in
      all_served c.args.self.now.scale c.args.self.now.plan c.args.servers.count c.args.first c.start_servers-handles.new.first
      (map (λ handle. handle.promise) c.start_servers-handles.result.items)
      c.run_terminals-all.result.purses.items c.run_terminals-all.result.receipts.items
      c.note_started.new.self.purses.items c.note_started.new.self.receipts.items c.join_servers.new.all.purses.items c.join_servers.new.all.receipts.items
      c.start_servers-handles.ensures.rest (c.start_servers-handles.ensures.all many) (c.run_terminals-all.ensures.back asked) purses receipts (c.join_servers.ensures.joined none);
}
