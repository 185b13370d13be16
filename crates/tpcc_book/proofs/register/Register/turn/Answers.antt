use Rattle.std.proofs.Common.{subst, sym}
use Rattle.tpcc_book.specs.Past.{IsKept}
use Rattle.tpcc_book.specs.Internal.Ready.{state_of}
use Rattle.tpcc_book.proofs.Keeps.{after-kept, turn_is_made, same-state, KeepLaws, PayLaws}
use Rattle.tpcc_book.proofs.register.Register.turn.Goals as goal

pub invariant_of-self-2 : goal.invariant_of-self-2
invariant_of-self-2 c =
    let keeps : KeepLaws = record { sound = c.turn_keeps.ensures; one_more = c.journal_grows.ensures.replay; stays_faithful = c.journal_grows.ensures.faithful } in
    let pays : PayLaws = record { rises = c.turn_pays.ensures.rises; least = c.turn_pays.ensures.least; most = c.turn_pays.ensures.most } in
    let state = state_of c.self.inside.tables c.self.inside.queue in
    let entries = c.self.inside.journal.entries in
    let same = same-state c.make_ready.new.tables.rows c.self.inside.tables.rows c.make_ready.new.queue.tickets c.self.inside.queue.tickets c.make_ready.ensures.rows c.make_ready.ensures.tickets in
    let together =
    turn_is_made c.self.inside.opening state (state_of c.make_ready.new.tables c.make_ready.new.queue) (state_of c.commit-reply.new.tables c.commit-reply.new.queue)
    entries c.make_ready.new.journal.entries c.commit-reply.new.journal.entries c.args.terminal c.args.number c.args.request c.in-Ok.ready.copy
    same c.make_ready.ensures.entries c.in-Ok.ensures.copy c.commit-reply.ensures.state c.commit-reply.ensures.entries in
    let kept =
    subst IsKept (sym together)
    (after-kept keeps pays (record { opening = c.self.inside.opening; state = state; entries = entries }) c.args.terminal c.args.number c.args.request
    c.moment_in_range.ensures.moment c.self.invariant.kept c.in-Ok.ensures.ready.accepted) in
    record { kept = kept; opening_sum = c.self.invariant.opening_sum }
