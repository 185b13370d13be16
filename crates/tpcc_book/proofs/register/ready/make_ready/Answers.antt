use Rattle.std.proofs.Common.{rules}
use Rattle.tpcc_book.specs.Internal.Ready.{state_of, room_in}
use Rattle.tpcc_book.proofs.Decides.{ready-told, refusal-told, memory-told}
use Rattle.tpcc_book.proofs.register.ready.make_ready.Goals as goal

pub returns-in_err-prepared-clause-refused : goal.returns-in_err-prepared-clause-refused
returns-in_err-prepared-clause-refused c =
    let told =
    (refusal-told (state_of c.args.tables.now c.args.queue.now) c.args.journal.now.entries c.args.terminal c.args.number c.args.request.now c.journal_refusal.result c.prepare-prepared.result _
    c.journal_refusal.ensures c.in_err-prepared.ensures c.prepare-prepared.ensures.accepted c.prepare-prepared.ensures.refused) in
    search (rules, told)

pub returns-clause-ready : goal.returns-clause-ready
returns-clause-ready c =
    ready-told (state_of c.args.tables.now c.args.queue.now) c.args.journal.now.entries c.args.terminal c.args.number c.args.request.now (room_in c.prepare-prepared.new.tables c.prepare-prepared.new.queue) c.journal_refusal.result c.prepare-prepared.result c.in_ok-prepared.prepared
    c.journal_refusal.ensures c.in_ok-prepared.ensures c.prepare-prepared.ensures.ready c.prepare-prepared.ensures.accepted c.prepare-prepared.ensures.room

pub returns-in_err-copy-clause-refused : goal.returns-in_err-copy-clause-refused
returns-in_err-copy-clause-refused c =
    let told =
    (memory-told _
    (ready-told (state_of c.args.tables.now c.args.queue.now) c.args.journal.now.entries c.args.terminal c.args.number c.args.request.now (room_in c.prepare-prepared.new.tables c.prepare-prepared.new.queue) c.journal_refusal.result c.prepare-prepared.result c.in_ok-prepared.prepared
    c.journal_refusal.ensures c.in_ok-prepared.ensures c.prepare-prepared.ensures.ready c.prepare-prepared.ensures.accepted c.prepare-prepared.ensures.room).accepted) in
    search (rules, told)

pub returns-in_err-reserve_entry-clause-refused : goal.returns-in_err-reserve_entry-clause-refused
returns-in_err-reserve_entry-clause-refused c =
    let told =
    (memory-told _
    (ready-told (state_of c.args.tables.now c.args.queue.now) c.args.journal.now.entries c.args.terminal c.args.number c.args.request.now (room_in c.prepare-prepared.new.tables c.prepare-prepared.new.queue) c.journal_refusal.result c.prepare-prepared.result c.in_ok-prepared.prepared
    c.journal_refusal.ensures c.in_ok-prepared.ensures c.prepare-prepared.ensures.ready c.prepare-prepared.ensures.accepted c.prepare-prepared.ensures.room).accepted) in
    search (rules, told)
