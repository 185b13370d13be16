use Rattle.tpcc_core.proofs.Places.{read_at}
use Rattle.tpcc_core.proofs.Stepping.{answered_by, answered_none, answer_ready, answer_at}
use Rattle.tpcc_core.proofs.desk.Desk.answer.Goals as goal

pub returns-clause-answered : goal.returns-clause-answered
returns-clause-answered g c =
    let k = read_at c.as_slice.result.now c.self.inside.servers.items c.args.server c.in-Some.hand c.index.result.now c.place.result c.as_slice.ensures.value c.place.ensures.place c.in-Some.is c.in-Some.ensures.bound c.index.ensures in
    let l = read_at c.as_slice.result.now c.self.inside.servers.items c.args.server c.in-Some.hand c.index_mut-2.result.now c.place.result c.as_slice.ensures.value c.place.ensures.place c.in-Some.is c.in-Some.ensures.bound c.index_mut-2.ensures.value in
    let m = answer_at c.as_slice-2.result.now c.self.inside.seats.items c.self.inside.servers.items c.in-Some.hand c.in-Some-answer_place.seat c.index.result.now c.index_mut-2.result.now c.index_mut.result.now c.answer_place.result c.as_slice-2.ensures.value k.1 l.1 c.answer_place.ensures.place c.in-Some-answer_place.is c.in-Some-answer_place.ensures.bound c.index_mut.ensures.value in
    rw (← c.self.view_is) (answered_by _ c.args.server c.in-Some.hand c.in-Some-answer_place.seat c.index_mut.result.now c.give_answer.new.seat c.index_mut-2.result.now c.give_answer.new.server c.give_answer.result k.0 l.1 m.0 m.1 c.give_answer.ensures.ready c.give_answer.ensures.given)

pub returns-clause-ready : goal.returns-clause-ready
returns-clause-ready g c =
    let k = read_at c.as_slice.result.now c.self.inside.servers.items c.args.server c.in-Some.hand c.index.result.now c.place.result c.as_slice.ensures.value c.place.ensures.place c.in-Some.is c.in-Some.ensures.bound c.index.ensures in
    let l = read_at c.as_slice.result.now c.self.inside.servers.items c.args.server c.in-Some.hand c.index_mut-2.result.now c.place.result c.as_slice.ensures.value c.place.ensures.place c.in-Some.is c.in-Some.ensures.bound c.index_mut-2.ensures.value in
    let m = answer_at c.as_slice-2.result.now c.self.inside.seats.items c.self.inside.servers.items c.in-Some.hand c.in-Some-answer_place.seat c.index.result.now c.index_mut-2.result.now c.index_mut.result.now c.answer_place.result c.as_slice-2.ensures.value k.1 l.1 c.answer_place.ensures.place c.in-Some-answer_place.is c.in-Some-answer_place.ensures.bound c.index_mut.ensures.value in
    rw (← c.self.view_is) (answer_ready (record { book = c.self.inside.book; first = c.self.inside.first; seats = c.self.inside.seats.items; hands = c.self.inside.servers.items; closed = c.self.inside.closed }) c.args.server c.in-Some.hand c.in-Some-answer_place.seat c.index_mut.result.now c.index_mut-2.result.now _ k.0 l.1 m.0 m.1 c.give_answer.ensures.ready)

pub returns-clause-same : goal.returns-clause-same
returns-clause-same g c =
    let k = read_at c.as_slice.result.now c.self.inside.servers.items c.args.server c.in-Some.hand c.index.result.now c.place.result c.as_slice.ensures.value c.place.ensures.place c.in-Some.is c.in-Some.ensures.bound c.index.ensures in
    let l = read_at c.as_slice.result.now c.self.inside.servers.items c.args.server c.in-Some.hand c.index_mut-2.result.now c.place.result c.as_slice.ensures.value c.place.ensures.place c.in-Some.is c.in-Some.ensures.bound c.index_mut-2.ensures.value in
    let m = answer_at c.as_slice-2.result.now c.self.inside.seats.items c.self.inside.servers.items c.in-Some.hand c.in-Some-answer_place.seat c.index.result.now c.index_mut-2.result.now c.index_mut.result.now c.answer_place.result c.as_slice-2.ensures.value k.1 l.1 c.answer_place.ensures.place c.in-Some-answer_place.is c.in-Some-answer_place.ensures.bound c.index_mut.ensures.value in
    rw (← c.self.view_is) (answered_none _ c.in-Some.hand c.in-Some-answer_place.seat c.index_mut.result.now c.give_answer.new.seat c.index_mut-2.result.now c.give_answer.new.server c.give_answer.result l.1 m.1 c.give_answer.ensures.seat c.give_answer.ensures.server)
