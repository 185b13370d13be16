use Rattle.tpcc_core.specs.Seats.{is_posted}
use Rattle.tpcc_core.specs.Hands.{is_empty}
use Rattle.tpcc_core.proofs.Places.{read_at, test_at_place}
use Rattle.tpcc_core.proofs.Stepping.{taken_at, answered_none}
use Rattle.tpcc_core.proofs.desk.Desk.take.Goals as goal

pub returns : goal.returns
returns g c =
    let k = read_at c.as_slice.result.now c.self.inside.servers.items c.args.server c.in-Some.hand c.index_mut-2.result.now c.place.result c.as_slice.ensures.value c.place.ensures.place c.in-Some.is c.in-Some.ensures.bound c.index_mut-2.ensures.value in
    let l = read_at c.as_slice-2.result.now c.self.inside.seats.items c.args.terminal c.in-Some-place.seat c.index_mut.result.now c.place-2.result c.as_slice-2.ensures.value c.place-2.ensures.place c.in-Some-place.is c.in-Some-place.ensures.bound c.index_mut.ensures.value in
    let empty = test_at_place is_empty c.self.inside.servers.items c.args.server c.in-Some.hand c.index_mut-2.result.now k.0 k.1 in
    let posted = test_at_place (λ seat. is_posted seat.mailbox) c.self.inside.seats.items c.args.terminal c.in-Some-place.seat c.index_mut.result.now l.0 l.1 in
    rw (← c.self.view_is) (record {
      taken = taken_at _ c.args.server c.args.terminal c.in-Some.hand c.in-Some-place.seat c.index_mut.result.now c.take_letter.new.seat c.index_mut-2.result.now c.take_letter.new.server c.take_letter.result k.0 k.1 l.0 l.1 c.take_letter.ensures.ready c.take_letter.ensures.taken;
      ready = rw empty (rw posted c.take_letter.ensures.ready);
      fault = c.take_letter.ensures.fault;
      same = answered_none _ c.in-Some.hand c.in-Some-place.seat c.index_mut.result.now c.take_letter.new.seat c.index_mut-2.result.now c.take_letter.new.server c.take_letter.result k.1 l.1 c.take_letter.ensures.seat c.take_letter.ensures.server;
    })
