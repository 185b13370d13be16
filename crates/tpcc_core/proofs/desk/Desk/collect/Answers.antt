use Rattle.std.proofs.Common.{◌∙◌, sym}
use Rattle.tpcc_core.specs.Seats.{is_answered}
use Rattle.tpcc_core.proofs.Places.{read_at, test_at_place}
use Rattle.tpcc_core.proofs.Stepping.{collected_at, seat_same}
use Rattle.tpcc_core.proofs.desk.Desk.collect.Goals as goal

pub returns-in-Some : goal.returns-in-Some
returns-in-Some g c =
    let k = read_at c.as_slice.result.now c.self.inside.seats.items c.args.terminal c.in-Some.seat c.index_mut.result.now c.place.result c.as_slice.ensures.value c.place.ensures.place c.in-Some.is c.in-Some.ensures.bound c.index_mut.ensures.value in
    rw (← c.self.view_is) (record {
      collected = collected_at _ c.args.terminal c.in-Some.seat c.index_mut.result.now c.collect.new.self c.collect.result k.0 k.1 c.collect.ensures.ready c.collect.ensures.collected;
      ready = c.collect.ensures.ready ∙ sym (test_at_place (λ seat. is_answered seat.mailbox) c.self.inside.seats.items c.args.terminal c.in-Some.seat c.index_mut.result.now k.0 k.1);
      fault = c.collect.ensures.fault;
      same = seat_same _ c.in-Some.seat c.index_mut.result.now c.collect.new.self c.collect.result k.1 c.collect.ensures.same;
    })
