use Rattle.tpcc_core.specs.Seats.{is_free}
use Rattle.tpcc_core.proofs.Places.{read_at, test_at_place}
use Rattle.tpcc_core.proofs.Stepping.{posted_at, seat_same}
use Rattle.tpcc_core.proofs.desk.Desk.post.Goals as goal

pub returns-in-Some : goal.returns-in-Some
returns-in-Some g c =
    let k = read_at c.as_slice.result.now c.self.inside.seats.items c.args.terminal c.in-Some.seat c.index_mut.result.now c.place.result c.as_slice.ensures.value c.place.ensures.place c.in-Some.is c.in-Some.ensures.bound c.index_mut.ensures.value in
    let free = test_at_place (λ seat. is_free seat.mailbox) c.self.inside.seats.items c.args.terminal c.in-Some.seat c.index_mut.result.now k.0 k.1 in
    rw (← c.self.view_is) (record {
      posted = posted_at _ c.args.terminal c.in-Some.seat c.args.request c.index_mut.result.now c.post.new.self c.post.result k.0 k.1 c.post.ensures.ready c.post.ensures.posted;
      not_ready = rw free c.post.ensures.not_ready;
      ready = rw free c.post.ensures.ready;
      same = seat_same _ c.in-Some.seat c.index_mut.result.now c.post.new.self c.post.result k.1 c.post.ensures.same;
    })
