use Rattle.std.proofs.Common.{◌∙◌, sym, None}
use Rattle.tpcc_core.specs.Seats.{purse_at}
use Rattle.tpcc_core.proofs.Places.{read_at, told_at_place}
use Rattle.tpcc_core.proofs.desk.Desk.purse.Goals as goal

pub returns-in-Some : goal.returns-in-Some
returns-in-Some g c =
    let k = read_at c.as_slice.result.now c.self.inside.seats.items c.args.terminal c.in-Some.seat c.index.result.now c.place.result c.as_slice.ensures.value c.place.ensures.place c.in-Some.is c.in-Some.ensures.bound c.index.ensures in
    rw (← c.self.view_is) (record { purse = c.purse.ensures.purse ∙ sym (told_at_place None (λ seat. purse_at seat.mailbox) c.self.inside.seats.items c.args.terminal c.in-Some.seat c.index.result.now k.0 k.1) })
