use Rattle.std.proofs.Common.{◌∙◌, sym, []}
use Rattle.tpcc_core.proofs.Places.{read_at, told_at_place}
use Rattle.tpcc_core.proofs.desk.Desk.collected.Goals as goal

pub returns-in-Some : goal.returns-in-Some
returns-in-Some g c =
    let k = read_at c.as_slice.result.now c.self.inside.seats.items c.args.terminal c.in-Some.seat c.index.result.now c.place.result c.as_slice.ensures.value c.place.ensures.place c.in-Some.is c.in-Some.ensures.bound c.index.ensures in
    rw (← c.self.view_is) (record { collected = c.collected.ensures.collected ∙ sym (told_at_place [] (λ seat. seat.collected) c.self.inside.seats.items c.args.terminal c.in-Some.seat c.index.result.now k.0 k.1) })
