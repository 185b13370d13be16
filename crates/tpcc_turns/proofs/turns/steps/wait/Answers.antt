use Rattle.std.proofs.Common.{◌∙◌, ap, arith}
use mathlib.Core.Option.{none}
use Rattle.atomic_table.specs.Table.{step}
use Rattle.tpcc_turns.proofs.Looks.{looks, look_takes, look_misses}
use Rattle.tpcc_turns.proofs.turns.steps.wait.Goals as goal

pub load-serving-requires : goal.load-serving-requires
load-serving-requires g c =
    let me = c.loop.seat.me in
    let i = c.loop.invariant in
    let r = c.requires in
    (i.0 ∙ r.fits.0, omega (arith, r.fits.1), looks c.args.board.now.key c.args.board.now.table_id.slots c.loop.seat.id me.0 me.1 (step 0 0 0 0 none) r.out.number (ap (λ m. m.0.stage) i.2 ∙ r.out.stage))

pub returns-then-serving-ticket-clause-called : goal.returns-then-serving-ticket-clause-called
returns-then-serving-ticket-clause-called g c = look_takes (step 0 0 0 0 none) c.load-serving.result c.args.ticket c.args.seat.now.me c.loop.seat.me c.load-serving.new.seat.me c.requires.out c.loop.invariant.2 c.if-serving-ticket.true c.load-serving.ensures.2

pub loop-preserved : goal.loop-preserved
loop-preserved g c =
    let i = c.loop.invariant in
    (c.load-serving.ensures.0 ∙ i.0, c.load-serving.ensures.1 ∙ i.1, look_misses (step 0 0 0 0 none) c.load-serving.result c.args.ticket c.args.seat.now.me c.loop.seat.me c.load-serving.new.seat.me c.requires.out i.2 c.if-serving-ticket.false c.load-serving.ensures.2)
