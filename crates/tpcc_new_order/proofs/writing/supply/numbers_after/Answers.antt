use Rattle.std.proofs.Common.{◌∙◌, sym, ap, subst, arith}
use Rattle.std.specs.Prelude.{fold}
use Rattle.std.proofs.lemmas.List.{take_all}
use Rattle.tpcc_new_order.specs.Internal.Supplied.{numbers_of, numbers_after_line, IsNear}
use Rattle.tpcc_new_order.proofs.Supplies.{near_start, numbers_in_turn}
use Rattle.tpcc_new_order.proofs.writing.supply.numbers_after.Goals as goal

pub loop-line-init : goal.loop-line-init
loop-line-init c = record { numbers = c.numbers_of-numbers.ensures; near = subst (IsNear 0) (sym c.numbers_of-numbers.ensures) (near_start c.args.row.now c.requires.row) }

pub returns : goal.returns
returns c =
    c.loop-line.invariant.numbers
    ∙ ap (fold (numbers_after_line c.args.home c.args.row.now) (numbers_of c.args.row.now)) (take_all c.loop-line.line-index c.args.lines.now (omega (arith, c.loop-line-test.false)))
    ∙ numbers_in_turn c.args.home c.args.row.now c.args.lines.now
