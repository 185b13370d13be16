use Rattle.std.proofs.Common.{◌∙◌, ◌+◌, sym, ap, subst}
use Rattle.std.specs.Prelude.{ℤ, ◌+ℤ◌, FitsSigned}
use Rattle.std.specs.Int.{w64}
use Rattle.tpcc_rows.specs.declared.tables.rows.OrderLineRow.{OrderLineRow}
use Rattle.tpcc_tables.proofs.Deliver.{total_more}
use Rattle.tpcc_tables.proofs.changes.delivery.amount.Goals as goal

pub plus-sum-requires : goal.plus-sum-requires
plus-sum-requires c =
    subst (FitsSigned w64)
    (total_more (λ (l : OrderLineRow). l.amount) c.args.lines.now c.loop-line.line-index c.line-item.result c.loop-line-test.true c.line-item.is
    ∙ ap (λ (s : ℤ). s +ℤ c.line-item.result.amount) (sym c.loop-line.invariant))
    (c.requires.fits (c.loop-line.line-index + 1))

pub loop-line-preserved : goal.loop-line-preserved
loop-line-preserved c =
    c.plus-sum.ensures
    ∙ ap (λ (s : ℤ). s +ℤ c.line-item.result.amount) c.loop-line.invariant
    ∙ sym (total_more (λ (l : OrderLineRow). l.amount) c.args.lines.now c.loop-line.line-index c.line-item.result c.loop-line-test.true c.line-item.is)
