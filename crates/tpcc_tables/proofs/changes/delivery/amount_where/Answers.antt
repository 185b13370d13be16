use Rattle.std.proofs.Common.{◌+ℤ◌, sym, ap, ◌∙◌, arith}
use Rattle.std.proofs.lemmas.Int.{ints}
use Rattle.std.proofs.lemmas.List.{take_all}
use Rattle.tpcc_money.specs.Amounts.{total}
use Rattle.tpcc_tables.proofs.Deliver.{total_more}
use Rattle.tpcc_tables.proofs.SumLines.{amount_of, amount_at, amounts_chosen}
use Rattle.tpcc_tables.proofs.changes.delivery.amount_where.Goals as goal

pub plus-sum-requires : goal.plus-sum-requires
plus-sum-requires c =
    let a = amount_at c.args.delivered c.args.lines.now c.loop-line.line-index c.line-item.result c.requires.range c.loop-line-test.true c.line-item.is in
    omega (arith, ints, a, c.amount_if.ensures)

pub loop-line-preserved : goal.loop-line-preserved
loop-line-preserved c =
    let a = amount_at c.args.delivered c.args.lines.now c.loop-line.line-index c.line-item.result c.requires.range c.loop-line-test.true c.line-item.is in
    record {
      summed = c.plus-sum.ensures ∙ (λ i. c.loop-line.invariant.summed i +ℤ c.amount_if.ensures i)
          ∙ sym (total_more (amount_of c.args.delivered) c.args.lines.now c.loop-line.line-index c.line-item.result c.loop-line-test.true c.line-item.is);
      low = omega (arith, ints, a, c.amount_if.ensures);
      high = omega (arith, ints, a, c.amount_if.ensures);
    }

pub returns-clause-sum : goal.returns-clause-sum
returns-clause-sum c =
    c.loop-line.invariant.summed ∙ ap (total (amount_of c.args.delivered)) (take_all c.loop-line.line-index c.args.lines.now (omega arith)) ∙ amounts_chosen c.args.delivered c.args.lines.now
