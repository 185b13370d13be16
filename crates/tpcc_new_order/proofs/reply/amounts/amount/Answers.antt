use Rattle.std.proofs.Common.{sym, subst, ◌≤ℤ◌, pos}
use Rattle.tpcc_new_order.proofs.OrderLines.{price_tells, amount_tells}
use Rattle.tpcc_new_order.proofs.reply.amounts.amount.Goals as goal
use Rattle.tpcc_rows.specs.declared.limits.TheConstants.{GREATEST_LINE_AMOUNT}

pub line_amount-requires-clause-price : goal.line_amount-requires-clause-price
line_amount-requires-clause-price c = price_tells c.args.item.now c.requires.item

pub returns-clause-low : goal.returns-clause-low
returns-clause-low c = subst (λ z. pos 0 ≤ℤ z) (sym c.line_amount.ensures) (amount_tells c.args.item.now c.args.line.now.quantity c.requires.item c.requires.quantity).0

pub returns-clause-high : goal.returns-clause-high
returns-clause-high c = subst (λ z. z ≤ℤ GREATEST_LINE_AMOUNT) (sym c.line_amount.ensures) (amount_tells c.args.item.now c.args.line.now.quantity c.requires.item c.requires.quantity).1
