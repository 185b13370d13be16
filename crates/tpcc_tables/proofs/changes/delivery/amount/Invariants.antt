use Rattle.std.proofs.Common.{◌≡◌, take}
use Rattle.tpcc_money.specs.Amounts.{total}
use Rattle.tpcc_tables.proofs.changes.delivery.amount.Given as goal

abbrev pub invariant-loop-line : goal.invariant-loop-line
invariant-loop-line l = l.sum ≡ total (λ x. x.amount) (take l.line-index l.lines)
