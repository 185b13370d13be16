use Rattle.std.proofs.Common.{◌≡◌, ◌∙◌, ◌-◌, ap, sym, arith, length, remove, suc}
use Rattle.tpcc_storage.specs.Internal.OrderRange.{range}
use Rattle.tpcc_storage.proofs.Range.{length_range, range_last}
use Rattle.tpcc_storage.proofs.by_district.range.OrderRange.pop_last.Goals as goal

pub overflow_sub-self : goal.overflow_sub-self
overflow_sub-self c =
    let size = length_range c.self.inside.first (c.self.inside.next - c.self.inside.first.order) in
    let seen = ap length c.self.view_is in
    omega (arith, size, seen, c.requires)

pub invariant_of-self : goal.invariant_of-self
invariant_of-self c =
    let size = length_range c.self.inside.first (c.self.inside.next - c.self.inside.first.order) in
    let seen = ap length c.self.view_is in
    omega (arith, size, seen, c.requires)

pub returns : goal.returns
returns c =
    let first = c.self.inside.first in
    let size = length_range first (c.self.inside.next - first.order) in
    let seen = ap length c.self.view_is in
    let rest = c.self.inside.next - 1 - first.order in
    let one_more : c.self.inside.next - first.order ≡ suc rest = omega (arith, size, seen, c.requires) in
    let last : rest ≡ length c.args.self.now - 1 = omega (arith, size, seen, c.requires) in
    range_last first rest ∙ (λ i. remove (range first (sym one_more i)) (last i)) ∙ ap (λ rows. remove rows (length c.args.self.now - 1)) c.self.view_is
