use Rattle.std.proofs.Common.{◌≡◌, ◌∙◌, ◌+◌, ◌-◌, ap, sym, arith, length, remove, suc}
use Rattle.tpcc_storage.specs.Internal.OrderRange.{range}
use Rattle.tpcc_storage.proofs.Range.{length_range, range_first}
use Rattle.tpcc_storage.proofs.by_district.range.OrderRange.pop_first.Goals as goal

pub overflow_add-self : goal.overflow_add-self
overflow_add-self c =
    let size = length_range c.self.inside.first (c.self.inside.next - c.self.inside.first.order) in
    let seen = ap length c.self.view_is in
    omega (arith, size, seen, c.requires, c.self.ranges)

pub invariant_of-self : goal.invariant_of-self
invariant_of-self c =
    let size = length_range c.self.inside.first (c.self.inside.next - c.self.inside.first.order) in
    let seen = ap length c.self.view_is in
    omega (arith, size, seen, c.requires)

pub returns : goal.returns
returns c =
    let first = c.self.inside.first in
    let size = length_range first (c.self.inside.next - first.order) in
    let seen = ap length c.self.view_is in
    let rest = c.self.inside.next - (first.order + 1) in
    let one_more : c.self.inside.next - first.order ≡ suc rest = omega (arith, size, seen, c.requires) in
    range_first first rest ∙ ap (λ n. remove (range first n) 0) (sym one_more) ∙ ap (λ rows. remove rows 0) c.self.view_is
