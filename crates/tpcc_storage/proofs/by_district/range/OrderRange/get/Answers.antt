use Rattle.std.proofs.Common.{◌∙◌, ◌-◌, ap, sym, arith, slice_get}
use Rattle.tpcc_storage.proofs.Range.{get_range, get_past}
use Rattle.tpcc_storage.proofs.by_district.range.OrderRange.get.Goals as goal

pub returns-then-place-self : goal.returns-then-place-self
returns-then-place-self c = sym (get_past c.self.inside.first (c.self.inside.next - c.self.inside.first.order) c.args.place (omega arith)) ∙ ap (λ rows. slice_get rows c.args.place) c.self.view_is

pub returns : goal.returns
returns c = sym (get_range c.self.inside.first (c.self.inside.next - c.self.inside.first.order) c.args.place (omega arith)) ∙ ap (λ rows. slice_get rows c.args.place) c.self.view_is
