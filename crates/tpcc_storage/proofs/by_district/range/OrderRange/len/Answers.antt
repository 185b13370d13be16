use Rattle.std.proofs.Common.{◌∙◌, ◌-◌, ap, sym, length}
use Rattle.tpcc_storage.proofs.Range.{length_range}
use Rattle.tpcc_storage.proofs.by_district.range.OrderRange.len.Goals as goal

pub returns-clause-len : goal.returns-clause-len
returns-clause-len c = sym (length_range c.self.inside.first (c.self.inside.next - c.self.inside.first.order)) ∙ ap length c.self.view_is
