use Rattle.std.proofs.Common.{ap, arith, refl}
use Rattle.tpcc_storage.specs.KeptRows.{KeptRows}
use Rattle.tpcc_rows.specs.declared.tables.rows.NewOrderRow.{NewOrderRow}
use Rattle.tpcc_storage.proofs.Range.{range_put}
use Rattle.tpcc_storage.proofs.by_district.pending.PendingRowsStoreNewOrderRow.put.Goals as goal

pub returns-then-push-clause-items : goal.returns-then-push-clause-items
returns-then-push-clause-items c =
    range_put c.self.inside.range c.push.new.self c.self.inside.listed.items c.reserve.new.self.items c.args.self.now.items c.args.row (omega (arith, c.len.ensures, c.if-len-eq0.true)) c.reserve.ensures.items (c.if-push.ensures.pushed refl) (c.if-push.ensures.rising refl) (ap (λ (rows : KeptRows NewOrderRow). rows.items) c.self.view_is)
