use Rattle.std.proofs.Common.{◌∙◌, sym}
use Rattle.tpcc_laws.proofs.PaymentFacts.{payment_facts}
use Rattle.tpcc_payment.proofs.Preparations.{chosen_is}
use Rattle.tpcc_payment.proofs.Refusal.{copy_is_some, look_up_is_some}
use Rattle.tpcc_payment.proofs.payment_rows.named_rows.Goals as goal

pub unwrap-requires : goal.unwrap-requires
unwrap-requires c =
    let facts = payment_facts c.args.tables.now.rows c.args.payment.now c.well_keyed.ensures.keyed.customers c.requires.accepted in
    look_up_is_some c.warehouse.result _ facts.warehouse c.warehouse.ensures facts.warehouse_is

pub unwrap-requires-2 : goal.unwrap-requires-2
unwrap-requires-2 c =
    let facts = payment_facts c.args.tables.now.rows c.args.payment.now c.well_keyed.ensures.keyed.customers c.requires.accepted in
    look_up_is_some c.district.result _ facts.district c.district.ensures facts.district_is

pub unwrap-requires-3 : goal.unwrap-requires-3
unwrap-requires-3 c = look_up_is_some c.customer.result _ _ c.customer.ensures c.requires.customer

pub returns : goal.returns
returns c =
    record {
      accepted = c.requires.accepted;
      warehouse = copy_is_some _ _ c.unwrap.result c.warehouse.ensures c.unwrap.ensures;
      district = copy_is_some _ _ c.unwrap-2.result c.district.ensures c.unwrap-2.ensures;
      customer = chosen_is c.args.tables.now.rows c.args.payment.now c.unwrap-3.result.now c.requires.accepted (sym c.requires.customer ∙ copy_is_some _ _ c.unwrap-3.result c.customer.ensures c.unwrap-3.ensures);
    }
