use Rattle.std.proofs.Common.{◌∙◌, ap, sym}
use Rattle.std.specs.Option.{option_copied}
use Rattle.tpcc_rows.specs.Tables.{order_key}
use Rattle.tpcc_tables.proofs.Rising.{in_district, order_rises, last_of}
use Rattle.tpcc_tables.proofs.lookups.districts.newest_order.Goals as goal

pub returns-in-Some : goal.returns-in-Some
returns-in-Some c =
    last_of order_key (λ o. o.id) (in_district c.args.warehouse c.args.district) (order_rises c.args.warehouse c.args.district (in_district c.args.warehouse c.args.district) (λ o e. e)) c.args.rows.now.rows c.orders.result.now _ c.requires.keyed c.orders.ensures
    (sym (ap option_copied c.in-Some.is) ∙ c.last.ensures.value)

pub returns-in-None : goal.returns-in-None
returns-in-None c =
    last_of order_key (λ o. o.id) (in_district c.args.warehouse c.args.district) (order_rises c.args.warehouse c.args.district (in_district c.args.warehouse c.args.district) (λ o e. e)) c.args.rows.now.rows c.orders.result.now _ c.requires.keyed c.orders.ensures
    (sym (ap option_copied c.in-None.is) ∙ c.last.ensures.value)
