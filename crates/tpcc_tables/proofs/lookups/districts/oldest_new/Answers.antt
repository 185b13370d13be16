use Rattle.std.proofs.Common.{◌∙◌, sym, refl, filter}
use Rattle.tpcc_rows.specs.Tables.{new_order_key}
use Rattle.tpcc_tables.proofs.Rising.{waits_in, new_order_rises, first_of}
use Rattle.tpcc_tables.proofs.lookups.districts.oldest_new.Goals as goal

pub returns-in-Some : goal.returns-in-Some
returns-in-Some c =
    first_of new_order_key (λ n. n.order) (waits_in c.args.warehouse c.args.district) (new_order_rises c.args.warehouse c.args.district) c.args.rows.now.rows (filter (waits_in c.args.warehouse c.args.district) c.args.rows.now.rows) _ c.requires.keyed refl
    (sym c.in-Some.is ∙ c.nth_new.ensures)

pub returns-in-None : goal.returns-in-None
returns-in-None c =
    first_of new_order_key (λ n. n.order) (waits_in c.args.warehouse c.args.district) (new_order_rises c.args.warehouse c.args.district) c.args.rows.now.rows (filter (waits_in c.args.warehouse c.args.district) c.args.rows.now.rows) _ c.requires.keyed refl
    (sym c.in-None.is ∙ c.nth_new.ensures)
