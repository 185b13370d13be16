use Rattle.std.proofs.Common.{◌∙◌, ◌-◌, ap, sym, refl, filter, slice_get}
use Rattle.tpcc_rows.specs.Tables.{new_order_key}
use Rattle.tpcc_tables.proofs.Rising.{waits_in, new_order_rises, last_of}
use Rattle.tpcc_tables.proofs.lookups.districts.newest_new.Goals as goal

pub returns-in-Some : goal.returns-in-Some
returns-in-Some c =
    let rows = filter (waits_in c.args.warehouse c.args.district) c.args.rows.now.rows in
    last_of new_order_key (λ n. n.order) (waits_in c.args.warehouse c.args.district) (new_order_rises c.args.warehouse c.args.district) c.args.rows.now.rows rows _ c.requires.keyed refl
    (sym c.in-Some.is ∙ c.nth_new.ensures ∙ ap (slice_get rows) (c.saturating_sub-last.ensures ∙ ap (λ n. n - 1) c.count_new.ensures))

pub returns-in-None : goal.returns-in-None
returns-in-None c =
    let rows = filter (waits_in c.args.warehouse c.args.district) c.args.rows.now.rows in
    last_of new_order_key (λ n. n.order) (waits_in c.args.warehouse c.args.district) (new_order_rises c.args.warehouse c.args.district) c.args.rows.now.rows rows _ c.requires.keyed refl
    (sym c.in-None.is ∙ c.nth_new.ensures ∙ ap (slice_get rows) (c.saturating_sub-last.ensures ∙ ap (λ n. n - 1) c.count_new.ensures))
