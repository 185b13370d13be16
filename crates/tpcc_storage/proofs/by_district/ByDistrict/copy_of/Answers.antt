use Rattle.std.proofs.Common.{◌∙◌, ap, sym, slice_get}
use Rattle.std.specs.Option.{option_copied}
use Rattle.tpcc_storage.specs.Internal.ByDistrict.{rows_or_none}
use Rattle.tpcc_storage.proofs.by_district.ByDistrict.copy_of.Goals as goal

pub returns-in_err-part_of : goal.returns-in_err-part_of
unfolding rows_or_none
returns-in_err-part_of g c =
    c.from_residual.ensures
    ∙ ap (λ found. slice_get (rows_or_none (option_copied found)) c.args.place) (sym c.in_err-part_of.was)
    ∙ ap (λ rows. slice_get rows c.args.place) c.part_of.ensures

pub returns : goal.returns
unfolding rows_or_none
returns g c =
    c.get.ensures
    ∙ ap (λ found. slice_get (rows_or_none (option_copied found)) c.args.place) (sym c.in_ok-part_of.was)
    ∙ ap (λ rows. slice_get rows c.args.place) c.part_of.ensures
