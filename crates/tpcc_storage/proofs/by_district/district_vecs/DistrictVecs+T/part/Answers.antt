use Rattle.std.proofs.Common.{◌∙◌, ap, sym}
use Rattle.std.specs.Option.{option_copied}
use Rattle.tpcc_storage.specs.Internal.ByDistrict.{rows_or_none}
use Rattle.tpcc_storage.proofs.by_district.district_vecs.DistrictVecs+T.part.Goals as goal

pub returns-in-Some : goal.returns-in-Some
unfolding rows_or_none
returns-in-Some g c =
    c.as_slice.ensures.value ∙ ap (λ found. rows_or_none (option_copied found)) (sym c.in-Some.is) ∙ c.part_of.ensures

pub returns-in-None : goal.returns-in-None
unfolding rows_or_none
returns-in-None g c =
    ap (λ found. rows_or_none (option_copied found)) (sym c.in-None.is) ∙ c.part_of.ensures
