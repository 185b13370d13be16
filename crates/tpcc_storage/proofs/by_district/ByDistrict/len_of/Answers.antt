use Rattle.std.proofs.Common.{◌∙◌, ap, sym, length}
use Rattle.std.specs.Option.{option_copied}
use Rattle.tpcc_storage.specs.Internal.ByDistrict.{rows_or_none}
use Rattle.tpcc_storage.proofs.by_district.ByDistrict.len_of.Goals as goal

pub returns-in-Some : goal.returns-in-Some
unfolding rows_or_none
returns-in-Some g c =
    c.len.ensures ∙ ap (λ found. length (rows_or_none (option_copied found))) (sym c.in-Some.is) ∙ ap length c.part_of.ensures

pub returns-in-None : goal.returns-in-None
unfolding rows_or_none
returns-in-None g c =
    ap (λ found. length (rows_or_none (option_copied found))) (sym c.in-None.is) ∙ ap length c.part_of.ensures
