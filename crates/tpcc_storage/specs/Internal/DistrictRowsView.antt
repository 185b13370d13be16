-- How the rows of one district are seen, whatever keeps them.
use Rattle.tpcc_storage.specs.declared.by_district.one_district.OneDistrict.TheInside.{Inside}
use Rattle.tpcc_storage.specs.KeptRows.{KeptRows}
use Rattle.tpcc_storage.specs.Internal.DistrictRows.{DistrictRows}

abbrev pub rows_of_part : {T S K : Type 0} → (S → KeptRows T) → Inside T S K → DistrictRows T
rows_of_part kept p = record { owner = p.owner; rows = kept p.rows }
