-- What contracts see of the rows of one district.
use Rattle.tpcc_rows.specs.declared.tables.keys.DistrictKey.{DistrictKey}
use Rattle.tpcc_storage.specs.KeptRows.{KeptRows}

pub record DistrictRows (T : Type 0) : Type 0 where
  pub owner : DistrictKey
  pub rows : KeptRows T
