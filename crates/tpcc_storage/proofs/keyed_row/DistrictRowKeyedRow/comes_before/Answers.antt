use Rattle.std.proofs.Common.{rules}
use Rattle.tpcc_storage.proofs.keyed_row.DistrictRowKeyedRow.comes_before.Goals as goal

pub returns : goal.returns
returns c = search rules
