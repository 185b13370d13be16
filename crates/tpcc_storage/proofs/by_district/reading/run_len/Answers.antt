use Rattle.std.proofs.Common.{rules, not, take}
use Rattle.std.proofs.lemmas.List.Sorted.{IsPartitionPoint-from_clause}
use Rattle.tpcc_rows.specs.Lists.{key_before}
use Rattle.tpcc_storage.specs.ByDistrict.{district_numbers}
use Rattle.tpcc_storage.proofs.Read.{not_later_before}
use Rattle.tpcc_storage.proofs.Halves.{in_front, place_is_prefix}
use Rattle.tpcc_storage.proofs.by_district.reading.run_len.Goals as goal

pub returns : goal.returns
returns g c =
    place_is_prefix (λ row. not (key_before (district_numbers c.args.owner) (take 2 (g.T.KeyedRow.key row)))) c.args.rows.now c.partition_point.result c.partition_point.ensures.bound
    (IsPartitionPoint-from_clause (λ row. not (key_before (district_numbers c.args.owner) (take 2 (g.T.KeyedRow.key row)))) c.args.rows.now c.partition_point.result c.partition_point.ensures.partitioned
    (in_front g.T.KeyedRow.key (λ row. not (key_before (district_numbers c.args.owner) (take 2 (g.T.KeyedRow.key row)))) (not_later_before g.T.KeyedRow.key c.args.owner.warehouse c.args.owner.district) c.args.rows.now c.requires.keyed)
    (λ a r g k. search rules))
