use Rattle.std.proofs.Common.{rules}
use Rattle.std.proofs.lemmas.List.Sorted.{IsPartitionPoint-from_clause}
use Rattle.tpcc_storage.proofs.Halves.{place_is_prefix}
use Rattle.tpcc_storage.proofs.Name.{name_is_before, before_front}
use Rattle.tpcc_storage.proofs.names.start_of.Goals as goal

pub returns-clause-start : goal.returns-clause-start
returns-clause-start c =
    let test = name_is_before c.args.warehouse c.args.district c.args.last.now in
    place_is_prefix test c.args.names.now c.partition_point.result c.partition_point.ensures.bound
    (IsPartitionPoint-from_clause test c.args.names.now c.partition_point.result c.partition_point.ensures.partitioned (before_front c.args.warehouse c.args.district c.args.last.now c.args.names.now c.requires.order) (λ a r h k. search rules))
