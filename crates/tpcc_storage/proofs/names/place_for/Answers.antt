use Rattle.std.proofs.Common.{rules, not}
use Rattle.std.proofs.lemmas.List.Sorted.{IsPartitionPoint-from_clause}
use Rattle.tpcc_storage.specs.Names.{name_before}
use Rattle.tpcc_storage.proofs.Halves.{place_is_prefix}
use Rattle.tpcc_storage.proofs.Order.{not_after}
use Rattle.tpcc_storage.proofs.Name.{name_order}
use Rattle.tpcc_storage.proofs.names.place_for.Goals as goal

pub returns : goal.returns
returns c =
    place_is_prefix (λ name. not (name_before c.args.added.now name)) c.args.names.now c.partition_point.result c.partition_point.ensures.bound
    (IsPartitionPoint-from_clause (λ name. not (name_before c.args.added.now name)) c.args.names.now c.partition_point.result c.partition_point.ensures.partitioned (not_after name_before name_order c.args.added.now c.args.names.now c.requires.order) (λ a r g k. search rules))
