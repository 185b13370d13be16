use Rattle.std.proofs.Common.{rules, not}
use Rattle.std.proofs.lemmas.List.Sorted.{IsPartitionPoint-from_clause}
use Rattle.tpcc_rows.specs.Lists.{by_key}
use Rattle.tpcc_storage.proofs.Halves.{place_is_prefix, not_after}
use Rattle.tpcc_storage.proofs.insertion.search_by_halves.Goals as goal

pub returns : goal.returns
returns g c =
    place_is_prefix (λ row. not (by_key g.T.KeyedRow.key c.args.added.now row)) c.args.rows.now c.partition_point.result c.partition_point.ensures.bound
    (IsPartitionPoint-from_clause (λ row. not (by_key g.T.KeyedRow.key c.args.added.now row)) c.args.rows.now c.partition_point.result c.partition_point.ensures.partitioned (not_after g.T.KeyedRow.key (g.T.KeyedRow.key c.args.added.now) c.args.rows.now c.requires.keyed) (λ a r g k. search rules))
