use Rattle.std.proofs.Common.{rules, [], ◌∷◌}
use Rattle.std.proofs.lemmas.List.Sorted.{IsPartitionPoint-from_clause}
use Rattle.tpcc_rows.specs.Tables.{order_line_key}
use Rattle.tpcc_storage.proofs.Halves.{place_is_prefix, before_key}
use Rattle.tpcc_storage.proofs.Run.{line_before}
use Rattle.tpcc_storage.proofs.by_district.runs.start_of.Goals as goal

pub returns-clause-start : goal.returns-clause-start
returns-clause-start c =
    let test = line_before c.args.warehouse c.args.district c.args.order in
    place_is_prefix test c.args.rows.now c.partition_point.result c.partition_point.ensures.bound
    (IsPartitionPoint-from_clause test c.args.rows.now c.partition_point.result c.partition_point.ensures.partitioned (before_key order_line_key (c.args.warehouse ∷ c.args.district ∷ c.args.order ∷ []) c.args.rows.now c.requires.keyed) (λ a r h k. search rules))
