use Rattle.std.proofs.Common.{rules, ◌∙◌, sym}
use Rattle.std.proofs.lemmas.List.Sorted.{IsPartitionPoint-from_clause}
use Rattle.tpcc_rows.specs.Lists.{key_before}
use Rattle.tpcc_storage.proofs.Halves.{place_is_prefix, before_key, some_at, none_at, halves_found, halves_other, halves_past}
use Rattle.tpcc_storage.proofs.search.search_by_halves.Goals as goal

pub returns-in_err-row : goal.returns-in_err-row
returns-in_err-row g c =
    let is = place_is_prefix (λ row. key_before (g.T.KeyedRow.key row) (g.T.KeyedRow.numbers c.args.key.now)) c.args.rows.now c.partition_point-place.result c.partition_point-place.ensures.bound (IsPartitionPoint-from_clause (λ row. key_before (g.T.KeyedRow.key row) (g.T.KeyedRow.numbers c.args.key.now)) c.args.rows.now c.partition_point-place.result c.partition_point-place.ensures.partitioned (before_key g.T.KeyedRow.key (g.T.KeyedRow.numbers c.args.key.now) c.args.rows.now c.requires.keyed) (λ a r h k. search rules)) in
    c.from_residual.ensures ∙ halves_past g.T.KeyedRow.key (g.T.KeyedRow.numbers c.args.key.now) c.args.rows.now c.partition_point-place.result c.requires.keyed is (none_at c.args.rows.now c.partition_point-place.result c.in_err-row.ensures.lookup.0)

pub returns-then-has_key : goal.returns-then-has_key
returns-then-has_key g c =
    let is = place_is_prefix (λ row. key_before (g.T.KeyedRow.key row) (g.T.KeyedRow.numbers c.args.key.now)) c.args.rows.now c.partition_point-place.result c.partition_point-place.ensures.bound (IsPartitionPoint-from_clause (λ row. key_before (g.T.KeyedRow.key row) (g.T.KeyedRow.numbers c.args.key.now)) c.args.rows.now c.partition_point-place.result c.partition_point-place.ensures.partitioned (before_key g.T.KeyedRow.key (g.T.KeyedRow.numbers c.args.key.now) c.args.rows.now c.requires.keyed) (λ a r h k. search rules)) in
    halves_found g.T.KeyedRow.key (g.T.KeyedRow.numbers c.args.key.now) c.args.rows.now c.partition_point-place.result c.in_ok-row.row.now is (some_at c.args.rows.now c.partition_point-place.result c.in_ok-row.row.now c.in_ok-row.ensures.lookup.0 c.in_ok-row.ensures.lookup.1) (sym c.has_key.ensures ∙ c.if-has_key.true)

pub returns : goal.returns
returns g c =
    let is = place_is_prefix (λ row. key_before (g.T.KeyedRow.key row) (g.T.KeyedRow.numbers c.args.key.now)) c.args.rows.now c.partition_point-place.result c.partition_point-place.ensures.bound (IsPartitionPoint-from_clause (λ row. key_before (g.T.KeyedRow.key row) (g.T.KeyedRow.numbers c.args.key.now)) c.args.rows.now c.partition_point-place.result c.partition_point-place.ensures.partitioned (before_key g.T.KeyedRow.key (g.T.KeyedRow.numbers c.args.key.now) c.args.rows.now c.requires.keyed) (λ a r h k. search rules)) in
    halves_other g.T.KeyedRow.key (g.T.KeyedRow.numbers c.args.key.now) c.args.rows.now c.partition_point-place.result c.in_ok-row.row.now c.requires.keyed is (some_at c.args.rows.now c.partition_point-place.result c.in_ok-row.row.now c.in_ok-row.ensures.lookup.0 c.in_ok-row.ensures.lookup.1) (sym c.has_key.ensures ∙ c.if-has_key.false)
