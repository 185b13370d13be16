use Rattle.std.proofs.Common.{◌∙◌, ap, sym, take, arith, slice_index_or}
use Rattle.std.proofs.lemmas.List.{take_all, take_more}
use Rattle.tpcc_rows.specs.Lists.{by_key, inserted, inserted_all, is_ascending}
use Rattle.tpcc_storage.specs.ByDistrict.{has_owner}
use Rattle.tpcc_storage.proofs.Halves.{ascending-so_far, all_at}
use Rattle.tpcc_storage.proofs.Change.{one_more_inserted}
use Rattle.tpcc_storage.proofs.by_district.ByDistrict.append_all.Goals as goal

pub append-requires-clause-keyed : goal.append-requires-clause-keyed
append-requires-clause-keyed g c =
    ap (is_ascending g.T.KeyedRow.key) c.loop-row.invariant.rows ∙ ascending-so_far g.T.KeyedRow.key c.loop-row.row-index c.args.rows.now c.args.self.now.rows c.requires.keyed

pub append-requires-clause-owner : goal.append-requires-clause-owner
append-requires-clause-owner g c =
    ap (λ owners. has_owner owners (g.T.KeyedRow.key c.row-item.result)) c.loop-row.invariant.owners
    ∙ ap (λ row. has_owner c.args.self.now.owners (g.T.KeyedRow.key row)) c.row-item.is
    ∙ all_at (λ row. has_owner c.args.self.now.owners (g.T.KeyedRow.key row)) c.args.rows.now c.loop-row.row-index c.row-item.result c.requires.owners c.loop-row-test.true

pub append-requires-clause-room : goal.append-requires-clause-room
append-requires-clause-room g c = omega (arith, c.requires.room, c.loop-row.invariant.room, c.loop-row-test.true)

pub loop-row-preserved : goal.loop-row-preserved
loop-row-preserved g c = record {
  rows = c.append.ensures.rows
      ∙ ap (inserted (by_key g.T.KeyedRow.key) c.row-item.result) c.loop-row.invariant.rows
      ∙ ap (λ row. inserted (by_key g.T.KeyedRow.key) row (inserted_all (by_key g.T.KeyedRow.key) (take c.loop-row.row-index c.args.rows.now) c.args.self.now.rows)) c.row-item.is
      ∙ one_more_inserted (by_key g.T.KeyedRow.key) (take c.loop-row.row-index c.args.rows.now) (slice_index_or c.args.rows.now c.loop-row.row-index c.row-item.result) c.args.self.now.rows
      ∙ ap (λ news. inserted_all (by_key g.T.KeyedRow.key) news c.args.self.now.rows) (sym (take_more c.args.rows.now c.loop-row.row-index c.row-item.result c.loop-row-test.true));
  owners = c.append.ensures.owners ∙ c.loop-row.invariant.owners;
  room = omega (arith, c.append.ensures.room, c.loop-row.invariant.room);
}

pub returns-clause-rows : goal.returns-clause-rows
returns-clause-rows g c = c.loop-row.invariant.rows ∙ ap (λ news. inserted_all (by_key g.T.KeyedRow.key) news c.args.self.now.rows) (take_all c.loop-row.row-index c.args.rows.now (omega (arith, c.loop-row-test.false)))
