use Rattle.std.proofs.Common.{arith, ◌≡◌, ◌++◌, ◌+◌, sym, subst}
use Rattle.std.specs.Prelude.{None}
use Rattle.tpcc_tables.specs.Positions.{row_at, lent_row}
use Rattle.tpcc_show.specs.Dump.{records_text}
use Rattle.tpcc_show.specs.Internal.Dump.{records_from}
use Rattle.tpcc_show.specs.Internal.Output.{HasTakenText}
use Rattle.tpcc_show.proofs.Row.{one_record, no_record}
use Rattle.tpcc_show.proofs.table_dump.dumping.take_rows.Goals.{in-Some+in_ok-put_row+in_ok-put, in_default}
use Rattle.tpcc_show.proofs.table_dump.dumping.take_rows.Goals as goal

pub loop-place-preserved : goal.loop-place-preserved
loop-place-preserved c = λ text before. elim c.match-row.branch [
  | in-Some+in_ok-put_row+in_ok-put w ↦
      let place = sym (rw w.in-Some.is at c.row.ensures) in
      let written = text ++ records_text (records_from c.args.tables.now.rows c.args.table c.args.from c.loop-place.place) in
      let more = w.in_ok-put.ensures written (c.loop-place.invariant text before) in
      let next = one_record c.args.tables.now.rows c.args.table c.args.from c.loop-place.place (lent_row w.in-Some.row) text place in
      rw (w.writer-is, sym next, sym w.in_ok-put_row.ensures) more
  | in_default w ↦
      let place : row_at c.args.tables.now.rows c.args.table (c.args.from + c.loop-place.place) ≡ None = sym (rw w.in_default.is at c.row.ensures) in
      let same = no_record c.args.tables.now.rows c.args.table c.args.from c.loop-place.place place in
      rw (w.writer-is, same) (c.loop-place.invariant text before)
]

pub returns : goal.returns
returns c = λ text before.
    let all : c.loop-place.place ≡ c.args.count = omega (arith, c.loop-place.auto.place-end, c.loop-place-test.false) in
    subst (λ n. HasTakenText (text ++ records_text (records_from c.args.tables.now.rows c.args.table c.args.from n)) c.loop-place.writer) all (c.loop-place.invariant text before)
