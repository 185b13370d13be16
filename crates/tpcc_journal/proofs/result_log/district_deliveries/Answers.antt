use Rattle.std.proofs.Common.{◌∙◌, ◌++◌, sym, ap, arith, take, take_all}
use Rattle.std.specs.Option.{option_to_list}
use Rattle.tpcc_rows.specs.Replay.{district_deliveries}
use Rattle.tpcc_journal.proofs.Log.{one_more_run}
use Rattle.tpcc_journal.proofs.result_log.district_deliveries.Goals as goal

pub loop-place-preserved : goal.loop-place-preserved
loop-place-preserved c =
    c.in_ok-add_run.ensures
    ∙ (λ i. c.loop-place.invariant i ++ option_to_list (c.run_at.ensures i))
    ∙ sym (one_more_run c.args.journal.now.entries c.loop-place.place (omega (arith, c.loop-place-test.true)))
