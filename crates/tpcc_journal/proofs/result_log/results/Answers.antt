use Rattle.std.proofs.Common.{◌≡◌, ◌∙◌, ◌++◌, ◌/◌, List, length, sym, ap, arith}
use Rattle.std.specs.Option.{option_to_list}
use Rattle.tpcc_rows.specs.declared.transactions.replies.DistrictDelivery.{DistrictDelivery}
use Rattle.tpcc_rows.specs.Replay.{district_deliveries, results_of}
use Rattle.tpcc_journal.proofs.Log.{lines_of, one_more_line}
use Rattle.tpcc_journal.proofs.result_log.results.Goals as goal

pub loop-ten-preserved : goal.loop-ten-preserved
loop-ten-preserved c =
    c.in_ok-add_line.ensures
    ∙ (λ i. c.loop-ten.invariant i ++ option_to_list (c.whole_ticket.ensures i))
    ∙ sym (one_more_line c.as_slice-runs.result.now 0 c.loop-ten.ten c.loop-ten.ten (omega arith))

pub returns : goal.returns
unfolding results_of
returns c =
    let all : c.loop-ten.ten ≡ length c.as_slice-runs.result.now / 10 = omega (arith, c.loop-ten-test.false, c.loop-ten.auto.ten-end) in
    let runs = c.as_slice-runs.ensures.value ∙ c.in_ok-runs.ensures in
    record {
      log = c.loop-ten.invariant
          ∙ ap (lines_of c.as_slice-runs.result.now 0) all
          ∙ ap (λ (rs : List DistrictDelivery). lines_of rs 0 (length rs / 10)) runs;
    }
