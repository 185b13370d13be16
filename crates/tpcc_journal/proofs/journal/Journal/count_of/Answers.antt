use Rattle.std.proofs.Common.{◌∙◌, ap}
use Rattle.tpcc_rows.specs.Replay.{count_of}
use Rattle.tpcc_journal.specs.Log.{Log}
use Rattle.tpcc_journal.specs.Internal.Tallies.{tally_of}
use Rattle.tpcc_journal.proofs.journal.Journal.count_of.Goals as goal

pub returns : goal.returns
returns c = record {
  count = c.tally_of.ensures
      ∙ ap (tally_of c.args.terminal) c.as_slice.ensures.value
      ∙ c.self.invariant.counted c.args.terminal
      ∙ ap (λ (l : Log). count_of c.args.terminal l.entries) c.self.view_is;
}
