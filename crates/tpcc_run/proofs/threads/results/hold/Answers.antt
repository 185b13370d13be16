use Rattle.std.proofs.Common.{◌∙◌, ◌∷◌, [], ◌++◌, ap, sym, List}
use Rattle.std.specs.Prelude.{is_ok}
use Rattle.tpcc_turns.specs.Seats.{SeatedView}
use Rattle.tpcc_audit.specs.Settlement.{all_receipts}
use Rattle.tpcc_run.proofs.Joined.{kept_one}
use Rattle.tpcc_run.proofs.Kept.{seen_appended, receipts_pushed}
use Rattle.tpcc_run.proofs.threads.results.hold.Goals as goal

pub returns-clause-seen : goal.returns-clause-seen
returns-clause-seen g c =
    let now = c.push_reserved.ensures.items ∙ ap (λ (ps : List SeatedView). ps ++ c.args.purse ∷ []) c.reserve.ensures.items in
    let pushed = receipts_pushed c.args.kept.now.items c.push.new.self.items c.args.receipts (is_ok c.push.result) c.push.ensures.items in
    seen_appended c.args.purses.now.items c.push_reserved.new.self.items c.args.purse (all_receipts c.args.kept.now.items) c.args.receipts.items (all_receipts c.push.new.self.items) (is_ok c.push.result) c.requires.seen c.requires.receipts now pushed

pub returns-clause-kept : goal.returns-clause-kept
returns-clause-kept g c ok =
    let now = c.push_reserved.ensures.items ∙ ap (λ (ps : List SeatedView). ps ++ c.args.purse ∷ []) c.reserve.ensures.items in
    kept_one c.args.purses.now.items c.push_reserved.new.self.items c.args.purse c.args.kept.now.items c.push.new.self.items c.args.receipts (is_ok c.push.result) now c.push.ensures.items (sym c.is_ok.ensures.value ∙ ok)
