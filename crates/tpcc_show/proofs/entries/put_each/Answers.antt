use Rattle.std.proofs.Common.{◌∙◌, ◌++◌, sym, ap}
use Rattle.std.specs.Prelude.{flat_map, option_map}
use Rattle.tpcc_journal.specs.EntryRefs.{entry_of}
use Rattle.tpcc_text.specs.Prefix.{AppendsPrefix}
use Rattle.tpcc_text.proofs.BlockSteps.{at_fault}
use Rattle.tpcc_show.proofs.Putting.{put_next, cut_next}
use Rattle.tpcc_show.proofs.entries.put_each.Goals as goal

pub returns-in_err-put_screen-clause-part : goal.returns-in_err-put_screen-clause-part
returns-in_err-put_screen-clause-part g c =
    at_fault (AppendsPrefix (g.W.Write.contents c.args.out.now) (g.W.Write.contents c.put_screen.new.out) (c.args.blocks.now ++ flat_map g.T.EntryText.text c.args.journal.now.entries)) c.from_residual.result
    (cut_next g.T.EntryText.text c.args.journal.now.entries c.loop-place.place (entry_of c.in-Some.entry) (g.W.Write.contents c.args.out.now) (g.W.Write.contents c.loop-place.out) (g.W.Write.contents c.put_screen.new.out) c.args.blocks.now c.loop-place.blocks
    (sym c.entry.ensures.entry ∙ ap (option_map entry_of) c.in-Some.is) c.loop-place.invariant (c.in_err-put_screen.ensures.part _ c.make.ensures.text))

pub loop-place-preserved : goal.loop-place-preserved
loop-place-preserved g c =
    put_next g.T.EntryText.text c.args.journal.now.entries c.loop-place.place (entry_of c.in-Some.entry) (g.W.Write.contents c.args.out.now) (g.W.Write.contents c.loop-place.out) (g.W.Write.contents c.put_screen.new.out) c.args.blocks.now c.loop-place.blocks c.put_screen.new.blocks
    (sym c.entry.ensures.entry ∙ ap (option_map entry_of) c.in-Some.is) c.loop-place.invariant (c.in_ok-put_screen.ensures.written _ c.make.ensures.text)
