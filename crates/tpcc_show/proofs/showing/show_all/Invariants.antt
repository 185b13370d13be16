use Rattle.std.proofs.Common.{◌++◌, take}
use Rattle.std.specs.Prelude.{flat_map}
use Rattle.tpcc_text.specs.Prefix.{PassesBytes}
use Rattle.tpcc_show.specs.Shown.{headed_text}
use Rattle.tpcc_show.proofs.showing.show_all.Given as goal

abbrev pub invariant-loop-part : goal.invariant-loop-part
invariant-loop-part g l = PassesBytes (g.W.Write.contents l.fn.out) (g.W.Write.contents l.out) (l.fn.blocks ++ flat_map (headed_text (g.B.ShownBook.text l.book)) (take l.part-index l.parts)) l.blocks
