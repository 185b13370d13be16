use Rattle.std.proofs.Common.{◌++◌, take}
use Rattle.std.specs.Prelude.{flat_map}
use Rattle.tpcc_text.specs.Prefix.{PassesBytes}
use Rattle.tpcc_show.proofs.entries.put_each.Given as goal

abbrev pub invariant-loop-place : goal.invariant-loop-place
invariant-loop-place g l = PassesBytes (g.W.Write.contents l.fn.out) (g.W.Write.contents l.out) (l.fn.blocks ++ flat_map g.T.EntryText.text (take l.place l.journal.entries)) l.blocks
