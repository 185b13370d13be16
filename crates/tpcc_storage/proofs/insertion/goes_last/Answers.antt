use Rattle.std.proofs.Common.{◌∙◌, sym, ap, not}
use Rattle.std.specs.Option.{option_copied}
use Rattle.tpcc_storage.proofs.Halves.{all_in_front}
use Rattle.tpcc_storage.proofs.insertion.goes_last.Goals as goal

pub returns-in-Some : goal.returns-in-Some
returns-in-Some g c =
    λ last. all_in_front g.T.KeyedRow.key (g.T.KeyedRow.key c.args.added.now) c.args.rows.now c.in-Some.last.now c.requires.keyed (sym c.last.ensures.value ∙ ap option_copied c.in-Some.is) (ap not (sym c.comes_before.ensures) ∙ last)
