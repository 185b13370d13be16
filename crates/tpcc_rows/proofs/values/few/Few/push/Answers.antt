use Rattle.std.proofs.Common.{arith, ap, ◌∙◌, sym, subst, ◌<◌, ◌+◌, length, length-take-le}
use Rattle.std.specs.Prelude.{slice_set}
use Rattle.tpcc_rows.specs.Internal.FewView.{IsFew}
use Rattle.tpcc_rows.proofs.InPlace.{pushed_is_few}
use Rattle.tpcc_rows.proofs.values.few.Few.push.Goals as goal

pub invariant_of-self : goal.invariant_of-self
invariant_of-self g c =
    let few = c.self.invariant in
    let long = length-take-le c.self.inside.len c.self.inside.items (omega (arith, few.fits, few.whole)) in
    let room = subst (λ k. k < g.row.N) (ap length (sym c.self.view_is) ∙ long) c.requires.room in
    subst (λ at. IsFew g.T.Filler.filler g.row.N (record { items = slice_set c.self.inside.items at c.args.item; len = c.self.inside.len + 1 })) (sym c.from.ensures)
    (pushed_is_few g.T.Filler.filler g.row.N c.self.inside c.args.item room few)
