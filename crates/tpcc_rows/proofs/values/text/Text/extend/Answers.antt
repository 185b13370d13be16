use Rattle.std.proofs.Common.{arith, ap, ◌≤◌, ◌∙◌, sym, subst, ◌++◌, ◌+◌, length, take, drop, length-take-le}
use Rattle.tpcc_rows.specs.Internal.TextView.{IsText}
use Rattle.tpcc_rows.proofs.InPlace.{extended_is_text, shows_added}
use Rattle.tpcc_rows.proofs.values.text.Text.extend.Goals as goal

pub invariant_of-self : goal.invariant_of-self
invariant_of-self g c =
    let text = c.self.inside in
    let is = c.self.invariant in
    let bytes = c.args.bytes.now in
    let long = length-take-le text.len text.bytes (omega (arith, is.fits, is.whole)) in
    let room = subst (λ k. k + length c.args.bytes.now ≤ g.row.N) (ap length (sym c.self.view_is) ∙ long) c.requires.room in
    subst (λ cells. IsText g.row.N (record { bytes = cells; len = text.len + length bytes }))
    (sym (c.write_at.ensures ∙ ap (λ s. (take s text.bytes ++ bytes) ++ drop (s + length bytes) text.bytes) c.from.ensures))
    (extended_is_text g.row.N text bytes room is c.requires.printable)

pub returns : goal.returns
returns g c =
    let text = c.self.inside in
    let bytes = c.args.bytes.now in
    record {
      extended =
          ap (take (text.len + length bytes)) (c.write_at.ensures ∙ ap (λ s. (take s text.bytes ++ bytes) ++ drop (s + length bytes) text.bytes) c.from.ensures)
          ∙ shows_added g.row.N text bytes c.self.invariant
          ∙ ap (λ front. front ++ bytes) c.self.view_is;
    }
