use Rattle.std.proofs.Common.{◌≡◌, ◌∙◌, ◌∷◌, ◌++◌, ◌-◌, ◌+◌, [], ap, sym, arith, suc, zero}
use Rattle.std.proofs.lemmas.Bool.Decides.{nat_tests}
use Rattle.tpcc_storage.specs.Internal.OrderRange.{later, range}
use Rattle.tpcc_storage.proofs.Range.{range_more, range_rises}
use Rattle.tpcc_storage.proofs.by_district.range.OrderRange.push.Goals as goal

pub returns-then-self-clause-pushed : goal.returns-then-self-clause-pushed
unfolding range
returns-then-self-clause-pushed c = λ yes.
    let one : c.args.row.order + 1 - c.args.row.order ≡ suc zero = omega arith in
    let none : zero ≡ c.self.inside.next - c.self.inside.first.order = omega (arith, c.if-self.true) in
    ap (range c.args.row) one ∙ ap (λ n. range c.self.inside.first n ++ c.args.row ∷ []) none ∙ ap (λ rows. rows ++ c.args.row ∷ []) c.self.view_is

pub returns-then-self-clause-rising : goal.returns-then-self-clause-rising
returns-then-self-clause-rising c = λ yes. range_rises c.args.row (c.args.row.order + 1 - c.args.row.order)

pub returns-clause-pushed : goal.returns-clause-pushed
returns-clause-pushed c = λ yes.
    let first = c.self.inside.first in
    let count = c.self.inside.next - first.order in
    let more : c.self.inside.next + 1 - first.order ≡ suc count = omega (arith, c.self.invariant) in
    let next : first.order + count ≡ c.self.inside.next = omega (arith, c.self.invariant) in
    let order : c.args.row.order ≡ c.self.inside.next = grind (arith, nat_tests, c.ne.ensures, c.if-ne.false) in
    let district : c.args.row.district ≡ first.district = grind (arith, nat_tests, c.ne.ensures, c.if-ne.false) in
    let warehouse : c.args.row.warehouse ≡ first.warehouse = grind (arith, nat_tests, c.ne.ensures, c.if-ne.false) in
    let follows : later first count ≡ c.args.row = λ i. record { order = (next ∙ sym order) i; district = sym district i; warehouse = sym warehouse i } in
    ap (range first) more ∙ range_more first count ∙ ap (λ row. range first count ++ row ∷ []) follows ∙ ap (λ rows. rows ++ c.args.row ∷ []) c.self.view_is

pub returns-clause-rising : goal.returns-clause-rising
returns-clause-rising c = λ yes. range_rises c.self.inside.first (c.self.inside.next + 1 - c.self.inside.first.order)
