use Rattle.std.proofs.Common.{◌≡◌, ◌∙◌, ap, sym, arith}
use Rattle.std.specs.Prelude.{position}
use Rattle.tpcc_journal.specs.Internal.Tallies.{is_of, tally_of}
use Rattle.tpcc_journal.proofs.Counts.{raised_count, first_count, listed_count}
use Rattle.tpcc_journal.proofs.tallies.add_one.Goals as goal

pub overflow_add-index_mut : goal.overflow_add-index_mut
overflow_add-index_mut c =
    let at = ap (position (is_of c.args.terminal)) (sym c.as_slice.ensures.value) ∙ sym c.place_of.ensures ∙ c.in-Some.is in
    omega (arith, listed_count c.args.tallies.now.items c.args.terminal c.in-Some.place c.index_mut.result.now at c.index_mut.ensures.value, c.requires.small)

pub returns-in-Some : goal.returns-in-Some
returns-in-Some c =
    let at = ap (position (is_of c.args.terminal)) (sym c.as_slice.ensures.value) ∙ sym c.place_of.ensures ∙ c.in-Some.is in
    record { counted = λ t. raised_count c.args.tallies.now.items c.args.terminal t c.in-Some.place c.index_mut.result.now at c.index_mut.ensures.value }

pub returns-in-None : goal.returns-in-None
returns-in-None c =
    let none = ap (position (is_of c.args.terminal)) (sym c.as_slice.ensures.value) ∙ sym c.place_of.ensures ∙ c.in-None.is in
    record { counted = λ t. ap (tally_of t) c.push_reserved.ensures.items ∙ first_count c.args.tallies.now.items c.args.terminal t none }
