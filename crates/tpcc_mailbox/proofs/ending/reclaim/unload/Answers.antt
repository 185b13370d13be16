use Rattle.std.proofs.Common.{rules, arith, sym, ap, subst, ◌<◌, ◌∙◌, ◌∷◌, ◌++◌, []}
use lib.ListN.{get_elem?}
use Rattle.std.specs.Slots.{slots_items, slots_len, slots_counts, IsFull}
use Rattle.tpcc_mailbox.specs.Internal.Rule.{word_of}
use Rattle.tpcc_mailbox.proofs.Sorting.{lefts_more, filled_on, emptied_on}
use Rattle.tpcc_mailbox.proofs.Shares.{there}
use Rattle.tpcc_mailbox.proofs.ending.reclaim.unload.Goals as goal

pub loop-k-preserved : goal.loop-k-preserved
loop-k-preserved g c = let took = c.take-slot.ensures.others in let was = c.loop-k.invariant in (
  (λ j a b. filled_on _ _ _ _ took.1 was.0 j a (omega (arith, b, took.2))),
  emptied_on _ _ _ took.1 was.1,
  took.3 ∙ was.2,
  took.2 ∙ was.3,
  took.0 ∙ was.4,
  omega (arith, c.push_reserved.ensures.len, was.5),
  omega (arith, c.push_reserved.ensures.capacity, took.2, was.6),
  lefts_more (slots_items c.args.closed.words) (slots_items c.args.closed.slots) c.loop-k.lefts.items _ c.loop-k.k c.word-word.result c.take-slot.result (sym c.loop-k.lefts.ok.0 ∙ was.5)
      (c.push_reserved.ensures.items ∙ ap (λ x. c.loop-k.lefts.items ++ x ∷ []) c.found_in.ensures.left)
      (ap (λ w. get_elem? (slots_items w) (word_of c.loop-k.k)) (sym was.2) ∙ (ap (get_elem? (slots_items c.loop-k.closed.words)) (sym c.word_index.ensures) ∙ c.word-word.ensures)) (ap (λ l. get_elem? l c.loop-k.k) (sym was.4) ∙ c.take-slot.ensures.value) was.7,
)

pub returns-clause-each : goal.returns-clause-each
returns-clause-each g c k x e = let near = there _ k x e in c.loop-k.invariant.7 k x (omega (arith, near, slots_counts c.args.closed.slots, c.slot_count-k-end.ensures, c.loop-k-test.false)) e

pub word_index-requires : goal.word_index-requires
word_index-requires g c = omega (arith, c.loop-k-test.true, c.slot_count-k-end.ensures, c.requires.full.3)

pub word-word-requires : goal.word-word-requires
word-word-requires g c = let same = c.loop-k.invariant.2 in (
  omega (arith, c.loop-k-test.true, c.slot_count-k-end.ensures, c.word_index.ensures, ap slots_len same, c.requires.full.2),
  subst (λ w. IsFull w) (sym same) c.requires.full.0,
)

pub take-slot-requires : goal.take-slot-requires
take-slot-requires g c = let was = c.loop-k.invariant in
    let within : c.loop-k.k < slots_len c.loop-k.closed.slots = omega (arith, c.loop-k-test.true, c.slot_count-k-end.ensures, was.3) in (within, search (rules, was.0 c.loop-k.k (omega arith) within))

pub push_reserved-requires : goal.push_reserved-requires
push_reserved-requires g c = let was = c.loop-k.invariant in omega (arith, was.5, was.6, was.3, c.loop-k-test.true, c.slot_count-k-end.ensures)

pub free-requires : goal.free-requires
free-requires g c k h = let was = c.loop-k.invariant in was.1 k (omega (arith, h, was.3, c.loop-k-test.false, c.slot_count-k-end.ensures))

pub returns-clause-len : goal.returns-clause-len
returns-clause-len g c = let was = c.loop-k.invariant in omega (arith, was.5, c.loop-k-test.false, c.loop-k.auto.k-end, c.slot_count-k-end.ensures)
