-- Purses put together one by one.
use Rattle.std.proofs.Common.{◌≡◌, ◌∙◌, ◌+◌, List, [], ◌∷◌, ◌++◌, refl, ap, arith, Some}
use Rattle.std.specs.Prelude.{◌+ℤ◌, Option}
use Rattle.std.specs.Option.{option_to_list}
use Rattle.std.proofs.lemmas.Int.{ints}
use Rattle.std.proofs.lemmas.List.Sums.{sum_by-append}
use Rattle.tpcc_book.specs.Purses.{PurseView, PoolView, pool_of, pool_with}
use Rattle.tpcc_book.specs.Serve.{rooms_of, entries_of, paid_of}
use Rattle.tpcc_book.specs.Internal.Pooling.{AreAll}

rooms_push : (purses : List PurseView) (p : PurseView) → rooms_of (purses ++ p ∷ []) ≡ rooms_of purses + (p.room + 1)
rooms_push purses p =
    let one : rooms_of (p ∷ []) ≡ 0 + (p.room + 1) = refl in
    omega (arith, one, sum_by-append (λ (h : PurseView). h.room + 1) purses (p ∷ []))

entries_push : (purses : List PurseView) (p : PurseView) → entries_of (purses ++ p ∷ []) ≡ entries_of purses + p.entries
entries_push purses p =
    let one : entries_of (p ∷ []) ≡ 0 + p.entries = refl in
    omega (arith, one, sum_by-append (λ (h : PurseView). h.entries) purses (p ∷ []))

paid_push : (purses : List PurseView) (p : PurseView) → paid_of (purses ++ p ∷ []) ≡ paid_of purses +ℤ p.paid
paid_push [] p = omega (arith, ints)
paid_push (q ∷ purses) p = omega (arith, ints, paid_push purses p)

-- the last one of a list, and the rest of it
pub popped_is : {X : Type 0} (all rest : List X) (popped : Option X) (x : X) → all ≡ rest ++ option_to_list popped → popped ≡ Some x → all ≡ rest ++ x ∷ []
popped_is {X} all rest popped x split is = split ∙ ap (λ (o : Option X). rest ++ option_to_list o) is

pub first_pooled : (purses rest : List PurseView) (pool : PoolView) (p : PurseView) → purses ≡ rest ++ p ∷ [] → pool ≡ pool_of p → AreAll purses pool rest
first_pooled purses rest pool p same one =
    record {
      rooms = omega (arith, rooms_push rest p, ap rooms_of same, ap (λ (q : PoolView). q.parts) one);
      entries = omega (arith, entries_push rest p, ap entries_of same, ap (λ (q : PoolView). q.entries) one);
      paid = omega (arith, ints, paid_push rest p, ap paid_of same, ap (λ (q : PoolView). q.paid) one);
    }

pub one_more_pooled : (purses rest left : List PurseView) (pool now : PoolView) (p : PurseView) → AreAll purses pool rest → rest ≡ left ++ p ∷ [] → now ≡ pool_with pool p → AreAll purses now left
one_more_pooled purses rest left pool now p before same more =
    record {
      rooms = omega (arith, before.rooms, rooms_push left p, ap rooms_of same, ap (λ (q : PoolView). q.parts) more);
      entries = omega (arith, before.entries, entries_push left p, ap entries_of same, ap (λ (q : PoolView). q.entries) more);
      paid = omega (arith, ints, before.paid, paid_push left p, ap paid_of same, ap (λ (q : PoolView). q.paid) more);
    }
