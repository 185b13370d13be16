-- Seats joined into one.
use Rattle.std.proofs.Common.{◌≡◌, ◌∙◌, suc, List, [], ◌∷◌, ◌++◌, refl, sym, ap, subst, arith}
use Rattle.std.proofs.lemmas.List.Elements.{All-same, All-push}
use mathlib.Core.List.{IsPrefix, map-append}
use Rattle.tpcc_rows.specs.declared.transactions.entry.Entry.{Entry}
use Rattle.tpcc_book.specs.Purses.{PoolView, pool_of, pool_with}
use Rattle.tpcc_turns.specs.Seats.{SeatedView, purses_of}
use Rattle.tpcc_turns.specs.Internal.Seats.{view_of}
use Rattle.tpcc_turns.specs.Internal.Gathering.{HasSeen, AllBegin, HasJoined}
use Rattle.tpcc_turns.specs.Internal.Shares.{both_of, heard_of}
use Rattle.tpcc_turns.specs.Knows.{Knows}
use Rattle.tpcc_book.proofs.Gathers.{first_pooled, one_more_pooled}

purses_push : (all rest : List SeatedView) (p : SeatedView) → all ≡ rest ++ p ∷ [] → purses_of all ≡ purses_of rest ++ p.purse ∷ []
purses_push all rest p same = ap purses_of same ∙ map-append (λ (q : SeatedView). q.purse) rest (p ∷ [])

begin_push : (log : List Entry) (all rest : List SeatedView) (p : SeatedView) → all ≡ rest ++ p ∷ [] → AllBegin rest log → IsPrefix p.front log → AllBegin all log
begin_push log all rest p same begin front =
    let P = λ (q : SeatedView). IsPrefix q.front log in
    All-same P all (rest ++ p ∷ []) same (All-push P rest p begin front)

-- one seat, and one purse in the pool
pub first_joined : (purses rest : List SeatedView) (pool : PoolView) (v : Knows) (p : SeatedView) → purses ≡ rest ++ p ∷ [] → pool ≡ pool_of p.purse → v ≡ view_of p → HasJoined purses rest pool v
first_joined purses rest pool v p same one is =
    record {
      idle = ap (λ (k : Knows). k.stage) is;
      parts = ap (λ (k : Knows). k.parts) is ∙ sym (ap (λ (q : PoolView). q.parts) one);
      some_part = omega (arith, ap (λ (q : PoolView). q.parts) one);
      fronts = λ log seen begin. begin_push log purses rest p same begin (subst (λ (k : Knows). IsPrefix k.front log) is seen.front);
      shares = first_pooled (purses_of purses) (purses_of rest) pool p.purse (purses_push purses rest p same) one;
    }

-- what it had seen before is told with what the other had
seen_by_both : (log : List Entry) (v : Knows) (p : SeatedView) → HasSeen (both_of v (view_of p)) log → HasSeen v log
seen_by_both log v p s = record { front = s.front; told = λ x k at. s.told x (suc k) at }

seen_by_other : (log : List Entry) (v : Knows) (p : SeatedView) → HasSeen (both_of v (view_of p)) log → IsPrefix p.front log
seen_by_other log v p s = s.told (heard_of (view_of p)) 0 refl

-- one more seat, and one more purse in the pool
pub one_more_joined : (purses rest left : List SeatedView) (pool now : PoolView) (v both : Knows) (p : SeatedView) → HasJoined purses rest pool v → rest ≡ left ++ p ∷ [] → now ≡ pool_with pool p.purse → both ≡ both_of v (view_of p) → HasJoined purses left now both
one_more_joined purses rest left pool now v both p before same more is =
    record {
      idle = ap (λ (k : Knows). k.stage) is ∙ before.idle;
      parts = omega (arith, ap (λ (k : Knows). k.parts) is, before.parts, ap (λ (q : PoolView). q.parts) more);
      some_part = omega (arith, before.some_part, ap (λ (q : PoolView). q.parts) more);
      fronts = λ log seen begin.
          let s = subst (λ (k : Knows). HasSeen k log) is seen in
          before.fronts log (seen_by_both log v p s) (begin_push log rest left p same begin (seen_by_other log v p s));
      shares = one_more_pooled (purses_of purses) (purses_of rest) (purses_of left) pool now p.purse before.shares (purses_push rest left p same) more;
    }
