-- Receipts that stand in the fronts of purses.
use Rattle.std.proofs.Common.{◌≡◌, ℕ, zero, suc, List, [], ◌∷◌, slice_index_or, subst, Some, arith, All}
use Rattle.std.specs.Prelude.{slice_get, Option, None, IfSome}
use Rattle.std.proofs.lemmas.List.Elements.{All-head, All-tail}
use mathlib.Core.List.{IsPrefix}
use Rattle.tpcc_rows.specs.declared.transactions.entry.Entry.{Entry}
use Rattle.tpcc_population.specs.declared.opening.Opening.{Opening}
use Rattle.tpcc_book.specs.Past.{Past}
use Rattle.tpcc_turns.specs.Closing.{IsLeft}
use Rattle.tpcc_turns.specs.Seats.{SeatedView}
use Rattle.tpcc_terminal.specs.declared.receipts.Receipt.{Receipt}
use Rattle.tpcc_terminal.specs.Receipts.{Stands, AllStand}
use Rattle.tpcc_audit.specs.Settlement.{AllSeen, IsUnsettled}

-- what holds of all holds of the one at a place
at_place : {X : Type 0} (P : X → Type 0) (xs : List X) (k : ℕ) (x : X) → All P xs → slice_get xs k ≡ Some x → P x
at_place {X} P [] k x all at = absurd (cc at)
at_place {X} P (y ∷ ys) zero x all at = subst P (some_of y x at) (All-head P y ys all)
  where
    some_of : (a b : X) → Some a ≡ Some b → a ≡ b
    some_of a b e = cc
at_place {X} P (y ∷ ys) (suc k) x all at = at_place P ys k x (All-tail P y ys all) at

one : (front : List Entry) (r : Receipt) → Stands front r → AllStand front (r ∷ [])
one front r h zero d below = h
one front r h (suc k) d below = absurd (omega (arith, below))

abbrev pub Stay : Type 0
Stay = (entries longer : List Entry) (receipts : List Receipt) → IsPrefix entries longer → AllStand entries receipts → AllStand longer receipts

-- they stand in a journal that begins with each front
pub seen_stand : Stay → (purses : List SeatedView) (journal : List Entry) (receipts : List Receipt) → AllSeen purses receipts → All (λ p. IsPrefix p.front journal) purses → AllStand journal receipts
seen_stand stay purses journal receipts seen begin k d below =
    let s = seen k d below in
    let r = slice_index_or receipts k d in
    let begins = at_place (λ (p : SeatedView). IsPrefix p.front journal) purses s.place s.purse begin s.there in
    stay s.purse.front journal (r ∷ []) begins (one s.purse.front r s.stands) zero r (omega arith)

-- also where a purse is missing
pub left_stand : Stay → (start : Opening) (purses : List SeatedView) (receipts : List Receipt) (book : Option Past) → AllSeen purses receipts → IfSome book (IsLeft start purses) → IfSome book (IsUnsettled start purses receipts)
left_stand stay start purses receipts None seen left = tt
left_stand stay start purses receipts (Some book) seen left =
    record { left = left; stand = seen_stand stay purses book.entries receipts seen left.begins }
