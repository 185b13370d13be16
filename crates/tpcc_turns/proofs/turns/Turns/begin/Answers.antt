use Rattle.std.proofs.Common.{◌≡◌, ℕ, ◌+◌, ◌%◌, ◌^◌, [], ◌∷◌, ap, sym, ◌∙◌, subst}
use Rattle.std.specs.Prelude.{Option, List, Some}
use Rattle.tpcc_rows.specs.declared.transactions.entry.Entry.{Entry}
use mathlib.Core.List.{IsPrefix}
use Rattle.atomic_table.specs.Seated.{TableId}
use Rattle.atomic_table.specs.Table.{Me}
use Rattle.atomic_table.specs.declared.shared.Seat.{Seat}
use Rattle.tpcc_population.specs.declared.opening.Opening.{Opening}
use Rattle.tpcc_book.specs.Past.{Past}
use Rattle.tpcc_book.specs.Purses.{PurseView}
use Rattle.tpcc_turns.specs.Knows.{Knows, Holds}
use Rattle.tpcc_turns.specs.Knows.{knows}
use Rattle.tpcc_turns.specs.Internal.TurnSteps.{HasTaken}
use Rattle.tpcc_turns.specs.Seats.{SeatedView, keeper_of}
use Rattle.tpcc_turns.specs.Internal.Seats.{view_of, number_of, IsHeldTurn}
use Rattle.tpcc_turns.proofs.turns.Turns.begin.Goals as goal

keeper_is : (purse : PurseView) (start : Opening) (p : SeatedView) → purse ≡ p.purse → start ≡ p.start → keeper_of p ≡ record { purse = purse; start = start }
keeper_is purse start p e f = λ i. record { purse = sym e i; start = sym f i }

-- a turn whose book was taken just now is a turn that is kept
held_of : (table : TableId) (seat : Seat (Option Past) Knows) (purse : PurseView) (ticket : ℕ) (me : Me (Option Past) Knows) (p : SeatedView)
    → purse ≡ p.purse → me ≡ (view_of p, []) → seat.table_id ≡ table → HasTaken me ticket seat.me → IsHeldTurn table seat (purse.room + 1) ticket
held_of table seat purse ticket me p own is placed taken =
    let start : seat.me.0.start ≡ me.0.start = ap (λ (m : Me (Option Past) Knows). m.0.start) taken.now_is in
    let number : number_of seat.me.0.stage ≡ taken.number = ap (λ (m : Me (Option Past) Knows). number_of m.0.stage) taken.now_is in
    let parts : me.0.parts ≡ purse.room + 1 = ap (λ (m : Me (Option Past) Knows). m.0.parts) is ∙ ap (λ (q : PurseView). q.room + 1) (sym own) in
    let told : me.0.told ≡ [] = ap (λ (m : Me (Option Past) Knows). m.0.told) is in
    record {
      book = taken.book;
      placed = placed;
      holds = taken.now_is ∙ (λ i. (knows (sym start i) taken.book.entries (parts i) (Holds (sym number i) taken.book.entries) (told i), (0, Some taken.book) ∷ []));
      numbered = taken.ticket_is ∙ ap (λ n. n % 2 ^ 64) (sym number);
      opened = taken.opening ∙ sym start;
    }

pub returns-clause-keeper : goal.returns-clause-keeper
returns-clause-keeper g c =
    let start = ap (λ (m : Me (Option Past) Knows). m.0.start) c.take-ticket.ensures.taken.now_is ∙ ap (λ (m : Me (Option Past) Knows). m.0.start) c.into_seat-purse.ensures.seat in
    sym (keeper_is c.into_seat-purse.result.0 c.take-ticket.new.seat.me.0.start c.args.purse c.into_seat-purse.ensures.purse start)

pub returns-clause-begins : goal.returns-clause-begins
returns-clause-begins g c =
    let taken = c.take-ticket.ensures.taken in
    let front : c.take-ticket.new.seat.me.0.front ≡ taken.book.entries = ap (λ (m : Me (Option Past) Knows). m.0.front) taken.now_is in
    subst (λ (xs : List Entry). IsPrefix c.args.purse.front xs) (sym front) (subst (λ (m : Me (Option Past) Knows). IsPrefix m.0.front taken.book.entries) c.into_seat-purse.ensures.seat taken.begins)

pub invariant_of-result : goal.invariant_of-result
invariant_of-result g c =
    held_of g.T.Seating.table c.take-ticket.new.seat c.into_seat-purse.result.0 c.take-ticket.result c.into_seat-purse.result.1.me c.args.purse c.into_seat-purse.ensures.purse c.into_seat-purse.ensures.seat (c.take-ticket.ensures.same.0 ∙ c.into_seat-purse.ensures.table) c.take-ticket.ensures.taken
