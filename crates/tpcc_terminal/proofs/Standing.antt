-- Receipts stand in a journal that grows.
use Rattle.std.proofs.Common.{◌≡◌, ℕ, zero, suc, ◌-◌, List, [], ◌∷◌, ◌++◌, length, slice_index_or, refl, sym, ap, ◌∙◌, subst, Some, arith}
use Rattle.std.specs.Prelude.{Option, None, Result, Ok, Err, MatchResult, slice_get}
use Rattle.std.specs.Result.{ForOk, ForErr}
use Rattle.std.proofs.lemmas.List.{append-nil}
use Rattle.std.proofs.lemmas.List.Elements.{All-append}
use mathlib.Core.List.{IsPrefix}
use Rattle.tpcc_rows.specs.declared.transactions.entry.Entry.{Entry}
use Rattle.tpcc_rows.specs.declared.transactions.requests.Request.{Request}
use Rattle.tpcc_rows.specs.declared.transactions.replies.Reply.{Reply}
use Rattle.tpcc_rows.specs.declared.transactions.refusals.Refusal.{Refusal}
use Rattle.tpcc_rows.specs.Replay.{paid_by_request}
use Rattle.tpcc_book.specs.Past.{Past}
use Rattle.tpcc_book.specs.Purses.{PurseView}
use Rattle.tpcc_book.specs.AnswerView.{AnswerView}
use Rattle.tpcc_book.specs.Turn.{Accepts, Refuses, entry_of}
use Rattle.tpcc_book.specs.Serve.{IsServed, purse_after}
use Rattle.tpcc_turns.specs.Seats.{SeatedView, IsTurned, by_purse}
use Rattle.tpcc_terminal.specs.declared.receipts.Receipt.{Receipt}
use Rattle.tpcc_terminal.specs.Receipts.{receipts_at, receipts_of, entry_of_receipt, Stands, AllStand}

read_before : (xs ys : List Entry) (k : ℕ) (e : Entry) → slice_get xs k ≡ Some e → slice_get (xs ++ ys) k ≡ Some e
read_before [] ys k e h = absurd (cc h)
read_before (x ∷ xs) ys zero e h = h
read_before (x ∷ xs) ys (suc k) e h = read_before xs ys k e h

read_last : (xs : List Entry) (e : Entry) → slice_get (xs ++ e ∷ []) (length xs) ≡ Some e
read_last [] e = refl
read_last (x ∷ xs) e = read_last xs e

pub stay : (entries longer : List Entry) (receipts : List Receipt) → IsPrefix entries longer → AllStand entries receipts → AllStand longer receipts
stay entries longer receipts begins stood =
    λ k d h.
    let r = slice_index_or receipts k d in
    record { at = subst (λ (xs : List Entry). slice_get xs r.place ≡ Some (entry_of_receipt r)) begins.1 (read_before entries begins.0 r.place (entry_of_receipt r) (stood k d h).at) }

-- the journal after a turn begins with the one before it
entries_grow : (old new : Past) (terminal number : ℕ) (request : Request) (place : Option ℕ) (outcome : Result Reply Refusal)
    → ForOk outcome (Accepts old terminal number request place new) → ForErr outcome (Refuses old terminal number request place new) → IsPrefix old.entries new.entries
entries_grow old new terminal number request place (Ok reply) ok err =
    subst (λ (p : Past). IsPrefix old.entries p.entries) (sym (ok reply refl).new_is) (entry_of old terminal number request ∷ [], refl)
entries_grow old new terminal number request place (Err refusal) ok err =
    subst (λ (p : Past). IsPrefix old.entries p.entries) (sym (err refusal refl).same) ([], append-nil old.entries)

none_stand : (entries : List Entry) → AllStand entries []
none_stand entries = λ k d h. absurd (omega (arith, h))

one_stands : (entries : List Entry) (r : Receipt) → Stands entries r → AllStand entries (r ∷ [])
one_stands entries r h zero d below = h
one_stands entries r h (suc k) d below = absurd (omega (arith, below))

-- the entry of an accepted request stands at the place that was told
own_stands : (old new : Past) (request asked : Request) (purse after : PurseView) (outcome : Result Reply Refusal) (place : Option ℕ)
    → asked ≡ request → ForOk outcome (Accepts old purse.terminal purse.entries request place new)
    → MatchResult outcome (λ reply. after ≡ purse_after purse (paid_by_request request)) (λ refusal. after ≡ purse)
    → AllStand new.entries (receipts_at after asked outcome place)
own_stands old new request asked purse after (Err refusal) place same ok fits = none_stand new.entries
own_stands old new request asked purse after (Ok reply) None same ok fits = none_stand new.entries
own_stands old new request asked purse after (Ok reply) (Some k) same ok fits =
    let a = ok reply refl in
    let e = entry_of old purse.terminal purse.entries request in
    let r : Receipt = record { terminal = after.terminal; number = after.entries - 1; place = k; request = asked; reply = reply } in
    let at : k ≡ length old.entries = cc a.place_is in
    let number : after.entries - 1 ≡ purse.entries = ap (λ (h : PurseView). h.entries - 1) fits ∙ omega arith in
    let is : e ≡ entry_of_receipt r = λ i. record { terminal = sym (ap (λ (h : PurseView). h.terminal) fits) i; number = sym number i; request = sym same i; reply = sym a.reply_is i } in
    let read : slice_get new.entries k ≡ Some e =
    (λ i. slice_get (a.new_is i).entries (at i)) ∙ read_last old.entries e in
    one_stands new.entries r (record { at = read ∙ ap Some is })

pub served_stand : (old new : Past) (request : Request) (purse : PurseView) (answer : AnswerView PurseView) (receipts : List Receipt)
    → IsServed old request purse answer new → AllStand old.entries receipts → AllStand new.entries (receipts ++ receipts_of (λ p. p) answer)
served_stand old new request purse answer receipts served stood =
    All-append (Stands new.entries) receipts (receipts_of (λ (p : PurseView). p) answer)
    (stay old.entries new.entries receipts (entries_grow old new purse.terminal purse.entries request answer.place answer.outcome served.turn.accepts served.turn.refuses) stood)
    (own_stands old new request answer.request purse answer.purse answer.outcome answer.place served.fits.request_is served.turn.accepts served.fits.purse_is)

pub turned_stand : (request : Request) (purse : SeatedView) (answer : AnswerView SeatedView) (receipts : List Receipt)
    → IsTurned request purse answer → AllStand purse.front receipts → AllStand answer.purse.front (receipts ++ receipts_of (λ p. p.purse) answer)
turned_stand request purse answer receipts turned stood =
    let before = stay purse.front turned.old.entries receipts turned.begins stood in
    let after = served_stand turned.old turned.new request purse.purse (by_purse answer) receipts turned.served before in
    subst (λ (xs : List Entry). AllStand xs (receipts ++ receipts_of (λ (p : SeatedView). p.purse) answer)) (sym turned.seen) after
