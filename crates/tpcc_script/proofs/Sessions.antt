-- A session between two requests.
use Rattle.std.proofs.Common.{◌≡◌, ◌∙◌, sym, refl, ap, subst, ℕ, ◌+◌, List, [], ◌∷◌, ◌++◌, arith}
use Rattle.std.specs.Prelude.{Bool, cond, Option, Some, Result, Ok, Err, ◌==◌, true}
use Rattle.std.proofs.lemmas.List.Sums.{sum_by_push}
use Rattle.std.proofs.lemmas.Bool.Decides.{nat_tests}
use Rattle.tpcc_rows.specs.declared.transactions.entry.Entry.{Entry}
use Rattle.tpcc_rows.specs.declared.transactions.requests.Request.{Request}
use Rattle.tpcc_rows.specs.declared.transactions.refusals.Refusal.{Refusal}
use Rattle.tpcc_rows.specs.declared.transactions.replies.Reply.{Reply}
use Rattle.tpcc_rows.specs.Replay.{count_of}
use Rattle.tpcc_rows.specs.Turn.{reply_to}
use Rattle.tpcc_population.specs.declared.opening.Opening.{Opening}
use Rattle.tpcc_book.specs.Past.{Past, opening_past}
use Rattle.tpcc_book.specs.Purses.{PurseView}
use Rattle.tpcc_book.specs.AnswerView.{AnswerView}
use Rattle.tpcc_book.specs.Serve.{IsServed}
use Rattle.tpcc_script.specs.ScriptBook.{terminal}
use Rattle.tpcc_text.specs.declared.script.fault.ScriptFault.{ScriptFault}
use Rattle.tpcc_text.specs.Script.{Script}
use Rattle.tpcc_script.specs.Run.{HasRun, IsCounted}
use Rattle.tpcc_script.specs.Session.{opened_book, book_of}
use Rattle.tpcc_script.specs.Internal.Session.{IsAtHand}

-- one more entry of the terminal
count-push : (t : ℕ) (entries : List Entry) (e : Entry) → e.terminal ≡ t → count_of t (entries ++ e ∷ []) ≡ count_of t entries + 1
count-push t entries e own =
    let is : (e.terminal == t) ≡ true = grind (arith, nat_tests) in
    sum_by_push (λ x. cond (x.terminal == t) 1 0) entries e ∙ ap (λ (b : Bool). count_of t entries + cond b 1 0) is

at_hand-by : (old new : Past) (purse : PurseView) (request asked : Request) (o : Result Reply Refusal) (place : Option ℕ) (after : PurseView)
    → purse.terminal ≡ terminal → purse.entries ≡ count_of terminal old.entries
    → IsServed old request purse (record { request = asked; outcome = o; place = place; purse = after }) new → IsAtHand new (Some after)
at_hand-by old new purse request asked (Ok reply) place after own all served =
    let accepts = served.turn.accepts reply refl in
    let grown = served.fits.purse_is in
    let counted = count-push terminal old.entries (record { terminal = purse.terminal; number = purse.entries; request = request; reply = reply_to old.state request }) own in
    record {
      purse = after;
      held_is = refl;
      terminal_is = ap (λ (p : PurseView). p.terminal) grown ∙ own;
      entries = ap (λ (p : PurseView). p.entries) grown ∙ ap (λ n. n + 1) all ∙ sym counted ∙ ap (λ (p : Past). count_of terminal p.entries) (sym accepts.new_is);
    }
at_hand-by old new purse request asked (Err r) place after own all served =
    let refuses = served.turn.refuses r refl in
    let same = served.fits.purse_is in
    record {
      purse = after;
      held_is = refl;
      terminal_is = ap (λ (p : PurseView). p.terminal) same ∙ own;
      entries = ap (λ (p : PurseView). p.entries) same ∙ all ∙ ap (λ (p : Past). count_of terminal p.entries) (sym refuses.same);
    }

-- the purse comes back with every entry of its terminal
pub at_hand : (old new : Past) (purse : PurseView) (request : Request) (answer : AnswerView PurseView)
    → purse.terminal ≡ terminal → purse.entries ≡ count_of terminal old.entries
    → IsServed old request purse answer new → IsAtHand new (Some answer.purse)
at_hand old new purse request answer own all served =
    at_hand-by old new purse request answer.request answer.outcome answer.place answer.purse own all served

same-held : (a b : PurseView) → Some a ≡ Some b → a ≡ b
same-held a b h = cc

-- the purse that was taken out made each entry of its terminal, and so did the one that is put back
pub back_at_hand : (old new : Past) (held taken : Option PurseView) (purse back : PurseView) (request : Request) (answer : AnswerView PurseView)
    → (at : IsAtHand old held) → taken ≡ held → taken ≡ Some purse → back ≡ answer.purse
    → IsServed old request purse answer new → IsAtHand new (Some back)
back_at_hand old new held taken purse back request answer at out is put served =
    let same = same-held purse at.purse (sym is ∙ out ∙ at.held_is) in
    rw put (at_hand old new purse request answer (ap (λ (p : PurseView). p.terminal) same ∙ at.terminal_is) (ap (λ (p : PurseView). p.entries) same ∙ at.entries) served)

-- a run from the session of an opening
pub has_run : (opening : Opening) (start left : Past) (script : Script) (old new : Option (List ℕ)) (result : Result ℕ ScriptFault)
    → start ≡ opening_past opening → IsCounted (book_of start) script old new (book_of left) result → HasRun (opened_book opening) script old new result
has_run opening start left script old new result is run = (book_of left, subst (λ (p : Past). IsCounted (book_of p) script old new (book_of left) result) is run)
