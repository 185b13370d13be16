-- The screen of a call, by what the book answered.
use Rattle.std.proofs.Common.{◌≡◌, ◌∙◌, sym, refl, ap, ap₂, ℕ, List, Option, Some, None, inl, inr}
use Rattle.std.specs.Prelude.{Result, Ok, Err}
use Rattle.std.specs.Option.{option_or}
use Rattle.tpcc_rows.specs.declared.transactions.requests.Request.{Request}
use Rattle.tpcc_rows.specs.declared.transactions.refusals.Refusal.{Refusal}
use Rattle.tpcc_rows.specs.declared.transactions.refusals.Refusal.TheVariants as refused
use Rattle.tpcc_rows.specs.declared.transactions.replies.Reply.{Reply}
use Rattle.tpcc_rows.specs.Conditions.{first_broken}
use Rattle.tpcc_rows.specs.Replay.{count_of, results_of}
use Rattle.tpcc_rows.specs.Turn.{reply_to}
use Rattle.tpcc_book.specs.Past.{Past}
use Rattle.tpcc_book.specs.Purses.{PurseView}
use Rattle.tpcc_book.specs.Serve.{IsServed}
use Rattle.tpcc_book.specs.AnswerView.{AnswerView}
use Rattle.tpcc_book.specs.Turn.{after, turn_refusal}
use Rattle.tpcc_text.specs.Screens.{answer_screen, reply_screen, refused_screen, check_screen, results_screen}
use Rattle.tpcc_text.specs.declared.script.call.Call.TheVariants.{Ask, Check, Results}
use Rattle.tpcc_script.specs.ScriptBook.{ScriptBook, terminal, screen_of, book_after, screen_by, book_by, book_with_entry, request_refusal}
use Rattle.tpcc_script.specs.Run.{Shows}
use Rattle.tpcc_script.specs.Internal.Run.{HasServed}
use Rattle.tpcc_script.specs.Session.{book_of}
use Rattle.tpcc_script.specs.Internal.Session.{IsAtHand}

shows-reply : (old new : ScriptBook) (request : Request) (reply : Reply) (screen : List ℕ)
    → request_refusal old request ≡ None → reply ≡ reply_to old.state request → new ≡ book_with_entry old request → screen ≡ reply_screen reply
    → Shows old (Ask request) screen new
unfolding screen_of book_after
shows-reply old new request reply screen free is left e = inl (record {
  shown = e ∙ ap reply_screen is ∙ sym (ap (screen_by old request) free);
  left = left ∙ sym (ap (book_by old request) free);
})

same-refusal : (a b : Refusal) → Some a ≡ Some b → a ≡ b
same-refusal a b h = cc

-- the first refusal, or want of memory where there is none
shows-refusal : (old new : ScriptBook) (request : Request) (first : Option Refusal) (r : Refusal) (screen : List ℕ)
    → request_refusal old request ≡ first → option_or first (Some refused.NoMemory) ≡ Some r → new ≡ old → screen ≡ refused_screen r
    → Shows old (Ask request) screen new
unfolding screen_of book_after
shows-refusal old new request (Some first) r screen is told same e =
    let first_is = is ∙ told in
    inl (record {
      shown = e ∙ sym (ap (screen_by old request) first_is);
      left = same ∙ sym (ap (book_by old request) first_is);
    })
shows-refusal old new request None r screen is told same e =
    inr (record { request = refl; free = is; shown = e ∙ ap refused_screen (sym (same-refusal refused.NoMemory r told)); left = same })

shows-answer : (old new : Past) (purse : PurseView) (request asked : Request) (o : Result Reply Refusal) (place : Option ℕ) (later : PurseView) (screen : List ℕ)
    → purse.terminal ≡ terminal → purse.entries ≡ count_of terminal old.entries
    → IsServed old request purse (record { request = asked; outcome = o; place = place; purse = later }) new → screen ≡ answer_screen o
    → Shows (book_of old) (Ask request) screen (book_of new)
shows-answer old new purse request asked (Ok reply) place later screen own all served e =
    let accepts = served.turn.accepts reply refl in
    let by = ap₂ (λ t n. turn_refusal old.state old.entries t n request) own all in
    let grown = ap₂ (λ t n. book_of (after old t n request)) own all in
    shows-reply (book_of old) (book_of new) request reply screen (sym by ∙ accepts.none_applies) accepts.reply_is (ap book_of accepts.new_is ∙ grown) e
shows-answer old new purse request asked (Err r) place later screen own all served e =
    let refuses = served.turn.refuses r refl in
    let by = ap₂ (λ t n. turn_refusal old.state old.entries t n request) own all in
    shows-refusal (book_of old) (book_of new) request (turn_refusal old.state old.entries purse.terminal purse.entries request) r screen (sym by) refuses.first (ap book_of refuses.same) e

same-held : (a b : PurseView) → Some a ≡ Some b → a ≡ b
same-held a b h = cc

-- the screen of what a session's book answered the purse that was taken out
pub shows_answer : (old new : Past) (held taken : Option PurseView) (purse : PurseView) (request : Request) (answer : AnswerView PurseView) (screen : List ℕ)
    → (at : IsAtHand old held) → taken ≡ held → taken ≡ Some purse
    → IsServed old request purse answer new → screen ≡ answer_screen answer.outcome → Shows (book_of old) (Ask request) screen (book_of new)
shows_answer old new held taken purse request answer screen at out is served e =
    let same = same-held purse at.purse (sym is ∙ out ∙ at.held_is) in
    shows-answer old new purse request answer.request answer.outcome answer.place answer.purse screen
    (ap (λ (p : PurseView). p.terminal) same ∙ at.terminal_is) (ap (λ (p : PurseView). p.entries) same ∙ at.entries) served e

pub served_answer : (old new : Past) (held taken : Option PurseView) (purse : PurseView) (request : Request) (answer : AnswerView PurseView)
    → (at : IsAtHand old held) → taken ≡ held → taken ≡ Some purse
    → IsServed old request purse answer new → HasServed (book_of old) (Ask request) (book_of new)
served_answer old new held taken purse request answer at out is served = record {
  screen = answer_screen answer.outcome;
  shows = shows_answer old new held taken purse request answer (answer_screen answer.outcome) at out is served refl;
}

pub shows_check : (old : ScriptBook) (screen : List ℕ) → screen ≡ check_screen (first_broken old.state.rows) → Shows old Check screen old
unfolding screen_of book_after
shows_check old screen e = inl (record { shown = e; left = refl })

pub shows_results : (old : ScriptBook) (screen : List ℕ) → screen ≡ results_screen (results_of old.journal) → Shows old Results screen old
unfolding screen_of book_after
shows_results old screen e = inl (record { shown = e; left = refl })

-- a served call has a screen
pub served_check : (old : ScriptBook) → HasServed old Check old
served_check old = record { screen = check_screen (first_broken old.state.rows); shows = shows_check old (check_screen (first_broken old.state.rows)) refl }

pub served_results : (old : ScriptBook) → HasServed old Results old
served_results old = record { screen = results_screen (results_of old.journal); shows = shows_results old (results_screen (results_of old.journal)) refl }
