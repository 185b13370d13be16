-- A kept book's journal, run again as a script, shows the stored replies and leaves the same rows and queue.
use Rattle.std.proofs.Common.{◌≡◌, ◌∙◌, refl, ap, sym, subst, ℕ, ◌+◌, ◌≤◌, ◌<◌, Bool, true, false, List, [], ◌∷◌, ◌++◌, append_assoc, append-nil, length, length-append, Option, Some, None, inl, inr, arith}
use Rattle.std.specs.Prelude.{◌⊎◌, ◌==◌, ◌&&◌, nat_le, nat_lt, int_le, map, not, ℤ, pos, negsuc, Result, Ok, Err}
use Rattle.std.specs.List.{list_all}
use Rattle.std.specs.Option.{option_or}
use Rattle.std.proofs.lemmas.List.{map-append}
use Rattle.std.proofs.lemmas.Bool.Decides.{nat_tests}
use Rattle.tpcc_rows.specs.declared.transactions.entry.Entry.{Entry}
use Rattle.tpcc_rows.specs.declared.transactions.requests.Order.{Order}
use Rattle.tpcc_rows.specs.declared.transactions.requests.Payment.{Payment}
use Rattle.tpcc_rows.specs.declared.transactions.requests.Request.{Request}
use Rattle.tpcc_rows.specs.declared.transactions.requests.Request.TheVariants as ask
use Rattle.tpcc_rows.specs.declared.transactions.refusals.Refusal.TheVariants as refused
use Rattle.tpcc_rows.specs.NewOrder.{order_refusal_by_input, order_refusal, order_input_tests}
use Rattle.tpcc_rows.specs.Payment.{payment_refusal, payment_tests}
use Rattle.tpcc_rows.specs.Tables.{Rows, State}
use Rattle.tpcc_rows.specs.Turn.{refusal, state_after, reply_to}
use Rattle.tpcc_rows.specs.Replay.{replay, count_of, IsServedAfter}
use Rattle.tpcc_rows.proofs.Booleans.{split, both_true}
use Rattle.tpcc_rows.specs.Lists.{first_finding}
use Rattle.tpcc_population.specs.Opening.{opening_state}
use Rattle.tpcc_book.specs.Past.{Past}
use Rattle.tpcc_book.specs.Turn.{turn_refusal}
use Rattle.tpcc_text.specs.Screens.{reply_screen, refused_screen}
use Rattle.tpcc_show.specs.Shown.{journal_screens}
use Rattle.tpcc_text.specs.declared.script.limits.TheConstants.{MOST_LINES}
use Rattle.tpcc_text.specs.declared.script.call.Call.{Call}
use Rattle.tpcc_text.specs.declared.script.call.Call.TheVariants.{Ask, Check, Results}
use Rattle.tpcc_text.specs.declared.script.fault.ScriptFault.{ScriptFault}
use Rattle.tpcc_text.specs.declared.script.fault.ScriptFault.TheVariants.{Bad, Cut, LongLine, TooManyLines, Read, Write, NoMemory}
use Rattle.tpcc_text.specs.Script.{Script}
use Rattle.tpcc_script.specs.ScriptBook.{ScriptBook, book_with_entry, request_refusal, screen_of, screen_by, screens_of, book_after, book_by, books_after}
use Rattle.tpcc_script.specs.Run.{Shows, Prints, IsOutOfMemory, IsRun, Wrote}
use Rattle.tpcc_text.specs.Sayable.{has_words, fits_line, is_sayable, is_amount}
use Rattle.tpcc_script.specs.Session.{opened_book}
use Rattle.tpcc_theorems.specs.Again.{IsWritable, script_again, IsSameAgain, IsShort, IsDone, IsDoneAgain}
use Rattle.tpcc_text.proofs.RequestLaws.{journal_is_read}

-- ---- requests that were accepted can be written

-- where nothing is found, each test is false
abbrev AllFalse : {X : Type 0} → List (Bool × X) → Type 0
AllFalse [] = Unit {0}
AllFalse (finding ∷ findings) = (finding.0 ≡ false) × AllFalse findings

head_false : {X : Type 0} (b : Bool) (x : X) (findings : List (Bool × X)) → first_finding ((b, x) ∷ findings) ≡ None → (b ≡ false) × (first_finding findings ≡ None)
head_false true x findings e = cc
head_false false x findings e = (refl, e)

all_false : {X : Type 0} (findings : List (Bool × X)) → first_finding findings ≡ None → AllFalse findings
all_false [] e = tt
all_false (finding ∷ findings) e = let h = head_false finding.0 finding.1 findings e in (h.0, all_false findings h.1)

first_none : {X : Type 0} (a b : Option X) → option_or a b ≡ None → a ≡ None
first_none None b e = refl
first_none (Some x) b e = cc

not_false : (b : Bool) → not b ≡ false → b ≡ true
not_false true e = refl
not_false false e = cc

few_lines : (n : ℕ) → (nat_le 5 n && nat_le n 15) ≡ true → nat_le n 100 ≡ true
few_lines n h = let s = split (nat_le 5 n) (nat_le n 15) h in let most = s.1 in grind (arith, nat_tests)

order_brief : (rows : Rows) (o : Order) → order_refusal rows o ≡ None → nat_le (length o.lines) 100 ≡ true
unfolding order_input_tests
order_brief rows o e =
    few_lines (length o.lines) (not_false _ (all_false (order_input_tests rows o) (first_none (order_refusal_by_input rows o) _ e)).1.1.1.0)

amount_brief : (cents : ℤ) → (int_le (pos 100) cents && int_le cents (pos 500000)) ≡ true → is_amount cents ≡ true
amount_brief (pos n) h = let s = split (int_le (pos 100) (pos n)) (int_le (pos n) (pos 500000)) h in let most : nat_le n 500000 ≡ true = s.1 in grind (arith, nat_tests)
amount_brief (negsuc n) h = cc

payment_brief : (rows : Rows) (p : Payment) → payment_refusal rows p ≡ None → is_amount p.amount ≡ true
unfolding payment_tests
payment_brief rows p e = amount_brief p.amount (not_false _ (all_false (payment_tests rows p) e).1.1.1.0)

brief : (s : State) (request : Request) → refusal s request ≡ None → fits_line request ≡ true
unfolding refusal
brief s (ask.NewOrder order) e = order_brief s.rows order e
brief s (ask.Payment payment) e = payment_brief s.rows payment e
brief s (ask.Status query) e = refl
brief s (ask.Stock query) e = refl
brief s (ask.Delivery ticket) e = refl
brief s (ask.Deliver at) e = refl

sayable : (s : State) (before entries : List Entry) → IsServedAfter s before entries → list_all (λ e. has_words e.request) entries ≡ true
    → list_all (λ e. is_sayable e.request) entries ≡ true
sayable s before [] served words = refl
sayable s before (e ∷ es) served words =
    let both = split (has_words e.request) (list_all (λ x. has_words x.request) es) words in
    both_true (is_sayable e.request) (list_all (λ x. is_sayable x.request) es)
    (both_true (has_words e.request) (fits_line e.request) both.0 (brief s e.request served.0.accepted))
    (sayable (state_after s e.request) (before ++ e ∷ []) es served.1 both.1)

pub reads_again : (book : Past) → IsWritable book → script_again book ≡ record { calls = map (λ e. Ask e.request) book.entries; fault = None }
reads_again book w = journal_is_read book.entries (sayable (opening_state book.opening) [] book.entries w.kept.faithful w.words) w.few

-- ---- entries served again

-- the entries' screens, and the book behind them
record Follows (b : ScriptBook) (entries : List Entry) (text : List ℕ) (left : ScriptBook) : Type 0 where
  screens : text ≡ journal_screens entries
  opening : left.opening ≡ b.opening
  state : left.state ≡ replay b.state entries
  requests : map (λ e. e.request) left.journal ≡ map (λ e. e.request) b.journal ++ map (λ e. e.request) entries
  replies : map (λ e. e.reply) left.journal ≡ map (λ e. e.reply) b.journal ++ map (λ e. e.reply) entries

same_number : (n : ℕ) → (n == n) ≡ true
same_number n = grind (arith, nat_tests)

-- what the rows accept, a purse that made each entry of its terminal may ask
accepts : (b : ScriptBook) (request : Request) → refusal b.state request ≡ None → length b.journal < 1000000000 → request_refusal b request ≡ None
unfolding turn_refusal
accepts b request none few =
    let room : nat_lt (length b.journal) 1000000000 ≡ true = grind (arith, nat_tests) in
    rw none (rw (same_number (count_of 1 b.journal)) (rw room refl))

-- one field of a journal with an entry more, and of those that follow
field : {X : Type 0} (f : Entry → X) (journal : List Entry) (e : Entry) (x : X) (rest : List X) → f e ≡ x → map f (journal ++ e ∷ []) ++ rest ≡ map f journal ++ x ∷ rest
field f journal e x rest is =
    ap (λ z. z ++ rest) (map-append f journal (e ∷ [])) ∙ append_assoc (map f journal) (f e ∷ []) rest ∙ ap (λ z. map f journal ++ z ∷ rest) is

follows : (b : ScriptBook) (before entries : List Entry) → IsServedAfter b.state before entries → length b.journal + length entries ≤ MOST_LINES
    → Follows b entries (screens_of b (map (λ e. Ask e.request) entries)) (books_after b (map (λ e. Ask e.request) entries))
unfolding screen_of book_after
follows b before [] served few =
    record { screens = refl; opening = refl; state = refl; requests = sym (append-nil (map (λ (e : Entry). e.request) b.journal)); replies = sym (append-nil (map (λ (e : Entry). e.reply) b.journal)) }
follows b before (e ∷ es) served few =
    let calls = map (λ (x : Entry). Ask x.request) es in
    let next = book_with_entry b e.request in
    let made : Entry = record { terminal = 1; number = count_of 1 b.journal; request = e.request; reply = reply_to b.state e.request } in
    let none = accepts b e.request served.0.accepted (omega (arith, few)) in
    let shown : screen_of b (Ask e.request) ≡ reply_screen e.reply = ap (screen_by b e.request) none ∙ ap reply_screen (sym served.0.replied) in
    let after : book_after b (Ask e.request) ≡ next = ap (book_by b e.request) none in
    let longer = length-append b.journal (made ∷ []) in
    let f = follows next (before ++ e ∷ []) es served.1 (omega (arith, few, longer)) in
    record {
      screens = ap (λ z. z ++ screens_of (book_after b (Ask e.request)) calls) shown
          ∙ ap (λ (n : ScriptBook). reply_screen e.reply ++ screens_of n calls) after ∙ ap (λ z. reply_screen e.reply ++ z) f.screens;
      opening = ap (λ (n : ScriptBook). (books_after n calls).opening) after ∙ f.opening;
      state = ap (λ (n : ScriptBook). (books_after n calls).state) after ∙ f.state;
      requests = ap (λ (n : ScriptBook). map (λ (x : Entry). x.request) (books_after n calls).journal) after ∙ f.requests
          ∙ field (λ (x : Entry). x.request) b.journal made e.request (map (λ (x : Entry). x.request) es) refl;
      replies = ap (λ (n : ScriptBook). map (λ (x : Entry). x.reply) (books_after n calls).journal) after ∙ f.replies
          ∙ field (λ (x : Entry). x.reply) b.journal made e.reply (map (λ (x : Entry). x.reply) es) (sym served.0.replied);
    }

pub same_again : (book : Past) → IsWritable book
    → IsSameAgain book (screens_of (opened_book book.opening) (script_again book).calls) (books_after (opened_book book.opening) (script_again book).calls)
same_again book w =
    let start = opened_book book.opening in
    let few = w.few in
    let f = follows start [] book.entries w.kept.faithful (omega (arith, few)) in
    subst (λ (s : Script). IsSameAgain book (screens_of start s.calls) (books_after start s.calls)) (sym (reads_again book w))
    (record { screens = f.screens; opening = f.opening; state = f.state ∙ sym w.kept.replays; requests = f.requests; replies = f.replies })

-- ---- whatever a run prints is the screens that are computed, up to a request that was refused for want of memory

abbrev Plainly : ScriptBook → List Call → List ℕ → ScriptBook → Type 0
Plainly b calls text left = ((text ≡ screens_of b calls) × (left ≡ books_after b calls)) ⊎ IsShort b calls text

out_of_memory : (b mid : ScriptBook) (call : Call) (calls : List Call) (text screen more : List ℕ) → IsOutOfMemory b call screen mid → text ≡ screen ++ more → IsShort b (call ∷ calls) text
out_of_memory b mid (Ask request) calls text screen more h e =
    record { done = []; request = request; rest = calls; calls_are = refl; free = h.free; more = more; shown = e ∙ ap (λ z. z ++ more) h.shown }
out_of_memory b mid Check calls text screen more h e = let no = h.request in cc
out_of_memory b mid Results calls text screen more h e = let no = h.request in cc

served_then : (b : ScriptBook) (call : Call) (calls : List Call) (text screen more : List ℕ) (left : ScriptBook)
    → screen ≡ screen_of b call → text ≡ screen ++ more → Plainly (book_after b call) calls more left → Plainly b (call ∷ calls) text left
served_then b call calls text screen more left shown e (inl h) = inl (e ∙ ap (λ z. z ++ more) shown ∙ ap (λ z. screen_of b call ++ z) h.0, h.1)
served_then b call calls text screen more left shown e (inr h) =
    inr (record {
      done = call ∷ h.done;
      request = h.request;
      rest = h.rest;
      calls_are = ap (λ z. call ∷ z) h.calls_are;
      free = h.free;
      more = h.more;
      shown = e ∙ ap (λ z. z ++ more) shown ∙ ap (λ z. screen_of b call ++ z) h.shown
          ∙ sym (append_assoc (screen_of b call) (screens_of (book_after b call) h.done) (refused_screen refused.NoMemory ++ h.more));
    })

plainly-by : (b mid : ScriptBook) (call : Call) (calls : List Call) (text screen more : List ℕ) (left : ScriptBook)
    → ((m : ScriptBook) → Prints m calls more left → Plainly m calls more left)
    → Shows b call screen mid → text ≡ screen ++ more → Prints mid calls more left → Plainly b (call ∷ calls) text left
plainly-by b mid call calls text screen more left goes (inl h) e prints =
    served_then b call calls text screen more left h.shown e (goes (book_after b call) (subst (λ (m : ScriptBook). Prints m calls more left) h.left prints))
plainly-by b mid call calls text screen more left goes (inr h) e prints = inr (out_of_memory b mid call calls text screen more h e)

plainly : (b : ScriptBook) (calls : List Call) (text : List ℕ) (left : ScriptBook) → Prints b calls text left → Plainly b calls text left
plainly b [] text left h = inl h
plainly b (call ∷ calls) text left h = plainly-by b h.2 call calls text h.0 h.1 left (λ m prints. plainly m calls h.1 left prints) h.3 h.4 h.5

same-by : (book : Past) (text : List ℕ) (left : ScriptBook) → IsWritable book → Plainly (opened_book book.opening) (script_again book).calls text left
    → IsSameAgain book text left ⊎ IsShort (opened_book book.opening) (script_again book).calls text
same-by book text left w (inl h) =
    let s = same_again book w in
    inl (record {
      screens = h.0 ∙ s.screens;
      opening = ap (λ (b : ScriptBook). b.opening) h.1 ∙ s.opening;
      state = ap (λ (b : ScriptBook). b.state) h.1 ∙ s.state;
      requests = ap (λ (b : ScriptBook). map (λ (e : Entry). e.request) b.journal) h.1 ∙ s.requests;
      replies = ap (λ (b : ScriptBook). map (λ (e : Entry). e.reply) b.journal) h.1 ∙ s.replies;
    })
same-by book text left w (inr h) = inr h

done-so : (book : Past) (old new : Option (List ℕ)) (left : ScriptBook) → IsWritable book → Wrote (opened_book book.opening) (script_again book).calls old new left → IsDone book old new left
done-so book old new left w wrote =
    record { text = wrote.text; added = wrote.added; same = same-by book wrote.text left w (plainly (opened_book book.opening) (script_again book).calls wrote.text left wrote.prints) }

no_fault : {X : Type 0} (book : Past) (fault : ScriptFault) → IsWritable book → (script_again book).fault ≡ Some fault → X
no_fault book fault w e = let none = ap (λ (s : Script). s.fault) (reads_again book w) in cc

pub runs_again : (book : Past) (old new : Option (List ℕ)) (left : ScriptBook) (result : Result (Unit {0}) ScriptFault) → IsWritable book
    → IsRun (opened_book book.opening) (script_again book) old new left result → IsDoneAgain book old new left result
runs_again book old new left (Ok done) w run = done-so book old new left w run.1
runs_again book old new left (Err Read) w run = tt
runs_again book old new left (Err Write) w run = tt
runs_again book old new left (Err NoMemory) w run = tt
runs_again book old new left (Err (Bad n)) w run = no_fault book (Bad n) w run.0
runs_again book old new left (Err (Cut n)) w run = no_fault book (Cut n) w run.0
runs_again book old new left (Err (LongLine n)) w run = no_fault book (LongLine n) w run.0
runs_again book old new left (Err TooManyLines) w run = no_fault book TooManyLines w run.0
