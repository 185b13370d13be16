-- What a turn adds to the totals of a book, and that they stay the journal's length and the rise.
use Rattle.std.proofs.Common.{◌≡◌, ◌∙◌, ◌+◌, ℕ, ℤ, ap, refl, subst, sym, pos, length, ◌≤ℤ◌, arith}
use Rattle.std.specs.Prelude.{Option, Some, None, Result, Ok, Err, OnOk, MatchResult, ◌+ℤ◌}
use Rattle.std.specs.Result.{ForOk, ForErr}
use Rattle.std.proofs.lemmas.Int.{ints}
use Rattle.std.proofs.lemmas.List.{length_push}
use Rattle.tpcc_rows.specs.declared.transactions.requests.Request.{Request}
use Rattle.tpcc_rows.specs.declared.transactions.replies.Reply.{Reply}
use Rattle.tpcc_rows.specs.declared.transactions.refusals.Refusal.{Refusal}
use Rattle.tpcc_rows.specs.Replay.{paid_by_request}
use Rattle.tpcc_book.specs.Past.{Past, IsKept, rise_of}
use Rattle.tpcc_book.specs.Internal.Past.{Rises}
use Rattle.tpcc_book.specs.Turn.{Accepts, Refuses, IsTurn, entry_of}
use Rattle.tpcc_book.specs.AnswerView.{AnswerView}
use Rattle.tpcc_book.specs.Internal.AnswerView.{answer_of}
use Rattle.tpcc_book.specs.Purses.{PurseView}
use Rattle.tpcc_book.specs.Serve.{Fits, IsServed}
use Rattle.tpcc_book.specs.Internal.Crediting.{CanCredit, IsCredited}
use Rattle.tpcc_book.specs.declared.register.outcome.Turned.{Turned}
use Rattle.tpcc_book.proofs.Keeps.{PayLaws, turn-rises}

can_credit_by : (old new : Past) (request asked : Request) (entries cents : ℕ) (r : Result Reply Refusal)
    → asked ≡ request → OnOk r (Rises old request new) → entries ≡ length old.entries → pos cents ≡ rise_of old
    → OnOk r (CanCredit entries cents (paid_by_request asked))
can_credit_by old new request asked entries cents (Ok reply) same rises few risen =
    let pays : paid_by_request asked ≡ paid_by_request request = ap paid_by_request same in
    record {
      room = omega (arith, rises.room, few);
      least = subst (λ (p : ℤ). pos 0 ≤ℤ p) (sym pays) rises.least;
      below = omega (arith, ints, rises.by, rises.below, risen, pays);
    }
can_credit_by old new request asked entries cents (Err e) same rises few risen = tt

-- the totals have room for what a turn adds
pub can_credit : (laws : PayLaws) (old new : Past) (terminal number : ℕ) (request : Request) (made : Turned) (entries cents : ℕ)
    → IsKept old → IsTurn old terminal number request made new → entries ≡ length old.entries → pos cents ≡ rise_of old
    → OnOk made.outcome (CanCredit entries cents (paid_by_request made.request))
can_credit laws old new terminal number request made entries cents kept turn few risen =
    can_credit_by old new request made.request entries cents made.outcome turn.request_is (turn-rises laws old terminal number request made new kept turn) few risen

stay_totals : (old new : Past) (terminal number : ℕ) (request asked : Request) (place : Option ℕ) (entries cents more richer : ℕ) (r : Result Reply Refusal)
    → asked ≡ request → ForOk r (Accepts old terminal number request place new) → ForErr r (Refuses old terminal number request place new) → OnOk r (Rises old request new)
    → entries ≡ length old.entries → pos cents ≡ rise_of old
    → MatchResult r (λ reply. (more ≡ entries + 1) × (pos richer ≡ pos cents +ℤ paid_by_request asked)) (λ refusal. (more ≡ entries) × (richer ≡ cents))
    → (more ≡ length new.entries) × (pos richer ≡ rise_of new)
stay_totals old new terminal number request asked place entries cents more richer (Ok reply) same accepts refuses rises few risen added =
    let longer : length new.entries ≡ length old.entries + 1 = ap (λ (p : Past). length p.entries) (accepts reply refl).new_is ∙ length_push old.entries (entry_of old terminal number request) in
    let pays : paid_by_request asked ≡ paid_by_request request = ap paid_by_request same in
    (omega (arith, longer, few, added.0), omega (arith, ints, rises.by, risen, added.1, pays))
stay_totals old new terminal number request asked place entries cents more richer (Err e) same accepts refuses rises few risen added =
    let is : new ≡ old = (refuses e refl).same in
    (added.0 ∙ few ∙ ap (λ (p : Past). length p.entries) (sym is), ap pos added.1 ∙ risen ∙ ap rise_of (sym is))

-- the totals are the journal's length and the rise after the turn too
pub totals_stay : (laws : PayLaws) (old new : Past) (terminal number : ℕ) (request : Request) (made : Turned) (entries cents more richer : ℕ)
    → IsKept old → IsTurn old terminal number request made new → entries ≡ length old.entries → pos cents ≡ rise_of old → IsCredited made entries cents more richer
    → (more ≡ length new.entries) × (pos richer ≡ rise_of new)
totals_stay laws old new terminal number request made entries cents more richer kept turn few risen added =
    stay_totals old new terminal number request made.request made.place entries cents more richer made.outcome turn.request_is turn.accepts turn.refuses (turn-rises laws old terminal number request made new kept turn) few risen added

-- a turn and the answer that was made of it are one serving
pub served_by : (old new : Past) (request : Request) (purse : PurseView) (terminal number : ℕ) (made : Turned) (answer : AnswerView PurseView)
    → terminal ≡ purse.terminal → number ≡ purse.entries → IsTurn old terminal number request made new
    → answer ≡ answer_of made answer.purse → Fits made.request purse answer → IsServed old request purse answer new
served_by old new request purse terminal number made answer own all turn is fits =
    let made_is : made ≡ record { request = answer.request; outcome = answer.outcome; place = answer.place } =
    λ i. record { request = (sym is i).request; outcome = (sym is i).outcome; place = (sym is i).place } in
    let turn_is : IsTurn old purse.terminal purse.entries request made new = rw (own, all) at turn in
    record {
      turn = subst (λ (t : Turned). IsTurn old purse.terminal purse.entries request t new) made_is turn_is;
      fits = subst (λ (r : Request). Fits r purse answer) turn.request_is fits;
    }
