-- What a turn keeps.
use Rattle.std.proofs.Common.{◌≡◌, ◌∙◌, ℕ, ◌+◌, ◌<◌, List, [], ◌∷◌, ◌++◌, length, refl, ap, sym, subst, arith}
use Rattle.std.specs.Prelude.{Option, Some, None, Result, Ok, Err, OnOk, pos, ◌+ℤ◌, ◌≤ℤ◌, true}
use Rattle.std.specs.Result.{ForOk}
use Rattle.std.specs.Option.{option_or}
use Rattle.std.proofs.lemmas.Int.{ints}
use Rattle.std.proofs.lemmas.Bool.Decides.{nat_tests}
use Rattle.tpcc_money.specs.Amounts.{total}
use Rattle.tpcc_rows.specs.declared.transactions.entry.Entry.{Entry}
use Rattle.tpcc_rows.specs.declared.transactions.requests.QueuedTicket.{QueuedTicket}
use Rattle.tpcc_population.specs.declared.opening.Opening.{Opening}
use Rattle.tpcc_rows.specs.declared.transactions.requests.Request.{Request}
use Rattle.tpcc_rows.specs.declared.transactions.replies.Reply.{Reply}
use Rattle.tpcc_rows.specs.declared.transactions.refusals.Refusal.{Refusal}
use Rattle.tpcc_rows.specs.Moments.{has_moment_in_range}
use Rattle.tpcc_rows.specs.SoundState.{IsSoundState}
use Rattle.tpcc_rows.specs.WellKeyed.{IsWellKeyed}
use Rattle.tpcc_rows.specs.Tables.{Rows, State}
use Rattle.tpcc_rows.specs.Turn.{refusal, state_after, reply_to}
use Rattle.tpcc_rows.specs.Replay.{replay, IsFaithful, IsServedAt, count_of, paid_by_request, paid_by_entries}
use Rattle.tpcc_population.specs.Opening.{opening_state}
use Rattle.tpcc_book.specs.Past.{Past, IsKept, most_entries}
use Rattle.tpcc_book.specs.Internal.Past.{Rises}
use Rattle.tpcc_book.specs.Turn.{early, stranger, full, journal_refusal, turn_refusal, entry_of, after, Accepts, IsTurn}
use Rattle.tpcc_book.specs.declared.register.outcome.Turned.{Turned}

-- the laws of the model on one turn, as its public functions state them
pub record PayLaws : Type 0 where
  pub rises : (s : State) (request : Request) → refusal s request ≡ None → IsWellKeyed s.rows → total (λ w. w.ytd) (state_after s request).rows.warehouses ≡ total (λ w. w.ytd) s.rows.warehouses +ℤ paid_by_request request
  pub least : (s : State) (request : Request) → refusal s request ≡ None → pos 0 ≤ℤ paid_by_request request
  pub most : (s : State) (request : Request) → refusal s request ≡ None → paid_by_request request ≤ℤ pos 500000

pub record KeepLaws : Type 0 where
  pub sound : (s : State) (request : Request) → has_moment_in_range request ≡ true → refusal s request ≡ None → IsSoundState s → IsSoundState (state_after s request)
  pub one_more : (s : State) (entries : List Entry) (entry : Entry) → replay s (entries ++ entry ∷ []) ≡ state_after (replay s entries) entry.request
  pub stays_faithful : (s : State) (entries : List Entry) (entry : Entry) → IsFaithful s entries → IsServedAt (replay s entries) entries entry → IsFaithful s (entries ++ entry ∷ [])

-- where the first of two is none, so are both
pub both_none : {X : Type 0} (a b : Option X) → option_or a b ≡ None → (a ≡ None) × (b ≡ None)
both_none None b h = (refl, h)
both_none (Some r) b h = absurd cc

number_from : (entries : List Entry) (terminal number : ℕ) → stranger entries terminal number ≡ None → number ≡ count_of terminal entries
number_from entries terminal number h = grind (arith, nat_tests)

full_none : (entries : List Entry) → full entries ≡ None → length entries < most_entries
full_none entries h = grind (arith, nat_tests)

-- what holds of a request that nothing refuses
pub record IsAccepted (p : Past) (terminal number : ℕ) (request : Request) : Type 0 where
  pub none : refusal p.state request ≡ None
  pub number_is : number ≡ count_of terminal p.entries
  pub room : length p.entries < most_entries

pub accepted_by : (p : Past) (terminal number : ℕ) (request : Request) → turn_refusal p.state p.entries terminal number request ≡ None → IsAccepted p terminal number request
unfolding turn_refusal
accepted_by p terminal number request none =
    let one = both_none (early (refusal p.state request)) _ none in
    let two = both_none (journal_refusal p.entries terminal number) _ one.1 in
    let three = both_none (stranger p.entries terminal number) (full p.entries) two.0 in
    record { none = two.1; number_is = number_from p.entries terminal number three.0; room = full_none p.entries three.1 }

paid-push : (entries : List Entry) (entry : Entry) → paid_by_entries (entries ++ entry ∷ []) ≡ paid_by_entries entries +ℤ paid_by_request entry.request
paid-push [] entry = omega (arith, ints)
paid-push (e ∷ entries) entry = omega (arith, ints, paid-push entries entry)

length-push : (entries : List Entry) (entry : Entry) → length (entries ++ entry ∷ []) ≡ length entries + 1
length-push [] entry = refl
length-push (e ∷ entries) entry = omega (arith, length-push entries entry)

pub after-kept : (laws : KeepLaws) (pays_law : PayLaws) (p : Past) (terminal number : ℕ) (request : Request) → has_moment_in_range request ≡ true → IsKept p → turn_refusal p.state p.entries terminal number request ≡ None → IsKept (after p terminal number request)
after-kept laws pays_law p terminal number request moment kept none =
    let accepted = accepted_by p terminal number request none in
    let entry = entry_of p terminal number request in
    let opening = opening_state p.opening in
    let there : refusal (replay opening p.entries) request ≡ None = subst (λ (s : State). refusal s request ≡ None) kept.replays accepted.none in
    let pays = pays_law.rises p.state request accepted.none kept.sound.well_keyed in
    let least = pays_law.least p.state request accepted.none in
    let most = pays_law.most p.state request accepted.none in
    let more = paid-push p.entries entry in
    let longer = length-push p.entries entry in
    record {
      sound = laws.sound p.state request moment accepted.none kept.sound;
      replays = ap (λ (s : State). state_after s request) kept.replays ∙ sym (laws.one_more opening p.entries entry);
      faithful = laws.stays_faithful opening p.entries entry kept.faithful (record { accepted = there; replied = ap (λ (s : State). reply_to s request) kept.replays; numbered = accepted.number_is });
      few = omega (arith, longer, accepted.room);
      rises = omega (arith, ints, pays, more, kept.rises);
      paid_least = omega (arith, ints, more, least, kept.paid_least);
      paid_most = omega (arith, ints, more, longer, most, kept.paid_most);
    }

pub after-rises : (laws : PayLaws) (p : Past) (terminal number : ℕ) (request : Request) → IsKept p → turn_refusal p.state p.entries terminal number request ≡ None → Rises p request (after p terminal number request)
after-rises laws p terminal number request kept none =
    let accepted = accepted_by p terminal number request none in
    let pays = laws.rises p.state request accepted.none kept.sound.well_keyed in
    let most = laws.most p.state request accepted.none in
    record {
      by = omega (arith, ints, pays);
      least = laws.least p.state request accepted.none;
      below = omega (arith, ints, pays, most, kept.rises, kept.paid_most, accepted.room);
      room = accepted.room;
    }

outcome-rises : (laws : PayLaws) (p : Past) (terminal number : ℕ) (request : Request) (place : Option ℕ) (new : Past) (o : Result Reply Refusal)
    → IsKept p → ForOk o (Accepts p terminal number request place new) → OnOk o (Rises p request new)
outcome-rises laws p terminal number request place new (Ok reply) kept h =
    let a = h reply refl in subst (Rises p request) (sym a.new_is) (after-rises laws p terminal number request kept a.none_applies)
outcome-rises laws p terminal number request place new (Err r) kept h = tt

-- every turn of a register that keeps its facts
pub turn-rises : (laws : PayLaws) (p : Past) (terminal number : ℕ) (request : Request) (made : Turned) (new : Past)
    → IsKept p → IsTurn p terminal number request made new → OnOk made.outcome (Rises p request new)
turn-rises laws p terminal number request made new kept turn =
    outcome-rises laws p terminal number request made.place new made.outcome kept turn.accepts

-- two states with the same rows and tickets
pub same-state : (rows more : Rows) (queue tickets : List QueuedTicket) → rows ≡ more → queue ≡ tickets
    → ◌≡◌ {A = State} (record { rows = rows; queue = queue }) (record { rows = more; queue = tickets })
same-state rows more queue tickets a b = cc

-- a turn's steps, put together
pub turn_is_made : (opening : Opening) (old made new : State) (entries seen now : List Entry) (terminal number : ℕ) (request copy : Request)
    → made ≡ old → seen ≡ entries → copy ≡ request → new ≡ state_after made copy
    → now ≡ seen ++ record { terminal = terminal; number = number; request = copy; reply = reply_to made copy } ∷ []
    → ◌≡◌ {A = Past} (record { opening = opening; state = new; entries = now }) (after (record { opening = opening; state = old; entries = entries }) terminal number request)
turn_is_made opening old made new entries seen now terminal number request copy a b c d e = cc
