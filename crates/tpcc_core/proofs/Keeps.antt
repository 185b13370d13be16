-- The book of a desk is kept whatever happens.
use Rattle.std.proofs.Common.{◌≡◌, ◌∙◌, sym, ap, refl, subst, ℕ, Bool, true, false, List, [], ◌∷◌, arith}
use Rattle.std.specs.Prelude.{Option, Result, Ok, Err}
use Rattle.std.specs.List.{list_all}
use Rattle.std.specs.Result.{ForOk, ForErr}
use Rattle.std.proofs.lemmas.Int.{ints}
use Rattle.tpcc_rows.specs.declared.transactions.requests.Request.{Request}
use Rattle.tpcc_rows.specs.declared.transactions.replies.Reply.{Reply}
use Rattle.tpcc_rows.specs.declared.transactions.refusals.Refusal.{Refusal}
use Rattle.tpcc_rows.specs.Moments.{has_moment_in_range}
use Rattle.tpcc_population.specs.declared.opening.Opening.{Opening}
use Rattle.tpcc_population.specs.Opening.{opening_scale, opening_rows, IsSoundOpening}
use Rattle.tpcc_book.specs.Past.{Past, IsKept, opening_past}
use Rattle.tpcc_book.specs.Turn.{Accepts, Refuses}
use Rattle.tpcc_book.proofs.Keeps.{KeepLaws, PayLaws, after-kept}
use Rattle.tpcc_core.specs.declared.event.Event.{Event}
use Rattle.tpcc_core.specs.declared.event.Event.TheVariants as event
use Rattle.tpcc_core.specs.Desks.{DeskNow}
use Rattle.tpcc_core.specs.Events.{is_ready, Steps}
use Rattle.tpcc_core.specs.Runs.{MovesBy, Passes}
use Rattle.tpcc_core.specs.OpeningDesk.{opening_desk}
use Rattle.tpcc_core.specs.After.{After, is_in_range}
use Rattle.tpcc_core.proofs.Begins.{start_sound}
use Rattle.tpcc_core.proofs.Sound.{IsSound, move_leads, served_in_range, head_in_range, tail_in_range}

-- the same opening, and the book's facts
pub record StaysBook (old new : Past) : Type 0 where
  pub opening : new.opening ≡ old.opening
  pub kept : IsKept old → IsKept new

same_book : (old new : Past) → new ≡ old → StaysBook old new
same_book old new same = record { opening = ap (λ (p : Past). p.opening) same; kept = subst IsKept (sym same) }

turn_stays : (keeps : KeepLaws) (pays : PayLaws) (old new : Past) (terminal number : ℕ) (request : Request) (place : Option ℕ) (o : Result Reply Refusal)
    → has_moment_in_range request ≡ true → ForOk o (Accepts old terminal number request place new) → ForErr o (Refuses old terminal number request place new) → StaysBook old new
turn_stays keeps pays old new terminal number request place (Ok reply) moment accepts refuses =
    let a = accepts reply refl in
    record {
      opening = ap (λ (p : Past). p.opening) a.new_is;
      kept = λ kept. subst IsKept (sym a.new_is) (after-kept keeps pays old terminal number request moment kept a.none_applies);
    }
turn_stays keeps pays old new terminal number request place (Err refusal) moment accepts refuses = same_book old new (refuses refusal refl).same

step_stays : (keeps : KeepLaws) (pays : PayLaws) (d : DeskNow) (e : Event) (m : DeskNow) → IsSound d → Steps d e m → StaysBook d.book m.book
step_stays keeps pays d (event.Post t q) m sound step = same_book d.book m.book (ap (λ (x : DeskNow). x.book) step.rest)
step_stays keeps pays d (event.Take s t) m sound step = same_book d.book m.book (ap (λ (x : DeskNow). x.book) step.rest)
step_stays keeps pays d (event.Serve s) m sound step =
    let letter = step.served.letter in
    let turn = step.served.served.turn in
    turn_stays keeps pays d.book m.book letter.purse.terminal letter.purse.entries letter.request step.served.answer.place step.served.answer.outcome (served_in_range d m s sound step) turn.accepts turn.refuses
step_stays keeps pays d (event.Answer s) m sound step = same_book d.book m.book (ap (λ (x : DeskNow). x.book) step.rest)
step_stays keeps pays d (event.Collect t) m sound step = same_book d.book m.book (ap (λ (x : DeskNow). x.book) step.rest)
step_stays keeps pays d event.Close m sound step = same_book d.book m.book (ap (λ (x : DeskNow). x.book) step)

move_stays : (keeps : KeepLaws) (pays : PayLaws) (b : Bool) (d : DeskNow) (e : Event) (m : DeskNow) → IsSound d → MovesBy b d e m → StaysBook d.book m.book
move_stays keeps pays true d e m sound step = step_stays keeps pays d e m sound step
move_stays keeps pays false d e m sound same = same_book d.book m.book (ap (λ (x : DeskNow). x.book) same)

passes_stay : (keeps : KeepLaws) (pays : PayLaws) (d : DeskNow) (es : List Event) (n : DeskNow) → IsSound d → list_all is_in_range es ≡ true → Passes d es n → StaysBook d.book n.book
passes_stay keeps pays d [] n sound in_range same = same_book d.book n.book (ap (λ (x : DeskNow). x.book) same)
passes_stay keeps pays d (e ∷ es) n sound in_range p =
    let m = p.0 in
    let one = move_stays keeps pays (is_ready d e) d e m sound p.1 in
    let rest = passes_stay keeps pays m es n (move_leads (is_ready d e) d e m sound (head_in_range e es in_range) p.1).sound (tail_in_range e es in_range) p.2 in
    record { opening = rest.opening ∙ one.opening; kept = λ kept. rest.kept (one.kept kept) }

opening_is_kept : (opening : Opening) → IsSoundOpening (opening_scale opening).customers (opening_rows opening) → IsKept (opening_past opening)
opening_is_kept opening sound =
    record {
      sound = record { well_keyed = sound.well_keyed; queue = refl; stocked = sound.stocked; consistent = sound.consistent };
      replays = refl;
      faithful = tt;
      few = omega arith;
      rises = omega (arith, ints);
      paid_least = omega (arith, ints);
      paid_most = omega (arith, ints);
    }

-- the book after a list of events
pub book_stays : (keeps : KeepLaws) (pays : PayLaws) (opening : Opening) → IsSoundOpening (opening_scale opening).customers (opening_rows opening)
    → (terminals servers : ℕ) (events : List Event) (desk : DeskNow) → After opening terminals servers events desk → IsKept desk.book × (desk.book.opening ≡ opening)
book_stays keeps pays opening sound terminals servers events desk after =
    let stays = passes_stay keeps pays (opening_desk opening terminals servers) events desk (start_sound opening terminals servers) after.in_range after.passes in
    (stays.kept (opening_is_kept opening sound), stays.opening)
