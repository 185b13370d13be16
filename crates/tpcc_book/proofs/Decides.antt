-- Which refusal comes first.
use Rattle.std.proofs.Common.{◌≡◌, ℕ, List, refl, sym, subst}
use Rattle.std.specs.Prelude.{Option, Some, None, Result, Ok, Err, OnOk, IfOk, IfErr, Bool, true, false, unwrap_or, if◌then◌else◌, nat_lt}
use Rattle.std.specs.Option.{option_or}
use Rattle.tpcc_rows.specs.declared.transactions.entry.Entry.{Entry}
use Rattle.tpcc_rows.specs.declared.transactions.requests.Request.{Request}
use Rattle.tpcc_rows.specs.declared.transactions.refusals.Refusal.{Refusal}
use Rattle.tpcc_rows.specs.declared.transactions.refusals.Refusal.TheVariants.{NoMemory}
use Rattle.tpcc_rows.specs.RefusalOrder.{refusal_number}
use Rattle.tpcc_rows.specs.Tables.{State}
use Rattle.tpcc_rows.specs.Turn.{refusal}
use Rattle.tpcc_book.specs.Internal.Ready.{IsReady, HasRoom, CanFinish, Rooms, order_refusals}
use Rattle.tpcc_book.specs.Turn.{early, journal_refusal, turn_refusal}
use Rattle.tpcc_book.specs.declared.register.halves.Prepared.{Prepared}

-- nothing applies where neither the model nor the journal refuses
none_applies : (first journal : Option Refusal) → first ≡ None → journal ≡ None → option_or (early first) (option_or journal first) ≡ None
none_applies None None a b = refl
none_applies None (Some j) a b = absurd cc
none_applies (Some f) journal a b = absurd cc

ready-by : (s : State) (entries : List Entry) (terminal number : ℕ) (request : Request) (rooms : Rooms) (journal : Option Refusal) (told : Result Prepared Refusal)
    → journal ≡ journal_refusal entries terminal number
    → IfOk told (IsReady s request) → OnOk told (refusal s request ≡ None) → IfOk told (HasRoom rooms request)
    → IfOk (order_refusals journal told) (CanFinish s entries terminal number request rooms)
unfolding turn_refusal
ready-by s entries terminal number request rooms None (Ok prepared) same ready none room =
    record { ready = ready; room = room; none = none; accepted = none_applies (refusal s request) (journal_refusal entries terminal number) none (sym same) }
ready-by s entries terminal number request rooms (Some r) (Ok prepared) same ready none room = tt
ready-by s entries terminal number request rooms None (Err r) same ready none room = tt
ready-by s entries terminal number request rooms (Some j) (Err r) same ready none room = tt

-- what is ready can be finished, and the journal refuses nothing
pub decided-ready : (s : State) (entries : List Entry) (terminal number : ℕ) (request : Request) (rooms : Rooms) (told : Result Prepared Refusal)
    → IfOk told (IsReady s request) → OnOk told (refusal s request ≡ None) → IfOk told (HasRoom rooms request)
    → IfOk (order_refusals (journal_refusal entries terminal number) told) (CanFinish s entries terminal number request rooms)
decided-ready s entries terminal number request rooms told ready none room =
    ready-by s entries terminal number request rooms (journal_refusal entries terminal number) told refl ready none room

-- the refusal with a number below 10 goes before the journal's, another one behind it
by-number : (e : Refusal) (journal : Option Refusal) (low : Bool)
    → option_or (option_or (if low then Some e else None) (option_or journal (Some e))) (Some NoMemory) ≡ Some (unwrap_or (option_or (if low then Some e else None) journal) e)
by-number e None true = refl
by-number e (Some j) true = refl
by-number e None false = refl
by-number e (Some j) false = refl

same-refusal : (f e : Refusal) → Some f ≡ Some e → f ≡ e
same-refusal f e h = cc

refused-by : (first journal : Option Refusal) (told : Result Prepared Refusal)
    → OnOk told (first ≡ None) → IfErr told (λ e. option_or first (Some NoMemory) ≡ Some e)
    → IfErr (order_refusals journal told) (λ r. option_or (option_or (early first) (option_or journal first)) (Some NoMemory) ≡ Some r)
refused-by None None (Ok p) none some = tt
refused-by None (Some j) (Ok p) none some = refl
refused-by (Some f) None (Ok p) none some = tt
refused-by (Some f) (Some j) (Ok p) none some = absurd cc
refused-by None None (Err e) none some = subst (λ e. Some NoMemory ≡ Some (unwrap_or (option_or (early (Some e)) None) e)) (same-refusal NoMemory e some) refl
refused-by None (Some j) (Err e) none some = subst (λ e. Some j ≡ Some (unwrap_or (option_or (early (Some e)) (Some j)) e)) (same-refusal NoMemory e some) refl
refused-by (Some f) None (Err e) none some =
    subst (λ e. option_or (option_or (early (Some f)) (option_or None (Some f))) (Some NoMemory) ≡ Some (unwrap_or (option_or (early (Some e)) None) e)) (same-refusal f e some) (by-number f None (nat_lt (refusal_number f) 10))
refused-by (Some f) (Some j) (Err e) none some =
    subst (λ e. option_or (option_or (early (Some f)) (option_or (Some j) (Some f))) (Some NoMemory) ≡ Some (unwrap_or (option_or (early (Some e)) (Some j)) e)) (same-refusal f e some) (by-number f (Some j) (nat_lt (refusal_number f) 10))

-- what is told is the first refusal that applies
pub decided-refused : (s : State) (entries : List Entry) (terminal number : ℕ) (request : Request) (told : Result Prepared Refusal)
    → OnOk told (refusal s request ≡ None) → IfErr told (λ e. option_or (refusal s request) (Some NoMemory) ≡ Some e)
    → IfErr (order_refusals (journal_refusal entries terminal number) told) (λ r. option_or (turn_refusal s entries terminal number request) (Some NoMemory) ≡ Some r)
unfolding turn_refusal
decided-refused s entries terminal number request told none some =
    refused-by (refusal s request) (journal_refusal entries terminal number) told none some

-- what was prepared and told can be finished
pub ready-told : (s : State) (entries : List Entry) (terminal number : ℕ) (request : Request) (rooms : Rooms) (journal : Option Refusal) (told : Result Prepared Refusal) (prepared : Prepared)
    → journal ≡ journal_refusal entries terminal number → Ok prepared ≡ order_refusals journal told
    → IfOk told (IsReady s request) → OnOk told (refusal s request ≡ None) → IfOk told (HasRoom rooms request)
    → CanFinish s entries terminal number request rooms prepared
ready-told s entries terminal number request rooms journal told prepared same is ready none room =
    rw (← is) at (ready-by s entries terminal number request rooms journal told same ready none room)

-- what is told is the first refusal
pub refusal-told : (s : State) (entries : List Entry) (terminal number : ℕ) (request : Request) (journal : Option Refusal) (told : Result Prepared Refusal) (r : Refusal)
    → journal ≡ journal_refusal entries terminal number → Err r ≡ order_refusals journal told
    → OnOk told (refusal s request ≡ None) → IfErr told (λ e. option_or (refusal s request) (Some NoMemory) ≡ Some e)
    → option_or (turn_refusal s entries terminal number request) (Some NoMemory) ≡ Some r
refusal-told s entries terminal number request journal told r same is none some =
    rw (← is) at (rw (← same) at (decided-refused s entries terminal number request told none some))

-- where nothing applies, out of memory is the refusal
pub memory-told : (first : Option Refusal) → first ≡ None → option_or first (Some NoMemory) ≡ Some NoMemory
memory-told first none = rw none refl
