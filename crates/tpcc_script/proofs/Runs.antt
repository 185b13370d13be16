-- A run of a script, line by line.
use Rattle.std.proofs.Common.{◌≡◌, ◌∙◌, sym, refl, ap, ℕ, ◌+◌, List, [], ◌∷◌, ◌++◌, append_assoc, append-nil, Bool, true, false, Option, Some, None, inl, inr}
use Rattle.std.specs.Prelude.{◌⊎◌, Ok, Err}
use Rattle.std.specs.Io.KnownBytes.{Appends}
use Rattle.tpcc_text.specs.declared.script.call.Call.{Call}
use Rattle.tpcc_text.specs.declared.script.fault.ScriptFault.{ScriptFault}
use Rattle.tpcc_text.specs.declared.script.fault.ScriptFault.TheVariants.{Bad, Cut, LongLine, TooManyLines, Read, Write, NoMemory}
use Rattle.tpcc_text.specs.Script.{Script, script_of, with_call, ends, fails}
use Rattle.tpcc_script.specs.ScriptBook.{ScriptBook}
use Rattle.tpcc_script.specs.Run.{Shows, Prints, Wrote, WroteFirst, WroteButLast, IsRun, IsCounted, HasRun}
use Rattle.tpcc_script.specs.Internal.Steps.{says, IsLineServed, IsLineUnshown, IsEnd, IsStep, IsStillBroken, IsLineBroken}
use Rattle.tpcc_text.specs.Prefix.{PassesBytes}
use Rattle.tpcc_text.proofs.BlockSteps.{all_wait, passes-on, passes-all, passes-part, passes-some}

abbrev pub with_calls : List Call → Script → Script
with_calls [] script = script
with_calls (call ∷ calls) script = with_call call (with_calls calls script)

-- what has been done before the line of a number: of the screens a sink got the first bytes, and the others wait
pub record SoFar (start now : ScriptBook) (bytes : List ℕ) (left : Option (List ℕ)) (held sink : Option (List ℕ)) (waits : List ℕ) (number : ℕ) : Type 0 where
  pub done : List Call
  pub text : List ℕ
  pub rest : List ℕ
  pub prints : Prints start done text now
  pub passed : PassesBytes held sink text waits
  pub left_is : left ≡ Some rest
  pub says_is : script_of bytes ≡ with_calls done (says number rest)

with_calls-more : (calls : List Call) (call : Call) (s : Script) → with_calls (calls ++ call ∷ []) s ≡ with_calls calls (with_call call s)
with_calls-more [] call s = refl
with_calls-more (c ∷ calls) call s = ap (with_call c) (with_calls-more calls call s)

with_calls-calls : (calls : List Call) (s : Script) → (with_calls calls s).calls ≡ calls ++ s.calls
with_calls-calls [] s = refl
with_calls-calls (c ∷ calls) s = ap (λ xs. c ∷ xs) (with_calls-calls calls s)

with_calls-fault : (calls : List Call) (s : Script) → (with_calls calls s).fault ≡ s.fault
with_calls-fault [] s = refl
with_calls-fault (c ∷ calls) s = with_calls-fault calls s

pub prints-more : (old mid new : ScriptBook) (calls : List Call) (call : Call) (text screen : List ℕ)
    → Prints old calls text mid → Shows mid call screen new → Prints old (calls ++ call ∷ []) (text ++ screen) new
prints-more old mid new [] call text screen h shows =
    (screen, [], new, rw h.1 at shows, rw h.0 (sym (append-nil screen)), (refl, refl))
prints-more old mid new (c ∷ calls) call text screen h shows =
    (h.0, h.1 ++ screen, h.2, h.3, ap (λ z. z ++ screen) h.4 ∙ append_assoc h.0 h.1 screen, prints-more h.2 mid new calls call h.1 screen h.5 shows)

pub begins : (start : ScriptBook) (bytes : List ℕ) (left held : Option (List ℕ)) (waits : List ℕ) → waits ≡ [] → left ≡ Some bytes → SoFar start start bytes left held held waits 1
unfolding script_of
begins start bytes left held waits none e =
    rw none (record { done = []; text = []; rest = bytes; prints = (refl, refl); passed = all_wait held []; left_is = e; says_is = refl })

-- a line's call behind those before it
with_one_call_more : (bytes : List ℕ) (done : List Call) (call : Call) (last next : Script)
    → script_of bytes ≡ with_calls done last → last ≡ with_call call next → script_of bytes ≡ with_calls (done ++ call ∷ []) next
with_one_call_more bytes done call last next e f = e ∙ ap (with_calls done) f ∙ sym (with_calls-more done call next)

pub goes_on : (start now new : ScriptBook) (bytes : List ℕ) (left left_new held sink sink_new : Option (List ℕ)) (waits more : List ℕ) (number : ℕ)
    → (so : SoFar start now bytes left held sink waits number) → IsStep number so.rest now new left_new sink sink_new waits more (Ok true)
    → SoFar start new bytes left_new held sink_new more (number + 1)
goes_on start now new bytes left left_new held sink sink_new waits more number so step =
    let line = step.served in
    record {
      done = so.done ++ line.call ∷ [];
      text = so.text ++ step.screen;
      rest = line.rest;
      prints = prints-more start now new so.done line.call so.text step.screen so.prints line.shows;
      passed = passes-on held sink sink_new so.text waits step.screen more so.passed step.passed;
      left_is = line.left_is;
      says_is = with_one_call_more bytes so.done line.call (says number so.rest) (says (number + 1) line.rest) so.says_is line.says_is;
    }

-- the calls of a script that says no more, and its fault
calls_at_end : (script : Script) (done : List Call) (last : Script) → script ≡ with_calls done last → last.calls ≡ [] → script.calls ≡ done
calls_at_end script done last e none = ap (λ (s : Script). s.calls) e ∙ with_calls-calls done last ∙ ap (λ xs. done ++ xs) none ∙ append-nil done

faulty : (script : Script) (done : List Call) (last : Script) → script ≡ with_calls done last → script.fault ≡ last.fault
faulty script done last e = ap (λ (s : Script). s.fault) e ∙ with_calls-fault done last

-- all that waited was written, and the book is the same
wrote_done : (start now new : ScriptBook) (bytes : List ℕ) (left held sink sink_new : Option (List ℕ)) (waits : List ℕ) (number : ℕ) (calls : List Call)
    → (so : SoFar start now bytes left held sink waits number) → new ≡ now → Appends sink sink_new waits → calls ≡ so.done → Wrote start calls held sink_new new
wrote_done start now new bytes left held sink sink_new waits number calls so same added e =
    rw (e, same) (record { text = so.text; prints = so.prints; added = passes-all held sink sink_new so.text waits so.passed added })

ended_with : (start now new : ScriptBook) (bytes : List ℕ) (left held sink sink_new : Option (List ℕ)) (waits : List ℕ) (number : ℕ) (last : Script)
    → (so : SoFar start now bytes left held sink waits number) → IsEnd number so.rest last now new → Appends sink sink_new waits → last.calls ≡ []
    → ((script_of bytes).fault ≡ last.fault) × Wrote start (script_of bytes).calls held sink_new new
ended_with start now new bytes left held sink sink_new waits number last so step added none =
    let e = so.says_is ∙ ap (with_calls so.done) step.says_is in
    (faulty (script_of bytes) so.done last e, wrote_done start now new bytes left held sink sink_new waits number (script_of bytes).calls so step.book added (calls_at_end (script_of bytes) so.done last e none))

-- the calls that were served and those that follow
calls-split : (start now : ScriptBook) (bytes : List ℕ) (left held sink : Option (List ℕ)) (waits : List ℕ) (number : ℕ)
    → (so : SoFar start now bytes left held sink waits number) → (script_of bytes).calls ≡ so.done ++ (says number so.rest).calls
calls-split start now bytes left held sink waits number so = ap (λ (s : Script). s.calls) so.says_is ∙ with_calls-calls so.done (says number so.rest)

-- at a fault of reading or memory
run_stops : (start now new : ScriptBook) (bytes : List ℕ) (left held sink sink_new : Option (List ℕ)) (waits : List ℕ) (number : ℕ)
    → (so : SoFar start now bytes left held sink waits number) → new ≡ now → Appends sink sink_new waits → WroteFirst start (script_of bytes).calls held sink_new new
run_stops start now new bytes left held sink sink_new waits number so same added = record {
  done = so.done;
  rest = (says number so.rest).calls;
  calls_are = calls-split start now bytes left held sink waits number so;
  wrote = wrote_done start now new bytes left held sink sink_new waits number so.done so same added refl;
}

-- where the last screen was refused memory
run_ends_unshown : (start now new : ScriptBook) (bytes screen : List ℕ) (left left_new held sink sink_new : Option (List ℕ)) (waits : List ℕ) (number : ℕ)
    → (so : SoFar start now bytes left held sink waits number) → IsLineServed number so.rest now screen new left_new → Appends sink sink_new waits
    → WroteButLast start (script_of bytes).calls held sink_new new
run_ends_unshown start now new bytes screen left left_new held sink sink_new waits number so served added = record {
  done = so.done;
  last = served.call;
  rest = (says (number + 1) served.rest).calls;
  calls_are = calls-split start now bytes left held sink waits number so ∙ ap (λ (s : Script). so.done ++ s.calls) served.says_is;
  before = now;
  wrote = wrote_done start now now bytes left held sink sink_new waits number so.done so refl added refl;
  screen = screen;
  served = served.shows;
}

refused-memory : (start now new : ScriptBook) (bytes : List ℕ) (left left_new held sink sink_new : Option (List ℕ)) (waits : List ℕ) (number : ℕ)
    → (so : SoFar start now bytes left held sink waits number) → (new ≡ now) ⊎ IsLineUnshown number so.rest now new left_new → Appends sink sink_new waits
    → IsRun start (script_of bytes) held sink_new new (Err NoMemory)
refused-memory start now new bytes left left_new held sink sink_new waits number so (inl same) added =
    inl (run_stops start now new bytes left held sink sink_new waits number so same added)
refused-memory start now new bytes left left_new held sink sink_new waits number so (inr line) added =
    inr (run_ends_unshown start now new bytes line.screen left left_new held sink sink_new waits number so line.served added)

-- where the sink was given up: at what waited, or at the last screen too
broken-still : (start now new : ScriptBook) (bytes : List ℕ) (left held sink sink_new : Option (List ℕ)) (waits : List ℕ) (number : ℕ)
    → (so : SoFar start now bytes left held sink waits number) → IsStillBroken now new sink sink_new waits
    → IsRun start (script_of bytes) held sink_new new (Err Write)
broken-still start now new bytes left held sink sink_new waits number so step =
    let p = passes-some held sink sink_new so.text waits so.passed step.part in
    record {
      done = so.done;
      rest = (says number so.rest).calls;
      calls_are = calls-split start now bytes left held sink waits number so;
      wrote = rw step.book (record { text = so.text; prints = so.prints; count = p.count; within = p.within; added = p.added });
    }

broken-line : (start now new : ScriptBook) (bytes : List ℕ) (left left_new held sink sink_new : Option (List ℕ)) (waits : List ℕ) (number : ℕ)
    → (so : SoFar start now bytes left held sink waits number) → IsLineBroken number so.rest now new left_new sink sink_new waits
    → IsRun start (script_of bytes) held sink_new new (Err Write)
broken-line start now new bytes left left_new held sink sink_new waits number so step =
    let line = step.served in
    let calls = so.done ++ line.call ∷ [] in
    let rest = says (number + 1) line.rest in
    let e = with_one_call_more bytes so.done line.call (says number so.rest) rest so.says_is line.says_is in
    let p = passes-part held sink sink_new so.text waits step.screen so.passed step.part in
    record {
      done = calls;
      rest = rest.calls;
      calls_are = ap (λ (s : Script). s.calls) e ∙ with_calls-calls calls rest;
      wrote = record {
        text = so.text ++ step.screen;
        prints = prints-more start now new so.done line.call so.text step.screen so.prints line.shows;
        count = p.count;
        within = p.within;
        added = p.added;
      };
    }

run_breaks : (start now new : ScriptBook) (bytes : List ℕ) (left left_new held sink sink_new : Option (List ℕ)) (waits : List ℕ) (number : ℕ)
    → (so : SoFar start now bytes left held sink waits number) → IsStillBroken now new sink sink_new waits ⊎ IsLineBroken number so.rest now new left_new sink sink_new waits
    → IsRun start (script_of bytes) held sink_new new (Err Write)
run_breaks start now new bytes left left_new held sink sink_new waits number so (inl step) = broken-still start now new bytes left held sink sink_new waits number so step
run_breaks start now new bytes left left_new held sink sink_new waits number so (inr step) = broken-line start now new bytes left left_new held sink sink_new waits number so step

pub ends_so : (start now new : ScriptBook) (bytes : List ℕ) (left left_new held sink sink_new : Option (List ℕ)) (waits more : List ℕ) (number : ℕ)
    → (so : SoFar start now bytes left held sink waits number) → IsStep number so.rest now new left_new sink sink_new waits more (Ok false)
    → IsRun start (script_of bytes) held sink_new new (Ok tt)
ends_so start now new bytes left left_new held sink sink_new waits more number so step =
    ended_with start now new bytes left held sink sink_new waits number ends so step.0 step.1 refl

pub fails_so : (start now new : ScriptBook) (bytes : List ℕ) (left left_new held sink sink_new : Option (List ℕ)) (waits more : List ℕ) (number : ℕ) (fault : ScriptFault)
    → (so : SoFar start now bytes left held sink waits number) → IsStep number so.rest now new left_new sink sink_new waits more (Err fault)
    → IsRun start (script_of bytes) held sink_new new (Err fault)
fails_so start now new bytes left left_new held sink sink_new waits more number (Bad n) so step = ended_with start now new bytes left held sink sink_new waits number (fails (Bad n)) so step.stopped step.added refl
fails_so start now new bytes left left_new held sink sink_new waits more number (Cut n) so step = ended_with start now new bytes left held sink sink_new waits number (fails (Cut n)) so step.stopped step.added refl
fails_so start now new bytes left left_new held sink sink_new waits more number (LongLine n) so step = ended_with start now new bytes left held sink sink_new waits number (fails (LongLine n)) so step.stopped step.added refl
fails_so start now new bytes left left_new held sink sink_new waits more number TooManyLines so step = ended_with start now new bytes left held sink sink_new waits number (fails TooManyLines) so step.stopped step.added refl
fails_so start now new bytes left left_new held sink sink_new waits more number Read so step = run_stops start now new bytes left held sink sink_new waits number so step.stopped step.added
fails_so start now new bytes left left_new held sink sink_new waits more number NoMemory so step =
    refused-memory start now new bytes left left_new held sink sink_new waits number so step.stopped step.added
fails_so start now new bytes left left_new held sink sink_new waits more number Write so step =
    run_breaks start now new bytes left left_new held sink sink_new waits number so step

pub ends_at : (start now new : ScriptBook) (bytes : List ℕ) (left left_new held sink sink_new : Option (List ℕ)) (waits waits_new : List ℕ) (number : ℕ) (more : Bool) → more ≡ false
    → (so : SoFar start now bytes left held sink waits number) → IsStep number so.rest now new left_new sink sink_new waits waits_new (Ok more)
    → IsRun start (script_of bytes) held sink_new new (Ok tt)
ends_at start now new bytes left left_new held sink sink_new waits waits_new number more e so step =
    let k = rw e at step in
    ends_so start now new bytes left left_new held sink sink_new waits waits_new number so k

pub goes_at : (start now new : ScriptBook) (bytes : List ℕ) (left left_new held sink sink_new : Option (List ℕ)) (waits waits_new : List ℕ) (number : ℕ) (more : Bool) → more ≡ true
    → (so : SoFar start now bytes left held sink waits number) → IsStep number so.rest now new left_new sink sink_new waits waits_new (Ok more)
    → SoFar start new bytes left_new held sink_new waits_new (number + 1)
goes_at start now new bytes left left_new held sink sink_new waits waits_new number more e so step =
    let k = rw e at step in
    goes_on start now new bytes left left_new held sink sink_new waits waits_new number so k

-- before the first line
pub not_begun : (start : ScriptBook) (script : Script) (sink : Option (List ℕ)) → IsRun start script sink sink start (Err NoMemory)
not_begun start script None = inl (record { done = []; rest = script.calls; calls_are = refl; wrote = record { text = []; prints = (refl, refl); added = tt } })
not_begun start script (Some held) =
    inl (record { done = []; rest = script.calls; calls_are = refl; wrote = record { text = []; prints = (refl, refl); added = sym (append-nil held) } })

pub not_started : (start : ScriptBook) (script : Script) (sink : Option (List ℕ)) → HasRun start script sink sink (Err NoMemory)
not_started start script sink = (start, not_begun start script sink)

-- a run that tells its entries fails as one that doesn't
pub counted_fault : (start : ScriptBook) (script : Script) (old new : Option (List ℕ)) (left : ScriptBook) (fault : ScriptFault) → IsRun start script old new left (Err fault) → IsCounted start script old new left (Err fault)
counted_fault start script old new left fault run = run
