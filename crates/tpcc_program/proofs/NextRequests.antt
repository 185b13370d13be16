-- The lines of a terminal's cards, card by card.
use Rattle.std.proofs.Common.{◌≡◌, ◌∙◌, sym, refl, ap, subst, ℕ, zero, suc, ◌+◌, ◌<◌, ◌≤◌, List, [], ◌++◌, append_assoc, append-nil, arith}
use Rattle.std.specs.Prelude.{Option}
use Rattle.std.specs.Io.KnownBytes.{Appends}
use Rattle.tpcc_draws.specs.Draws.{answers}
use Rattle.tpcc_rows.specs.Layout.{Scale}
use Rattle.tpcc_text.specs.Prefix.{AppendsPrefix, PassesBytes}
use Rattle.tpcc_text.proofs.BlockSteps.{all_wait, in_turn, cut_first, cut_later, ends_whole, ends_part}
use Rattle.tpcc_terminal.specs.Cards.{home_of, request_of}
use Rattle.tpcc_text.specs.RequestLines.{request_line}
use Rattle.tpcc_terminal.specs.Terminals.{TerminalView, IsStarted, ahead_of, drawn_ahead}
use Rattle.tpcc_program.specs.Requests.{asked_from, asked_by, request_lines}
use Rattle.tpcc_program.specs.Internal.Requests.{IsTold, asked_next, next_line}

-- the lines of the cards so far, and what those that are left will ask
pub record SoFar (start : TerminalView) (moment cards done : ℕ) (held now : Option (List ℕ)) (waited waits : List ℕ) (t : TerminalView) : Type 0 where
  pub number_is : t.number ≡ start.number
  pub scale_is : t.scale ≡ start.scale
  pub left : ℕ
  pub left_is : done + left ≡ cards
  pub text : List ℕ
  pub passed : PassesBytes held now (waited ++ text) waits
  pub whole : text ++ request_lines (asked_from left (home_of start.number start.scale) moment (ahead_of t)) ≡ request_lines (asked_next start moment cards)

pub starts : (start : TerminalView) (moment cards : ℕ) (held : Option (List ℕ)) (waits : List ℕ) → SoFar start moment cards 0 held held waits waits start
starts start moment cards held waits = record {
  number_is = refl;
  scale_is = refl;
  left = cards;
  left_is = omega arith;
  text = [];
  passed = subst (λ z. PassesBytes held held z waits) (sym (append-nil waits)) (all_wait held waits);
  whole = refl;
}

-- the line of the next card
line_is : (start t : TerminalView) (moment : ℕ) → t.number ≡ start.number → t.scale ≡ start.scale
    → next_line t moment ≡ request_line (request_of (home_of start.number start.scale) moment t.draft)
line_is start t moment number_is scale_is = λ i. request_line (request_of (home_of (number_is i) (scale_is i)) moment t.draft)

more : (start : TerminalView) (moment cards done left : ℕ) (held now next : Option (List ℕ)) (waited waits after : List ℕ) (t new : TerminalView) (text : List ℕ)
    → t.number ≡ start.number → t.scale ≡ start.scale → done + left ≡ cards → done < cards → PassesBytes held now (waited ++ text) waits
    → text ++ request_lines (asked_from left (home_of start.number start.scale) moment (ahead_of t)) ≡ request_lines (asked_next start moment cards)
    → IsTold t new → PassesBytes now next (waits ++ next_line t moment) after → SoFar start moment cards (done + 1) held next waited after new
more start moment cards done zero held now next waited waits after t new text number_is scale_is sum less passed whole told put = absurd (omega (arith, sum, less))
more start moment cards done (suc left) held now next waited waits after t new text number_is scale_is sum less passed whole told put =
    let home : home_of t.number t.scale ≡ home_of start.number start.scale = λ i. home_of (number_is i) (scale_is i) in
    let line = request_line (request_of (home_of start.number start.scale) moment t.draft) in
    let rest = request_lines (asked_from left (home_of start.number start.scale) moment (ahead_of new)) in
    let ahead : ahead_of new ≡ drawn_ahead (home_of start.number start.scale) t.cards (answers t.generator) = told.ahead ∙ (λ i. drawn_ahead (home i) t.cards (answers t.generator)) in
    let behind = subst (λ z. PassesBytes now next (waits ++ z) after) (line_is start t moment number_is scale_is) put in
    record {
      number_is = told.number ∙ number_is;
      scale_is = told.scale ∙ scale_is;
      left = left;
      left_is = omega (arith, sum);
      text = text ++ line;
      passed = in_turn held now next waited text line waits after passed behind;
      whole = append_assoc text line rest ∙ ap (λ a. text ++ (line ++ request_lines (asked_from left (home_of start.number start.scale) moment a))) ahead ∙ whole;
    }

pub goes_on : (start : TerminalView) (moment cards done : ℕ) (held now next : Option (List ℕ)) (waited waits after : List ℕ) (t new : TerminalView)
    → SoFar start moment cards done held now waited waits t → done < cards → IsTold t new → PassesBytes now next (waits ++ next_line t moment) after
    → SoFar start moment cards (done + 1) held next waited after new
goes_on start moment cards done held now next waited waits after t new so less told put =
    more start moment cards done so.left held now next waited waits after t new so.text so.number_is so.scale_is so.left_is less so.passed so.whole told put

cut_at : (start : TerminalView) (moment cards done left : ℕ) (held now next : Option (List ℕ)) (waited waits : List ℕ) (t : TerminalView) (text : List ℕ)
    → t.number ≡ start.number → t.scale ≡ start.scale → done + left ≡ cards → done < cards → PassesBytes held now (waited ++ text) waits
    → text ++ request_lines (asked_from left (home_of start.number start.scale) moment (ahead_of t)) ≡ request_lines (asked_next start moment cards)
    → AppendsPrefix now next (waits ++ next_line t moment) → AppendsPrefix held next (waited ++ request_lines (asked_next start moment cards))
cut_at start moment cards done zero held now next waited waits t text number_is scale_is sum less passed whole part = absurd (omega (arith, sum, less))
cut_at start moment cards done (suc left) held now next waited waits t text number_is scale_is sum less passed whole part =
    let home = home_of start.number start.scale in
    let line = request_line (request_of home moment t.draft) in
    let rest = request_lines (asked_from left home moment (drawn_ahead home t.cards (answers t.generator))) in
    let behind = subst (λ z. AppendsPrefix now next (waits ++ z)) (line_is start t moment number_is scale_is) part in
    let first = cut_later held now next waited text line waits passed behind in
    subst (λ z. AppendsPrefix held next (waited ++ z)) (append_assoc text line rest ∙ whole) (cut_first held next waited (text ++ line) rest first)

-- cut off in the line of the next card
pub is_cut : (start : TerminalView) (moment cards done : ℕ) (held now next : Option (List ℕ)) (waited waits : List ℕ) (t : TerminalView)
    → SoFar start moment cards done held now waited waits t → done < cards → AppendsPrefix now next (waits ++ next_line t moment)
    → AppendsPrefix held next (waited ++ request_lines (asked_next start moment cards))
is_cut start moment cards done held now next waited waits t so less part =
    cut_at start moment cards done so.left held now next waited waits t so.text so.number_is so.scale_is so.left_is less so.passed so.whole part

all_but : (start : TerminalView) (moment cards done left : ℕ) (held now : Option (List ℕ)) (waited waits : List ℕ) (t : TerminalView) (text : List ℕ)
    → done + left ≡ cards → cards ≤ done → PassesBytes held now (waited ++ text) waits
    → text ++ request_lines (asked_from left (home_of start.number start.scale) moment (ahead_of t)) ≡ request_lines (asked_next start moment cards)
    → PassesBytes held now (waited ++ request_lines (asked_next start moment cards)) waits
all_but start moment cards done zero held now waited waits t text sum most passed whole =
    subst (λ z. PassesBytes held now (waited ++ z) waits) (sym (append-nil text) ∙ whole) passed
all_but start moment cards done (suc left) held now waited waits t text sum most passed whole = absurd (omega (arith, sum, most))

-- no card is left
pub ends : (start : TerminalView) (moment cards done : ℕ) (held now : Option (List ℕ)) (waited waits : List ℕ) (t : TerminalView)
    → SoFar start moment cards done held now waited waits t → cards ≤ done
    → PassesBytes held now (waited ++ request_lines (asked_next start moment cards)) waits
ends start moment cards done held now waited waits t so most =
    all_but start moment cards done so.left held now waited waits t so.text so.left_is most so.passed so.whole

asked_is : (number : ℕ) (scale : Scale) (seed moment cards : ℕ) (t : TerminalView) → IsStarted number scale seed t
    → request_lines (asked_next t moment cards) ≡ request_lines (asked_by number scale seed moment cards)
asked_is number scale seed moment cards t started =
    let home : home_of t.number t.scale ≡ home_of number scale = λ i. home_of (started.number_is i) (started.scale_is i) in
    λ i. request_lines (asked_from cards (home i) moment (started.ahead i))

-- the next cards of a terminal that has asked none are its first
pub first_cards : (number : ℕ) (scale : Scale) (seed moment cards : ℕ) (a b c : Option (List ℕ)) (waits : List ℕ) (t : TerminalView)
    → IsStarted number scale seed t → PassesBytes a b ([] ++ request_lines (asked_next t moment cards)) waits → Appends b c waits
    → Appends a c (request_lines (asked_by number scale seed moment cards))
first_cards number scale seed moment cards a b c waits t started passed added =
    subst (Appends a c) (asked_is number scale seed moment cards t started)
    (ends_whole a b c (request_lines (asked_next t moment cards)) waits passed added)

-- cut off while they are put
pub first_cut : (number : ℕ) (scale : Scale) (seed moment cards : ℕ) (a b : Option (List ℕ)) (t : TerminalView)
    → IsStarted number scale seed t → AppendsPrefix a b ([] ++ request_lines (asked_next t moment cards))
    → AppendsPrefix a b (request_lines (asked_by number scale seed moment cards))
first_cut number scale seed moment cards a b t started part =
    subst (AppendsPrefix a b) (asked_is number scale seed moment cards t started) part

-- or while what waits is written
pub last_cut : (number : ℕ) (scale : Scale) (seed moment cards : ℕ) (a b c : Option (List ℕ)) (waits : List ℕ) (t : TerminalView)
    → IsStarted number scale seed t → PassesBytes a b ([] ++ request_lines (asked_next t moment cards)) waits → AppendsPrefix b c waits
    → AppendsPrefix a c (request_lines (asked_by number scale seed moment cards))
last_cut number scale seed moment cards a b c waits t started passed part =
    subst (AppendsPrefix a c) (asked_is number scale seed moment cards t started)
    (ends_part a b c (request_lines (asked_next t moment cards)) waits passed part)
