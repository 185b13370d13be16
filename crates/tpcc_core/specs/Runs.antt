-- Lists of events: what a desk goes through.
use Rattle.std.specs.Prelude.{◌≡◌, ℕ, Bool, true, false, List, [], ◌∷◌, slice_get, Some}
use Rattle.tpcc_core.specs.declared.event.Event.{Event}
use Rattle.tpcc_core.specs.Desks.{DeskNow}
use Rattle.tpcc_core.specs.Events.{is_ready, is_post, Steps}

-- an event that is ready does its case; one that is not changes nothing
abbrev pub MovesBy : Bool → DeskNow → Event → DeskNow → Type 0
MovesBy true old e new = Steps old e new
MovesBy false old e new = new ≡ old

abbrev pub Moves : DeskNow → Event → DeskNow → Type 0
Moves old e new = MovesBy (is_ready old e) old e new

-- the desk after a list of events, each in its turn
abbrev pub Passes : DeskNow → List Event → DeskNow → Type 0
Passes old [] new = new ≡ old
Passes old (e ∷ es) new = (between : DeskNow) × Moves old e between × Passes between es new

-- the event of this place, which was to be next: a post that the desk is ready for
pub record StopsAt (events : List Event) (place : ℕ) (desk : DeskNow) : Type 0 where
  pub event : Event
  pub found : slice_get events place ≡ Some event
  pub ready : is_ready desk event ≡ true
  pub post : is_post event ≡ true
