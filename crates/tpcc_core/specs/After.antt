-- The desks that lists of events lead to.
use Rattle.std.specs.Prelude.{ℕ, ◌≡◌, ◌≤◌, Bool, true, List}
use Rattle.std.specs.List.{list_all}
use Rattle.tpcc_rows.specs.declared.transactions.requests.Request.{Request}
use Rattle.tpcc_rows.specs.Moments.{has_moment_in_range}
use Rattle.tpcc_population.specs.declared.opening.Opening.{Opening}
use Rattle.tpcc_book.specs.Purses.{most_purses}
use Rattle.tpcc_core.specs.declared.event.Event.{Event}
use Rattle.tpcc_core.specs.declared.event.Event.TheVariants as event
use Rattle.tpcc_core.specs.declared.mailbox.Collected.{Collected}
use Rattle.tpcc_core.specs.Desks.{DeskNow}
use Rattle.tpcc_core.specs.Runs.{Passes}
use Rattle.tpcc_core.specs.OpeningDesk.{opening_desk}
use Rattle.tpcc_core.specs.Traces.{posts_of, served_of}

-- the request of a post has its moment in range
abbrev pub is_in_range : Event → Bool
is_in_range (event.Post terminal request) = has_moment_in_range request
is_in_range (event.Take server terminal) = true
is_in_range (event.Serve server) = true
is_in_range (event.Answer server) = true
is_in_range (event.Collect terminal) = true
is_in_range event.Close = true

-- some run of these events, from the desk of the opening, ends in this desk
pub record After (opening : Opening) (terminals servers : ℕ) (events : List Event) (desk : DeskNow) : Type 0 where
  pub terminals_in : (1 ≤ terminals) × (terminals ≤ most_purses)
  pub servers_in : 1 ≤ servers
  pub in_range : list_all is_in_range events ≡ true
  pub passes : Passes (opening_desk opening terminals servers) events desk

-- the requests of a terminal's ready posts in that run, in posting order
abbrev pub posted_requests : {opening : Opening} {terminals servers : ℕ} {events : List Event} {desk : DeskNow} → After opening terminals servers events desk → ℕ → List Request
posted_requests {opening} {terminals} {servers} {events} {desk} after t = posts_of t (opening_desk opening terminals servers) events desk after.passes

-- what the book answered it in that run, refusals too, in the order of serving
abbrev pub served_answers : {opening : Opening} {terminals servers : ℕ} {events : List Event} {desk : DeskNow} → After opening terminals servers events desk → ℕ → List Collected
served_answers {opening} {terminals} {servers} {events} {desk} after t = served_of t (opening_desk opening terminals servers) events desk after.passes
