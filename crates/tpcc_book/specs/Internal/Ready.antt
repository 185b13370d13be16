-- What a prepared request is: finishing it takes no memory and can't fail.
use Rattle.std.specs.Prelude.{ℕ, ◌≡◌, ◌<◌, List, Option, Some, None, Result, Ok, Err, unwrap_or, true}
use Rattle.std.specs.Option.{option_or}
use Rattle.tpcc_rows.specs.declared.transactions.entry.Entry.{Entry}
use Rattle.tpcc_rows.specs.declared.transactions.refusals.Refusal.{Refusal}
use Rattle.tpcc_rows.specs.declared.transactions.requests.Request.{Request}
use Rattle.tpcc_rows.specs.declared.transactions.requests.Request.TheVariants as ask
use Rattle.tpcc_rows.specs.Ranges.{is_carrier}
use Rattle.tpcc_rows.specs.Tables.{State}
use Rattle.tpcc_tables.specs.TablesView.{TablesView}
use Rattle.tpcc_delivery.specs.QueueView.{QueueView}
use Rattle.tpcc_rows.specs.Lookups.{stock_reply}
use Rattle.tpcc_rows.specs.Turn.{refusal}
use Rattle.tpcc_new_order.specs.Prepares.{IsPrepared as IsPreparedOrder, HasRoom as HasRoomForOrder}
use Rattle.tpcc_delivery.specs.Runs.{IsPreparedRun}
use Rattle.tpcc_payment.specs.Prepares.{IsPrepared as IsPreparedPayment}
use Rattle.tpcc_book.specs.declared.register.halves.Prepared.{Prepared}
use Rattle.tpcc_book.specs.declared.register.halves.Prepared.TheVariants as ready
use Rattle.tpcc_book.specs.Turn.{early, turn_refusal}

-- what was found out of the request is so, at this state
unfoldable pub IsReady : State → Request → Prepared → Type 0
IsReady s (ask.NewOrder order) (ready.NewOrder prepared) = IsPreparedOrder s.rows order prepared
IsReady s (ask.Payment payment) (ready.Payment prepared) = IsPreparedPayment s.rows payment prepared
IsReady s (ask.Status query) prepared = Unit {0}
IsReady s (ask.Stock query) (ready.Level shown) = shown ≡ stock_reply s.rows query
IsReady s (ask.Delivery ticket) prepared = is_carrier ticket.carrier ≡ true
IsReady s (ask.Deliver at) (ready.Run run) = IsPreparedRun s.rows s.queue at run
IsReady s request prepared = ⊥

-- the rooms that were made: for the lines of an order, for payments and for tickets
pub record Rooms : Type 0 where
  pub order : ℕ
  pub payment : ℕ
  pub ticket : ℕ

-- the state of the tables and the queue, and the rooms in them
abbrev pub state_of : TablesView → QueueView → State
state_of tables queue = record { rows = tables.rows; queue = queue.tickets }

abbrev pub room_in : TablesView → QueueView → Rooms
room_in tables queue = record { order = tables.order_room; payment = tables.payment_room; ticket = queue.room }

-- the room that it needs
unfoldable pub HasRoom : Rooms → Request → Prepared → Type 0
HasRoom rooms (ask.NewOrder order) (ready.NewOrder prepared) = HasRoomForOrder rooms.order order prepared
HasRoom rooms (ask.Payment payment) prepared = 0 < rooms.payment
HasRoom rooms (ask.Delivery ticket) prepared = 0 < rooms.ticket
HasRoom rooms request prepared = Unit {0}

-- a turn that nothing refuses, and can be finished
pub record CanFinish (s : State) (entries : List Entry) (terminal number : ℕ) (request : Request) (rooms : Rooms) (prepared : Prepared) : Type 0 where
  pub ready : IsReady s request prepared
  pub room : HasRoom rooms request prepared
  pub none : refusal s request ≡ None
  pub accepted : turn_refusal s entries terminal number request ≡ None

-- the refusals 1 to 9 of what was prepared come before those of the journal, and these before all others
abbrev pub order_refusals : Option Refusal → Result Prepared Refusal → Result Prepared Refusal
order_refusals None (Ok prepared) = Ok prepared
order_refusals (Some refusal) (Ok prepared) = Err refusal
order_refusals journal (Err refusal) = Err (unwrap_or (option_or (early (Some refusal)) journal) refusal)
