-- One request served: why it is refused, or the state after it and its reply.
use Rattle.std.specs.Prelude.{Option}
use Rattle.tpcc_rows.specs.declared.transactions.requests.Request.{Request}
use Rattle.tpcc_rows.specs.declared.transactions.requests.Request.TheVariants as ask
use Rattle.tpcc_rows.specs.declared.transactions.refusals.Refusal.{Refusal}
use Rattle.tpcc_rows.specs.declared.transactions.replies.Reply.{Reply}
use Rattle.tpcc_rows.specs.declared.transactions.replies.Reply.TheVariants as tell
use Rattle.tpcc_rows.specs.Tables.{State}
use Rattle.tpcc_rows.specs.NewOrder.{order_refusal, rows_after_order, order_reply}
use Rattle.tpcc_rows.specs.Payment.{payment_refusal, after_payment, payment_reply}
use Rattle.tpcc_rows.specs.Lookups.{status_refusal, status_reply, stock_refusal, stock_reply}
use Rattle.tpcc_rows.specs.Delivery.{ticket_refusal, queue_with, run_refusal, state_after_run, run_reply}

-- the first refusal of the rows, the request and the queue that applies, if there is one
unfoldable pub refusal : State → Request → Option Refusal
refusal s (ask.NewOrder order) = order_refusal s.rows order
refusal s (ask.Payment payment) = payment_refusal s.rows payment
refusal s (ask.Status query) = status_refusal s.rows query
refusal s (ask.Stock query) = stock_refusal s.rows query
refusal s (ask.Delivery ticket) = ticket_refusal s.rows s.queue ticket
refusal s (ask.Deliver at) = run_refusal s.rows s.queue

-- the state after a request that is not refused
unfoldable pub state_after : State → Request → State
state_after s (ask.NewOrder order) = record s { rows = rows_after_order s.rows order }
state_after s (ask.Payment payment) = record s { rows = after_payment s.rows payment }
state_after s (ask.Status query) = s
state_after s (ask.Stock query) = s
state_after s (ask.Delivery ticket) = record s { queue = queue_with s.queue ticket }
state_after s (ask.Deliver at) = state_after_run s.rows s.queue at

-- and its reply
unfoldable pub reply_to : State → Request → Reply
reply_to s (ask.NewOrder order) = tell.Entered (order_reply s.rows order)
reply_to s (ask.Payment payment) = tell.Paid (payment_reply s.rows payment)
reply_to s (ask.Status query) = tell.Status (status_reply s.rows query)
reply_to s (ask.Stock query) = tell.Level (stock_reply s.rows query)
reply_to s (ask.Delivery ticket) = tell.Queued ticket
reply_to s (ask.Deliver at) = tell.Delivery (run_reply s.rows s.queue at)
