-- Each request that is not refused, with its moment in range, keeps the ranges of the rows and of the queue.
use Rattle.std.proofs.Common.{◌≡◌, Bool, true, false, refl, None}
use Rattle.std.specs.Prelude.{if◌then◌else◌}
use Rattle.tpcc_rows.specs.declared.transactions.requests.Order.{Order}
use Rattle.tpcc_rows.specs.declared.transactions.requests.Request.{Request}
use Rattle.tpcc_rows.specs.declared.transactions.requests.Request.TheVariants as ask
use Rattle.tpcc_rows.specs.Moments.{has_moment_in_range}
use Rattle.tpcc_rows.specs.Ranges.{is_moment}
use Rattle.tpcc_rows.specs.Tables.{Rows, State}
use Rattle.tpcc_rows.specs.WellKeyed.{IsInRange, IsQueueInRange}
use Rattle.tpcc_rows.specs.NewOrder.{is_rolled_back, order_refusal, after_order}
use Rattle.tpcc_rows.specs.Turn.{refusal, state_after}
use Rattle.tpcc_laws.proofs.TurnKeys.{IsSound}
use Rattle.tpcc_laws.proofs.PaymentRanges.{payment_in_range}
use Rattle.tpcc_laws.proofs.OrderInRange.{order_in_range}
use Rattle.tpcc_laws.proofs.DeliveryRanges.{run_in_range, ticket_in_range}

order_cases : (rows : Rows) (order : Order) (b : Bool) → is_rolled_back rows order ≡ b → is_moment order.moment ≡ true → order_refusal rows order ≡ None → IsSound rows → IsInRange rows → IsInRange (if b then rows else after_order rows order)
order_cases rows order true e hm none sound h = h
order_cases rows order false e hm none sound h = order_in_range rows order hm e none sound.keyed sound.stocked h

pub turn_in_range : (s : State) (request : Request) → has_moment_in_range request ≡ true → refusal s request ≡ None → IsSound s.rows → IsInRange s.rows → IsQueueInRange s.queue → IsInRange (state_after s request).rows × IsQueueInRange (state_after s request).queue
unfolding refusal state_after
turn_in_range s (ask.NewOrder order) hm e sound h q = (order_cases s.rows order (is_rolled_back s.rows order) refl hm e sound h, q)
turn_in_range s (ask.Payment payment) hm e sound h q = (payment_in_range s.rows payment hm e sound.keyed h, q)
turn_in_range s (ask.Status query) hm e sound h q = (h, q)
turn_in_range s (ask.Stock query) hm e sound h q = (h, q)
turn_in_range s (ask.Delivery ticket) hm e sound h q = (h, ticket_in_range s.rows s.queue ticket hm e q)
turn_in_range s (ask.Deliver at) hm e sound h q = run_in_range s.rows s.queue at hm e sound.keyed h q
