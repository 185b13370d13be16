-- What a job is seen as.
use Rattle.tpcc_rows.specs.declared.transactions.requests.Request.{Request}
use Rattle.tpcc_turns.specs.Seats.{SeatedView}

-- what is asked, the purse that it is served for, and the call that is to serve it
pub record JobView (C : Type 0) : Type 0 where
  pub request : Request
  pub purse : SeatedView
  pub call : C
