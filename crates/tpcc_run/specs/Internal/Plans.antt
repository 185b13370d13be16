-- The ranges of a plan have one proof at most, as a fact that a struct keeps must.
use Rattle.std.specs.Coded.{le_prop}
use Rattle.tpcc_run.specs.declared.plan.Plan.{Plan}
use Rattle.tpcc_run.specs.declared.plan.Service.{Service}
use Rattle.tpcc_run.specs.declared.plan.Service.TheVariants.{Servers, Direct}
use Rattle.tpcc_run.specs.Plans.{IsPlan, IsService}

-- those of what serves
service_once : (s : Service) → IsProp (IsService s)
service_once (Servers count retire) = hlevel le_prop
service_once Direct = hlevel

-- those of all
pub plan_once : (p : Plan) → IsProp (IsPlan p)
plan_once p = hlevel (le_prop, service_once)
