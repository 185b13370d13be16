use Rattle.std.proofs.Common.{rules}
use Rattle.tpcc_money.proofs.moment.Moment.try_new.Goals as goal

pub returns-then-seconds-le-LAST_SECOND : goal.returns-then-seconds-le-LAST_SECOND
returns-then-seconds-le-LAST_SECOND c = search rules

pub returns-else-seconds-le-LAST_SECOND : goal.returns-else-seconds-le-LAST_SECOND
returns-else-seconds-le-LAST_SECOND c = search rules
