use Rattle.std.proofs.Common.{◌∙◌, ap}
use Rattle.tpcc_money.proofs.moment.Moment.text.Goals as goal

pub returns : goal.returns
returns c = ap (λ v. v.items) c.into_bytes.ensures.value ∙ c.in_ok-text.ensures.ok
