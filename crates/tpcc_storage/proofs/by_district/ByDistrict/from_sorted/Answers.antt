use Rattle.std.proofs.Common.{sym, subst, arith, rules}
use Rattle.std.proofs.lemmas.Grind.{common_steps}
use Rattle.tpcc_storage.specs.Internal.DistrictWords.{AreRead}
use Rattle.tpcc_storage.proofs.by_district.ByDistrict.from_sorted.Goals as goal

pub returns-in_err-start : goal.returns-in_err-start
returns-in_err-start g c = search rules

pub returns : goal.returns
returns g c = grind (arith, common_steps)

pub read_run-requires-clause-read : goal.read_run-requires-clause-read
read_run-requires-clause-read g c = subst (λ rows. AreRead g.T.KeyedRow.key rows c.loop-start.start c.loop-start.parts.items) (sym c.as_slice.ensures.value) c.loop-start.invariant

pub loop-start-preserved : goal.loop-start-preserved
loop-start-preserved g c = subst (λ rows. AreRead g.T.KeyedRow.key rows c.in_ok-start.start c.read_run.new.parts.items) c.as_slice.ensures.value c.in_ok-start.ensures.1
