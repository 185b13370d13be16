use Rattle.std.proofs.Common.{arith}
use Rattle.tpcc_storage.proofs.Open.{grown_stopped, grown_more, same_long}
use Rattle.tpcc_storage.proofs.by_district.growth.grow_all.Goals as goal

pub returns-in_err-reserve-clause-same : goal.returns-in_err-reserve-clause-same
returns-in_err-reserve-clause-same g c =
    (grown_stopped c.args.room c.loop-place.place c.args.parts.now.items c.loop-place.parts.items c.loop-place.invariant c.index_mut.result.now c.reserve.new.self (omega (arith, c.loop-place-test.true, c.len-place-end.ensures, same_long c.args.parts.now.items c.loop-place.parts.items c.loop-place.invariant.same, c.args.parts.now.ok)) c.index_mut.ensures.value c.reserve.ensures.owner c.reserve.ensures.rows c.reserve.ensures.capacity).same

pub returns-in_err-reserve-clause-kept : goal.returns-in_err-reserve-clause-kept
returns-in_err-reserve-clause-kept g c =
    (grown_stopped c.args.room c.loop-place.place c.args.parts.now.items c.loop-place.parts.items c.loop-place.invariant c.index_mut.result.now c.reserve.new.self (omega (arith, c.loop-place-test.true, c.len-place-end.ensures, same_long c.args.parts.now.items c.loop-place.parts.items c.loop-place.invariant.same, c.args.parts.now.ok)) c.index_mut.ensures.value c.reserve.ensures.owner c.reserve.ensures.rows c.reserve.ensures.capacity).kept

pub loop-place-preserved : goal.loop-place-preserved
loop-place-preserved g c =
    grown_more c.args.room c.loop-place.place c.args.parts.now.items c.loop-place.parts.items c.loop-place.invariant c.index_mut.result.now c.reserve.new.self (omega (arith, c.loop-place-test.true, c.len-place-end.ensures, same_long c.args.parts.now.items c.loop-place.parts.items c.loop-place.invariant.same, c.args.parts.now.ok)) c.index_mut.ensures.value c.reserve.ensures.owner c.reserve.ensures.rows c.reserve.ensures.capacity c.in_ok-reserve.ensures.grown

pub index_mut-requires : goal.index_mut-requires
index_mut-requires g c = omega (arith, c.loop-place-test.true, c.len-place-end.ensures, same_long c.args.parts.now.items c.loop-place.parts.items c.loop-place.invariant.same, c.args.parts.now.ok, c.loop-place.parts.ok)
