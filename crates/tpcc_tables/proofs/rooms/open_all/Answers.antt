use Rattle.tpcc_tables.proofs.Ready.{opening-more}
use Rattle.tpcc_tables.proofs.rooms.open_all.Goals as goal

pub loop-district-preserved : goal.loop-district-preserved
loop-district-preserved g c =
    opening-more c.args.parts.now c.loop-district.parts c.open.new.self c.args.districts.now c.loop-district.district-index c.district-item.result c.loop-district.invariant c.loop-district-test.true c.district-item.is c.open.ensures.rows c.open.ensures.room c.open.ensures.kept c.in_ok-open.ensures.opened
