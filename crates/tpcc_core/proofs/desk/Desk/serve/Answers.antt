use Rattle.std.proofs.Common.{◌∙◌}
use Rattle.tpcc_core.specs.Hands.{holds_letter}
use Rattle.tpcc_core.proofs.Places.{read_at, test_at_place}
use Rattle.tpcc_core.proofs.Stepping.{served_by, served_none}
use Rattle.std.proofs.Common.{sym}
use Rattle.tpcc_core.proofs.desk.Desk.serve.Goals as goal

pub returns-in-Some-clause-served : goal.returns-in-Some-clause-served
returns-in-Some-clause-served g c =
    let k = read_at c.as_slice.result.now c.self.inside.servers.items c.args.server c.in-Some.hand c.index_mut.result.now c.place.result c.as_slice.ensures.value c.place.ensures.place c.in-Some.is c.in-Some.ensures.bound c.index_mut.ensures.value in
    rw (← c.self.view_is) (served_by _ c.args.server c.in-Some.hand c.index_mut.result.now c.serve_letter.new.server c.serve_letter.new.book c.serve_letter.result k.0 k.1 c.serve_letter.ensures.served)

pub returns-in-Some-clause-ready : goal.returns-in-Some-clause-ready
returns-in-Some-clause-ready g c =
    let k = read_at c.as_slice.result.now c.self.inside.servers.items c.args.server c.in-Some.hand c.index_mut.result.now c.place.result c.as_slice.ensures.value c.place.ensures.place c.in-Some.is c.in-Some.ensures.bound c.index_mut.ensures.value in
    rw (← c.self.view_is) (c.serve_letter.ensures.ready ∙ sym (test_at_place holds_letter c.self.inside.servers.items c.args.server c.in-Some.hand c.index_mut.result.now k.0 k.1))

pub returns-in-Some-clause-same : goal.returns-in-Some-clause-same
returns-in-Some-clause-same g c =
    let k = read_at c.as_slice.result.now c.self.inside.servers.items c.args.server c.in-Some.hand c.index_mut.result.now c.place.result c.as_slice.ensures.value c.place.ensures.place c.in-Some.is c.in-Some.ensures.bound c.index_mut.ensures.value in
    rw (← c.self.view_is) (served_none _ c.in-Some.hand c.index_mut.result.now c.serve_letter.new.server c.serve_letter.new.book c.serve_letter.result k.1 c.serve_letter.ensures.server c.serve_letter.ensures.book)
