use Rattle.std.proofs.Common.{◌∙◌, ap, arith}
use Rattle.tpcc_storage.specs.ByDistrict.{ByDistrictView}
use Rattle.tpcc_storage.proofs.Open.{owners_shown, parts_shown, rows_shown}
use Rattle.tpcc_storage.proofs.by_district.ByDistrict.reserve.Goals as goal

pub invariant_of-self : goal.invariant_of-self
invariant_of-self g c =
    parts_shown c.self.inside.parts.items c.grow_all.new.parts.items c.grow_all.ensures.same g.T.KeyedRow.key c.self.inside.len c.self.inside.room c.self.inside.room c.self.invariant
    (c.grow_all.ensures.kept c.self.inside.room c.self.invariant.roomy) c.self.invariant.bound

pub returns-in_err-grow_all-clause-rows : goal.returns-in_err-grow_all-clause-rows
returns-in_err-grow_all-clause-rows g c =
    rows_shown c.self.inside.parts.items c.grow_all.new.parts.items c.grow_all.ensures.same ∙ ap (λ (t : ByDistrictView g.row.T.Denot). t.rows) c.self.view_is

pub returns-in_err-grow_all-clause-owners : goal.returns-in_err-grow_all-clause-owners
returns-in_err-grow_all-clause-owners g c =
    owners_shown c.self.inside.parts.items c.grow_all.new.parts.items c.grow_all.ensures.same ∙ ap (λ (t : ByDistrictView g.row.T.Denot). t.owners) c.self.view_is

pub invariant_of-self-2 : goal.invariant_of-self-2
invariant_of-self-2 g c =
    parts_shown c.self.inside.parts.items c.grow_all.new.parts.items c.grow_all.ensures.same g.T.KeyedRow.key c.self.inside.len c.self.inside.room c.args.room c.self.invariant
    c.in_ok-grow_all.ensures.grown (omega arith)

pub returns-clause-rows : goal.returns-clause-rows
returns-clause-rows g c =
    rows_shown c.self.inside.parts.items c.grow_all.new.parts.items c.grow_all.ensures.same ∙ ap (λ (t : ByDistrictView g.row.T.Denot). t.rows) c.self.view_is

pub returns-clause-owners : goal.returns-clause-owners
returns-clause-owners g c =
    owners_shown c.self.inside.parts.items c.grow_all.new.parts.items c.grow_all.ensures.same ∙ ap (λ (t : ByDistrictView g.row.T.Denot). t.owners) c.self.view_is

pub returns-clause-kept : goal.returns-clause-kept
returns-clause-kept g c = omega (arith, c.if-room-self.false, ap (λ (t : ByDistrictView g.row.T.Denot). t.room) c.self.view_is)
