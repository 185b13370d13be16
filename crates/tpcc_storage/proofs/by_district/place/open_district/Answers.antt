use Rattle.std.proofs.Common.{◌∙◌, ap, arith}
use Rattle.std.proofs.lemmas.Result.{on_ok_weaker}
use Rattle.tpcc_storage.specs.Internal.DistrictRows.{DistrictRows}
use Rattle.tpcc_storage.proofs.by_district.place.open_district.Goals as goal

pub returns-clause-opened : goal.returns-clause-opened
returns-clause-opened g c =
    on_ok_weaker c.insert.result (λ put. record {
      part = c.new.result;
      of_owner = ap (λ (part : DistrictRows g.row.T.Denot). part.owner) c.new.ensures;
      empty = ap (λ (part : DistrictRows g.row.T.Denot). part.rows.items) c.new.ensures ∙ c.in_ok-rows.ensures.items;
      roomy = omega (arith, ap (λ (part : DistrictRows g.row.T.Denot). part.rows.capacity) c.new.ensures, c.in_ok-rows.ensures.room);
      put = put;
    }) c.insert.ensures.inserted
