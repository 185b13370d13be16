use Rattle.std.proofs.Common.{◌∷◌, []}
use Rattle.tpcc_population.proofs.plain.ten_texts.Goals as goal

pub returns : goal.returns
returns c =
    λ i. c.district_information.ensures i ∷ c.district_information-2.ensures i ∷ c.district_information-3.ensures i ∷ c.district_information-4.ensures i ∷ c.district_information-5.ensures i ∷ c.district_information-6.ensures i ∷ c.district_information-7.ensures i ∷ c.district_information-8.ensures i ∷ c.district_information-9.ensures i ∷ c.district_information-10.ensures i ∷ []
