use Rattle.std.proofs.Common.{◌∙◌, ◌-◌, take, drop}
use Rattle.tpcc_storage.proofs.Name.{named_are}
use Rattle.tpcc_storage.proofs.names.names_with_last.Goals as goal

pub returns : goal.returns
returns c =
    (λ i. take (c.place_of-start.ensures.end i - c.place_of-start.ensures.start i) (drop (c.place_of-start.ensures.start i) c.args.names.now))
    ∙ named_are c.args.warehouse c.args.district c.args.last.now c.args.names.now c.requires.order
