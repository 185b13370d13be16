use Rattle.std.proofs.Common.{◌∙◌, ap, take, List}
use Rattle.std.specs.List.{list_all}
use Rattle.tpcc_rows.specs.declared.transactions.requests.Line.{Line}
use Rattle.tpcc_rows.specs.Ranges.{is_within}
use Rattle.tpcc_rows.proofs.PrintableTexts.{list_all-take}
use Rattle.tpcc_new_order.proofs.reply.lines.entered_line.Goals as goal

pub numbers_after-requires-clause-quantities : goal.numbers_after-requires-clause-quantities
numbers_after-requires-clause-quantities c =
    ap (λ (ls : List Line). list_all (λ (l : Line). is_within 1 10 l.quantity) (take c.args.number ls)) c.as_slice.ensures.lines
    ∙ list_all-take (λ (l : Line). is_within 1 10 l.quantity) c.args.number c.args.order.now.lines c.requires.quantities
