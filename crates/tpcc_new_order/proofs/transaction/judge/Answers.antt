use Rattle.std.proofs.Common.{◌∙◌, sym, ap, List}
use Rattle.std.specs.Prelude.{is_none}
use Rattle.std.specs.List.{list_any}
use Rattle.tpcc_rows.specs.declared.transactions.requests.Line.{Line}
use Rattle.tpcc_rows.specs.Tables.{find_item}
use Rattle.tpcc_new_order.proofs.Preparations.{servable}
use Rattle.tpcc_new_order.proofs.transaction.judge.Goals as goal

pub range_refusal-requires-clause-servable : goal.range_refusal-requires-clause-servable
range_refusal-requires-clause-servable c =
    servable c.args.tables.now.rows c.args.order.now c.requires.stocked c.in_ok-named.ensures.ok.accepted
    (ap (λ (ls : List Line). list_any (λ (l : Line). is_none (find_item c.args.tables.now.rows l.item)) ls) (sym c.as_slice.ensures.lines) ∙ sym c.has_unused_item.ensures ∙ c.if-has_unused_item.false)
