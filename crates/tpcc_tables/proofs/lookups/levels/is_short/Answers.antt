use Rattle.std.proofs.Common.{◌∙◌, ap, sym}
use Rattle.std.specs.Prelude.{nat_lt}
use Rattle.std.specs.Option.{option_copied}
use Rattle.tpcc_rows.specs.declared.tables.rows.StockRow.{StockRow}
use Rattle.tpcc_tables.proofs.Filter.{found_passes}
use Rattle.tpcc_tables.proofs.Low.{low_is}
use Rattle.tpcc_tables.proofs.lookups.levels.is_short.Goals as goal

pub returns-in-Some : goal.returns-in-Some
returns-in-Some c =
    sym (low_is c.args.stocks.now.items c.args.warehouse c.args.threshold c.args.item c.requires.keyed
    ∙ ap (found_passes (λ (s : StockRow). nat_lt s.quantity c.args.threshold)) (sym c.stock.ensures ∙ ap option_copied c.in-Some.is))

pub returns-in-None : goal.returns-in-None
returns-in-None c =
    sym (low_is c.args.stocks.now.items c.args.warehouse c.args.threshold c.args.item c.requires.keyed
    ∙ ap (found_passes (λ (s : StockRow). nat_lt s.quantity c.args.threshold)) (sym c.stock.ensures ∙ ap option_copied c.in-None.is))
