use Rattle.std.proofs.Common.{rules, sym, ◌∙◌}
use Rattle.tpcc_text.proofs.Names.{name_is_text}
use Rattle.tpcc_text.proofs.script.words.customer.Goals as goal

pub of-requires : goal.of-requires
of-requires c =
    let text = name_is_text c.args.word.now (sym c.is_last_name.ensures ∙ c.if-is_last_name.true) in
    (search rules, (search rules, (text.0, text.1)))
