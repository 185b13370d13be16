use Rattle.std.proofs.Common.{◌∙◌, ◌<◌, ap, length, sym, arith, codes}
use Rattle.std.specs.Prelude.{nat_eq}
use Rattle.std.specs.List.{starts_with}
use Rattle.std.proofs.lemmas.Bool.Decides.{nat_tests}
use Rattle.std.proofs.lemmas.List.{take_rest}
use Rattle.tpcc_rows.specs.Lists.{has_text}
use Rattle.tpcc_new_order.proofs.Brands.{at_front, too_short, later}
use Rattle.tpcc_new_order.proofs.reply.brand.+has_original.Goals as goal

pub returns-in_default : goal.returns-in_default
returns-in_default t c =
    let few : length c.args.bytes.now < 8 = grind (arith, nat_tests, c.in_default.ensures.lookup) in
    sym (too_short (codes "ORIGINAL") c.args.bytes.now few)

pub returns-then-not-is_of_original : goal.returns-then-not-is_of_original
returns-then-not-is_of_original t c =
    let bytes = c.args.bytes.now in
    let long : 7 < length bytes = grind (arith, nat_tests, c.in-Some.ensures.lookup.0) in
    c.has_original.ensures
    ∙ ap (has_text (codes "ORIGINAL")) (take_rest bytes 8)
    ∙ sym (later bytes c.in-Some.eighth.now long c.in-Some.ensures.lookup.1 (sym c.is_of_original.ensures ∙ c.if-not-is_of_original.true))

pub returns-then-starts_with : goal.returns-then-starts_with
returns-then-starts_with t c =
    let bytes = c.args.bytes.now in
    sym (at_front (codes "ORIGINAL") bytes (ap (starts_with nat_eq bytes) (sym c.as_slice.ensures) ∙ sym c.starts_with.ensures.value ∙ c.if-starts_with.true))
