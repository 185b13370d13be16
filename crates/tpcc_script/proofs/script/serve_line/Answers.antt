use Rattle.std.proofs.Common.{◌∙◌, sym, refl}
use Rattle.tpcc_script.proofs.Lines.{read_none, read_some, bad_line, served_line, unshown_line}
use Rattle.tpcc_script.proofs.script.serve_line.Goals as goal

pub returns-in-Ok-None-clause-answered : goal.returns-in-Ok-None-clause-answered
returns-in-Ok-None-clause-answered g c = λ bytes known.
    record { says_is = read_none _ c.args.number bytes _ _ c.in-Ok-None.field-0-is (c.in-Ok-None.ensures.read bytes known); book = refl }

pub returns-in-Ok-None-parse_line-clause-gave_up : goal.returns-in-Ok-None-parse_line-clause-gave_up
returns-in-Ok-None-parse_line-clause-gave_up g c = tt

pub returns-in-Ok-None-parse_line-clause-answered : goal.returns-in-Ok-None-parse_line-clause-answered
returns-in-Ok-None-parse_line-clause-answered g c = λ bytes known.
    let l = read_some _ c.args.number bytes _ _ _ c.in-Ok-Some.field-0-is (c.in-Ok-Some.ensures.read bytes known) in
    record { says_is = bad_line c.args.number bytes _ _ _ l c.as_slice.ensures.value (sym c.in-Ok-None-parse_line.field-0-is ∙ c.in-Ok-None-parse_line.ensures); book = refl }

pub returns-in-Ok-clause-answered : goal.returns-in-Ok-clause-answered
returns-in-Ok-clause-answered g c = λ bytes known.
    let l = read_some _ c.args.number bytes _ _ _ c.in-Ok-Some.field-0-is (c.in-Ok-Some.ensures.read bytes known) in
    served_line c.args.number bytes _ _ _ c.in-Ok-Some-parse_line.call _ _ _ l c.as_slice.ensures.value (sym c.in-Ok-Some-parse_line.field-0-is ∙ c.in-Ok-Some-parse_line.ensures) c.in-Ok.ensures.shown

pub returns-clause-answered : goal.returns-clause-answered
returns-clause-answered g c = λ bytes known.
    let l = read_some _ c.args.number bytes _ _ _ c.in-Ok-Some.field-0-is (c.in-Ok-Some.ensures.read bytes known) in
    unshown_line c.args.number bytes _ _ _ c.in-Ok-Some-parse_line.call _ _ l c.as_slice.ensures.value (sym c.in-Ok-Some-parse_line.field-0-is ∙ c.in-Ok-Some-parse_line.ensures) c.in-Err-answer.ensures.served
