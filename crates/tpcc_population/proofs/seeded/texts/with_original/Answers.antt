use Rattle.std.proofs.Common.{rules, arith, ap, ◌≤◌, ◌∙◌, ◌+◌, ◌-◌, length, drop, length-append, length-take, length-take-le, length-drop}
use Rattle.std.specs.Prelude.{codes}
use Rattle.std.specs.List.{list_all}
use Rattle.tpcc_rows.specs.Printable.{is_printable}
use Rattle.tpcc_rows.proofs.PrintableTexts.{list_all-take}
use Rattle.tpcc_population.proofs.SeededRanges.{all-drop}
use Rattle.tpcc_population.proofs.seeded.texts.with_original.Goals as goal

pub of-replaced-requires : goal.of-replaced-requires
of-replaced-requires c =
    let bytes = c.bytes-bytes.result.now in
    let long : length c.bytes-bytes.result.now ≤ 50 = omega (arith, ap length c.bytes-bytes.ensures.bytes, c.bytes-bytes.ensures.fits) in
    let all = ap (list_all is_printable) c.bytes-bytes.ensures.bytes ∙ c.bytes-bytes.ensures.printable in
    (search rules, (search rules, (omega (arith, long, length-take c.args.place bytes), list_all-take is_printable c.args.place bytes all)))

pub extend-requires-2 : goal.extend-requires-2
extend-requires-2 c =
    let bytes = c.bytes-bytes.result.now in
    let long : length c.bytes-bytes.result.now ≤ 50 = omega (arith, ap length c.bytes-bytes.ensures.bytes, c.bytes-bytes.ensures.fits) in
    let inside : c.args.place + 8 ≤ length c.bytes-bytes.result.now = omega (arith, ap length c.bytes-bytes.ensures.bytes, c.requires.inside) in
    let all = ap (list_all is_printable) c.bytes-bytes.ensures.bytes ∙ c.bytes-bytes.ensures.printable in
    let rest = drop (c.args.place + 8) bytes in
    let count = length bytes - (c.args.place + 8) in
    let front = ap length c.extend.ensures.extended ∙ length-append c.of-replaced.result (codes "ORIGINAL") ∙ ap (λ xs. length xs + 8) c.of-replaced.ensures.text in (
      search rules,
      (
        search rules,
        (
          omega (arith, long, inside, front, length-take-le c.args.place bytes (omega (arith, inside)), length-take count rest, length-drop (c.args.place + 8) bytes),
          list_all-take is_printable count rest (all-drop is_printable (c.args.place + 8) bytes all),
        ),
      ),
    )
