use Rattle.std.proofs.Common.{[]}
use Rattle.tpcc_draws.specs.Draws.{answers}
use Rattle.tpcc_population.proofs.DrawnTexts.{no_text, one_more_text}
use Rattle.tpcc_population.proofs.seeded.texts.drawn_texts.Goals as goal

pub returns : goal.returns
returns c =
    let start = answers c.args.stream.now in
    let t1 = one_more_text 0 [] c.a_string-d1.result start start (answers c.a_string-d1.new.self) (no_text start) c.a_string-d1.ensures.drawn in
    let t2 = one_more_text 1 _ c.a_string-d2.result start (answers c.a_string-d1.new.self) (answers c.a_string-d2.new.self) t1 c.a_string-d2.ensures.drawn in
    let t3 = one_more_text 2 _ c.a_string-d3.result start (answers c.a_string-d2.new.self) (answers c.a_string-d3.new.self) t2 c.a_string-d3.ensures.drawn in
    let t4 = one_more_text 3 _ c.a_string-d4.result start (answers c.a_string-d3.new.self) (answers c.a_string-d4.new.self) t3 c.a_string-d4.ensures.drawn in
    let t5 = one_more_text 4 _ c.a_string-d5.result start (answers c.a_string-d4.new.self) (answers c.a_string-d5.new.self) t4 c.a_string-d5.ensures.drawn in
    let t6 = one_more_text 5 _ c.a_string-d6.result start (answers c.a_string-d5.new.self) (answers c.a_string-d6.new.self) t5 c.a_string-d6.ensures.drawn in
    let t7 = one_more_text 6 _ c.a_string-d7.result start (answers c.a_string-d6.new.self) (answers c.a_string-d7.new.self) t6 c.a_string-d7.ensures.drawn in
    let t8 = one_more_text 7 _ c.a_string-d8.result start (answers c.a_string-d7.new.self) (answers c.a_string-d8.new.self) t7 c.a_string-d8.ensures.drawn in
    let t9 = one_more_text 8 _ c.a_string-d9.result start (answers c.a_string-d8.new.self) (answers c.a_string-d9.new.self) t8 c.a_string-d9.ensures.drawn in
    let t10 = one_more_text 9 _ c.a_string-d10.result start (answers c.a_string-d9.new.self) (answers c.a_string-d10.new.self) t9 c.a_string-d10.ensures.drawn in
    record { drawn = t10 }
