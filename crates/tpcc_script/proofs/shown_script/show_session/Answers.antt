use Rattle.std.specs.Prelude.{◌≢◌}
use Rattle.tpcc_text.specs.declared.script.fault.ScriptFault.{ScriptFault}
use Rattle.tpcc_text.specs.declared.script.fault.ScriptFault.TheVariants.{Write}
use Rattle.tpcc_text.specs.Script.{script_of}
use Rattle.tpcc_script.specs.Session.{book_of}
use Rattle.tpcc_script.proofs.ShownScripts.{has_shown, has_shown_part, has_kept}
use Rattle.tpcc_script.proofs.shown_script.show_session.Goals as goal

pub returns-clause-shown : goal.returns-clause-shown
returns-clause-shown g c = λ bytes known.
    let ran = rw c.new-screens.ensures.items at (c.run-ended.ensures.counted bytes known) in
    rw c.and.ensures
    (has_shown (book_of c.args.session.now) (script_of bytes) c.args.parts.now (g.W.Write.contents c.args.out.now) (g.W.Write.contents c.show_left-shown.new.out) c.run-ended.new.self c.run-ended.new.out.items c.run-ended.result c.show_left-shown.result
    ran (rw (c.book.ensures.book, c.as_slice.ensures.value) at c.show_left-shown.ensures.written))

pub returns-clause-part : goal.returns-clause-part
returns-clause-part g c = λ bytes known.
    let ran = rw c.new-screens.ensures.items at (c.run-ended.ensures.counted bytes known) in
    rw c.and.ensures
    (has_shown_part (book_of c.args.session.now) (script_of bytes) c.args.parts.now (g.W.Write.contents c.args.out.now) (g.W.Write.contents c.show_left-shown.new.out) c.run-ended.new.self c.run-ended.new.out.items c.run-ended.result c.show_left-shown.result
    ran (rw (c.book.ensures.book, c.as_slice.ensures.value) at c.show_left-shown.ensures.part))

pub returns-clause-kept : goal.returns-clause-kept
returns-clause-kept g c =
    rw c.and.ensures (has_kept (λ (fault : ScriptFault). fault ≢ Write) c.run-ended.result c.show_left-shown.result c.show_left-shown.ensures.kept)
