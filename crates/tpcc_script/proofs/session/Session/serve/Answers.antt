use Rattle.std.proofs.lemmas.Result.{IfOk-weaker}
use Rattle.tpcc_script.proofs.Sessions.{back_at_hand}
use Rattle.tpcc_script.proofs.Turns.{shows_answer, served_answer}
use Rattle.tpcc_script.proofs.session.Session.serve.Goals as goal

pub invariant_of-self : goal.invariant_of-self
invariant_of-self g c =
    back_at_hand c.self.inside.book c.serve-answer.new.self c.self.inside.purse c.take.result c.in-Some.purse c.purse_of.result c.args.request c.serve-answer.result
    c.self.invariant c.take.ensures.value c.in-Some.is c.purse_of.ensures.purse c.serve-answer.ensures.served

pub returns-clause-shown : goal.returns-clause-shown
returns-clause-shown g c =
    rw (← c.self.view_is) (IfOk-weaker c.screen-shown.result _ _
    (λ v e. shows_answer c.self.inside.book c.serve-answer.new.self c.self.inside.purse c.take.result c.in-Some.purse c.args.request c.serve-answer.result v
    c.self.invariant c.take.ensures.value c.in-Some.is c.serve-answer.ensures.served e)
    c.screen-shown.ensures.shown)

pub returns-clause-served : goal.returns-clause-served
returns-clause-served g c =
    rw (← c.self.view_is)
    (served_answer c.self.inside.book c.serve-answer.new.self c.self.inside.purse c.take.result c.in-Some.purse c.args.request c.serve-answer.result
    c.self.invariant c.take.ensures.value c.in-Some.is c.serve-answer.ensures.served)
