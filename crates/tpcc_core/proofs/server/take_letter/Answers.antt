use Rattle.tpcc_core.proofs.server.take_letter.Goals as goal

pub returns-in-Some-clause-taken : goal.returns-in-Some-clause-taken
returns-in-Some-clause-taken g c =
    record { letter = c.in-Some.letter; taken = c.in-Some.ensures.taken; held_is = c.hold.ensures.held }
