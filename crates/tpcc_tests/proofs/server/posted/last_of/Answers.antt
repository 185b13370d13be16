use Rattle.std.proofs.Common.{◌≡◌}
use Rattle.std.proofs.lemmas.List.Elements.{All-pop}
use Rattle.tpcc_mailbox.specs.Tokens.{identity, idle_origin}
use Rattle.tpcc_tests.proofs.server.posted.last_of.Goals as goal

pub returns-clause-rest : goal.returns-clause-rest
returns-clause-rest g c = (All-pop (λ x. idle_origin x ≡ identity c.args.mailboxes.now) c.args.idles.now.items c.pop.new.self.items c.pop.result c.pop.ensures.items c.requires).0
