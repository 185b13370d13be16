use Rattle.std.proofs.Common.{◌≡◌}
use Rattle.std.proofs.lemmas.List.Elements.{All-pop}
use Rattle.tpcc_mailbox.specs.Tokens.{identity, idle_origin}
use Rattle.tpcc_run.proofs.threads.routes.next_idle.Goals as goal

pub returns-clause-rest : goal.returns-clause-rest
returns-clause-rest g c = (All-pop (λ idle. idle_origin idle ≡ identity c.args.mailboxes.now) c.args.idles.now.items c.pop.new.self.items c.pop.result c.pop.ensures.items c.requires.idles).0

pub returns-clause-one : goal.returns-clause-one
returns-clause-one g c = (All-pop (λ idle. idle_origin idle ≡ identity c.args.mailboxes.now) c.args.idles.now.items c.pop.new.self.items c.pop.result c.pop.ensures.items c.requires.idles).1
