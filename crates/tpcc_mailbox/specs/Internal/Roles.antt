-- The roles that tokens stand for at the table.
use Rattle.std.specs.Prelude.{◌≡◌, ℕ, List}
use mathlib.Core.Option.{some}
use lib.ListN.{get_elem?}
use Rattle.atomic_table.specs.Seated.{TableId}
use Rattle.tpcc_mailbox.specs.declared.tokens.Serving.{Serving}
use Rattle.tpcc_mailbox.specs.declared.tokens.Client as clients
use Rattle.tpcc_mailbox.specs.declared.tokens.Client.TheVariants.{Idle, Waiting}
use Rattle.tpcc_mailbox.specs.Views.{Free, Sent, Role, Client}
use Rattle.tpcc_mailbox.specs.Rule.{serving_role}
use Rattle.tpcc_mailbox.specs.Tokens.{client_origin, idle_mailbox, waiting_mailbox, waiting_letter, serving_origin, serving_hand, serving_splits}

module _ {J A : Type 0} where
  abbrev pub client_role : clients.Client J A → Role J
  client_role (Idle x) = Client (idle_mailbox x) Free
  client_role (Waiting x) = Client (waiting_mailbox x) (Sent (waiting_letter x))

  abbrev pub server_role : Serving J A → Role J
  server_role s = serving_role (serving_splits s) (serving_hand s)

  -- all these clients came from this table
  abbrev pub AreClientsOf : TableId → List (clients.Client J A) → Type 0
  AreClientsOf table xs = (k : ℕ) (x : clients.Client J A) → get_elem? xs k ≡ some x → client_origin x ≡ table

  -- all these servers came from this table
  abbrev pub AreServersOf : TableId → List (Serving J A) → Type 0
  AreServersOf table xs = (k : ℕ) (x : Serving J A) → get_elem? xs k ≡ some x → serving_origin x ≡ table
