-- What a server's right to take jobs keeps while jobs are served.
use Rattle.std.specs.Prelude.{◌≡◌, None}
use Rattle.tpcc_mailbox.specs.declared.tokens.Serving.{Serving}
use Rattle.tpcc_mailbox.specs.Tokens.{serving_origin, serving_hand, serving_splits}

module _ {J A : Type 0} where
  -- it is of the same mailboxes, was split as often, and has no job in hand: each that was taken was answered
  abbrev pub HasServed : Serving J A → Serving J A → Type 0
  HasServed old new = (serving_origin new ≡ serving_origin old) × (serving_splits new ≡ serving_splits old) × (serving_hand new ≡ None)
