-- What a seat at the table knows.
use Rattle.std.specs.Prelude.{ℕ, Bool, List}

-- what the client of a mailbox knows of it: it hasn't fetched its empty slot yet; or nothing of the client's is under way; or this
-- letter was posted and its answer not collected
pub data Phase (J : Type 0) : Type 0 where
  Fresh : Phase J
  Free : Phase J
  Sent : J → Phase J

-- one thing that a seat is at the table for: it opens the mailboxes from this number on; or it is the client of the mailbox of this
-- number; or a server with an empty hand, and how often its right to serve was split; or a server whose right was split so often,
-- the mailbox that it took a letter from, and the letter
pub data Role (J : Type 0) : Type 0 where
  Opening : ℕ → Role J
  Client : ℕ → Phase J → Role J
  Server : ℕ → Role J
  Holder : ℕ → ℕ → J → Role J

-- what a seat knows: its roles, behind one another where other seats were joined into it; whether it has closed the mailboxes or
-- seen them closed; and the mailboxes whose letters it answered, the first answered first
pub record View (J : Type 0) : Type 0 where
  pub roles : List (Role J)
  pub closed : Bool
  pub answered : List ℕ
