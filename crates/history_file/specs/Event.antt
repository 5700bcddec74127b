-- Believed.
-- A history as it was recorded: what it begins with, and what happened, one event after the other (Herlihy and Wing
-- 1990, section 2; crashes as in Izraelevitz, Mendes and Scott 2016).
use Rattle.std.specs.Prelude.{ℕ, List}
use Rattle.tree_starts.specs.Head.{Head}

pub data Event : Type 0 where
  -- a client sent a call on a lane, which is one connection: the message's bytes
  call : ℕ → List ℕ → Event
  -- a client got a reply on a lane
  reply : ℕ → List ℕ → Event
  -- a lane was closed
  close : ℕ → Event
  -- the server went down, and came up again
  crash : Event

pub record Recording : Type 0 where
  pub head : Head
  pub events : List Event
