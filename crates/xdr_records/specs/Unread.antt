-- Believed.
-- What a reader of a message has left.
use Rattle.std.specs.Prelude.{ℕ, ◌+◌, List, drop}

-- the bytes that are left, and how many stand before them
pub record Unread : Type 0 where
  pub at : ℕ
  pub rest : List ℕ

-- behind the first n bytes
abbrev pub behind : ℕ → Unread → Unread
behind n unread = record { at = unread.at + n; rest = drop n unread.rest }

-- the whole of some bytes
abbrev pub whole : List ℕ → Unread
whole bytes = record { at = 0; rest = bytes }

-- what is wrong, and the offset of the item at fault
pub record At (K : Type 0) : Type 0 where
  pub at : ℕ
  pub kind : K
