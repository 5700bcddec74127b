-- Believed.
-- What one client knows, as it is seen: of each answered call its message and its reply, in order (a client's view of a
-- history, the subhistory of a process, Herlihy and Wing 1990, section 2); and for how many more room is set aside.
use Rattle.std.specs.Prelude.{ℕ, List}

pub record ExchangeValue : Type 0 where
  pub message : List ℕ
  pub reply : List ℕ

pub record PassValue : Type 0 where
  pub lane : ℕ
  pub exchanges : List ExchangeValue
  pub room : ℕ
