-- Believed.
-- A history as it is seen: what it is judged by, which is what it begins with, its eras and its calls, and what
-- happened, in order (Herlihy and Wing 1990, section 2; eras lie between crashes, Izraelevitz, Mendes and Scott 2016); and for how
-- many events that come next room is set aside.
use Rattle.std.specs.Prelude.{ℕ, List}
use Rattle.history_file.specs.tree_starts_specs.Head.{Head}
use Rattle.history_file.specs.declared.event.Event.{Event}
use Rattle.nfs_history.specs.declared.recorded.RecordedCall.{RecordedCall}

pub record CallsValue : Type 0 where
  pub head : Head
  pub eras : ℕ
  pub calls : List RecordedCall

pub record HistoryValue : Type 0 where
  pub known : CallsValue
  pub events : List Event
  pub spare : ℕ
