-- For the prover.
-- a device in memory that fails when it is told to
use Rattle.std.specs.Prelude.{ℕ, ◌-◌}
use Rattle.journal.specs.Device.{Device}

-- beside the device, which one of the coming calls of each kind fails, counted from 1; where it is 0, none does
pub record Simulated : Type 0 where
  pub device : Device
  pub append_due : ℕ
  pub barrier_due : ℕ
  pub recover_due : ℕ

-- one call of the kind later
abbrev pub next_due : ℕ → ℕ
next_due due = due - 1
