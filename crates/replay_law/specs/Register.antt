-- For the prover.
-- a register of one number, the usual first example of a sequential specification: Herlihy and Wing 1990, section 2
use Rattle.std.specs.Prelude.{◌≡◌, ℕ, ◌^◌, ◌<◌, ◌==◌, if◌then◌else◌, List, Option, Some, None}
use Rattle.std.specs.Int.{w64, to_be_bytes, from_be_bytes}
use Rattle.std.proofs.Common.{sym, ap, ◌∙◌}
use Rattle.std.proofs.lemmas.Nat.{from_be_bytes-to_be_bytes_8}
use Rattle.replay_law.specs.declared.register.Register.{Register}
use Rattle.replay_law.specs.declared.register.Call.{Call}
use Rattle.replay_law.specs.declared.register.Call.TheVariants.{Read, Write}
use Rattle.replay_law.specs.declared.register.Outcome.{Outcome}
use Rattle.replay_law.specs.declared.register.Outcome.TheVariants.{Value, Done}

-- the register after a call with this outcome, where there is one: a read gives the last number written
abbrev pub after : Register → Call → Outcome → Option Register
after r Read (Value answered) = if answered == r.value then Some r else None
after r Read Done = None
after r (Write _) (Value _) = None
after r (Write value) Done = Some (record { value = value })

-- the number in eight bytes, the highest first
abbrev pub register_text : Register → List ℕ
register_text r = to_be_bytes w64 r.value

same_value : (a b : Register) → a.value ≡ b.value → a ≡ b
same_value a b e = λ i. record { value = e i }

-- equal bytes mean equal registers
pub same_register : (a b : Register) → a.value < 2 ^ 64 → b.value < 2 ^ 64 → register_text a ≡ register_text b → a ≡ b
same_register a b fits_a fits_b e =
    same_value a b (sym (from_be_bytes-to_be_bytes_8 a.value fits_a) ∙ ap (from_be_bytes w64) e ∙ from_be_bytes-to_be_bytes_8 b.value fits_b)
