-- What a status tells where there is no page.
use Rattle.std.proofs.Common.{◌≡◌, ◌⊎◌, inl, inr, ◌<◌, ℕ, List, Option, sym, ◌∙◌, arith}
use Rattle.std.specs.Io.KnownBytes.{Appends}
use Rattle.witness_check.specs.declared.verdict.FileVerdict.{FileVerdict}
use Rattle.witness_check.specs.declared.verdict.FileVerdict.TheVariants.{Yes, No, BadHistory, BadText}
use Rattle.judging_commands.specs.Report.{line_of, status_of}
use Rattle.program_streams.specs.Told.{Tells, memory_line}
use Rattle.drawing_command.specs.declared.pages.Stop.{Stop}
use Rattle.drawing_command.specs.declared.pages.Stop.TheVariants as stops
use Rattle.drawing_command.specs.Stops.{IsRefusal, IsStopOf, IsTold, IsVerdictOn}

low : (verdict : FileVerdict) → status_of verdict < 3
low Yes = omega arith
low (No fault) = omega arith
low (BadHistory fault) = omega arith
low (BadText fault) = omega arith

module _ (history : List ℕ) (text : Option (List ℕ)) (given : ℕ) (old new : Option (List ℕ)) where
  pub never_zero : (stop : Stop) → IsStopOf history text stop → IsTold stop given old new → given ≡ 0 → ⊥
  never_zero (stops.Absent absent) is (inl failed) e = absurd (omega (arith, failed, e))
  never_zero (stops.Absent absent) is (inr memory) e = absurd (omega (arith, memory.0, e))
  never_zero (stops.Verdict verdict) is (inl failed) e = absurd (omega (arith, failed, e))
  never_zero (stops.Verdict verdict) is (inr (inl memory)) e = absurd (omega (arith, memory.0, e))
  never_zero (stops.Verdict verdict) is (inr (inr told)) e = absurd (omega (arith, is.1, told.0, e))

  pub at_one : (stop : Stop) → IsStopOf history text stop → IsTold stop given old new → given ≡ 1
      → (verdict : FileVerdict) × IsVerdictOn history text verdict × (status_of verdict ≡ 1) × Appends old new (line_of verdict)
  at_one (stops.Absent absent) is (inl failed) e = absurd (omega (arith, failed, e))
  at_one (stops.Absent absent) is (inr memory) e = absurd (omega (arith, memory.0, e))
  at_one (stops.Verdict verdict) is (inl failed) e = absurd (omega (arith, failed, e))
  at_one (stops.Verdict verdict) is (inr (inl memory)) e = absurd (omega (arith, memory.0, e))
  at_one (stops.Verdict verdict) is (inr (inr told)) e = (verdict, is.0, sym told.0 ∙ e, told.1)

module _ (given : ℕ) (old new : Option (List ℕ)) where
  pub at_three : (stop : Stop) → IsTold stop given old new → given ≡ 3 → Appends old new memory_line
  at_three (stops.Absent absent) (inl failed) e = absurd (omega (arith, failed, e))
  at_three (stops.Absent absent) (inr memory) e = memory.1
  at_three (stops.Verdict verdict) (inl failed) e = absurd (omega (arith, failed, e))
  at_three (stops.Verdict verdict) (inr (inl memory)) e = memory.1
  at_three (stops.Verdict verdict) (inr (inr told)) e = absurd (omega (arith, low verdict, told.0, e))

  pub below_four : (stop : Stop) → IsTold stop given old new → given < 4
  below_four (stops.Absent absent) (inl failed) = omega (arith, failed)
  below_four (stops.Absent absent) (inr memory) = omega (arith, memory.0)
  below_four (stops.Verdict verdict) (inl failed) = omega (arith, failed)
  below_four (stops.Verdict verdict) (inr (inl memory)) = omega (arith, memory.0)
  below_four (stops.Verdict verdict) (inr (inr told)) = omega (arith, low verdict, told.0)

  pub when_refused : (stop : Stop) → IsRefusal stop → IsTold stop given old new → (given ≡ 2) ⊎ Tells given old new 3 memory_line
  when_refused (stops.Absent absent) is told = told
  when_refused (stops.Verdict verdict) is (inl failed) = inl failed
  when_refused (stops.Verdict verdict) is (inr (inl memory)) = inr memory
  when_refused (stops.Verdict verdict) is (inr (inr told)) = inl (told.0 ∙ is)
