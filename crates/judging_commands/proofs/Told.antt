-- What the exit status and the line of an input tell.
use Rattle.std.proofs.Common.{◌≡◌, ◌⊎◌, inl, inr, ℕ, List, Option, Some, None, IfSome, refl, sym, ◌∙◌, subst, arith}
use Rattle.std.specs.Io.KnownBytes.{Appends}
use Rattle.witness_check.specs.declared.fault.Fault.{Fault}
use Rattle.witness_check.specs.declared.verdict.FileVerdict.{FileVerdict}
use Rattle.witness_check.specs.declared.verdict.FileVerdict.TheVariants.{Yes, No, BadHistory, BadText}
use Rattle.witness_check.specs.Verdict.{IsFileVerdict}
use Rattle.judging_commands.specs.Bundle.{IsBundle, IsRefutedBundle}
use Rattle.program_streams.specs.Told.{Tells}
use Rattle.judging_commands.specs.Report.{MaySay, line_of, status_of, no_line}

-- what is known of the input where this is the verdict
abbrev IsVerdictOf : Option (List ℕ) → FileVerdict → Type 0
IsVerdictOf known verdict =
    IfSome known (λ bytes. (history : List ℕ) × (certificate : List ℕ) × IsBundle bytes history certificate × IsFileVerdict history certificate verdict)

refuted : (known : Option (List ℕ)) (fault : Fault) → IsVerdictOf known (No fault) → IfSome known (IsRefutedBundle fault)
refuted None fault h = tt
refuted (Some bytes) fault h = record { history = h.0; certificate = h.1; spelled = h.2; refuted = h.3 }

-- at 1 it is a no
at_no : (known : Option (List ℕ)) (v : FileVerdict) → IsVerdictOf known v → 1 ≡ status_of v
    → (fault : Fault) × IfSome known (IsRefutedBundle fault) × (line_of v ≡ no_line fault)
at_no known Yes h e = absurd (omega (arith, e))
at_no known (No fault) h e = (fault, refuted known fault h, refl)
at_no known (BadHistory fault) h e = absurd (omega (arith, e))
at_no known (BadText fault) h e = absurd (omega (arith, e))

-- a status of 1 is told of a refuted bundle alone, with the line of its fault
pub told_no : (known old new : Option (List ℕ)) (given status : ℕ) (line : List ℕ) → MaySay known status line → (given ≡ 2) ⊎ Tells given old new status line → given ≡ 1
    → (fault : Fault) × IfSome known (IsRefutedBundle fault) × Appends old new (no_line fault)
told_no known old new given status line said (inl failed) e = absurd (omega (arith, failed, e))
told_no known old new given status line (inr refused) (inr told) e = absurd (omega (arith, refused.0, told.0, e))
told_no known old new given status line (inl h) (inr told) e =
    let no = at_no known h.0 h.1 (sym e ∙ told.0 ∙ h.2) in
    (no.0, no.1, subst (Appends old new) (h.3 ∙ no.2) told.1)
