-- What is told of a night has its status.
use Rattle.std.proofs.Common.{◌≡◌, ◌⊎◌, inl, inr, ℕ, List, Option, Result, Ok, Err, sym, subst}
use Rattle.std.specs.Prelude.{IfOk, OnErr}
use Rattle.program_streams.specs.Told.{Answer, Tells, memory_line}
use Rattle.tree_starts.specs.declared.profile.Profile.{Profile}
use Rattle.night_command.specs.Nights.{IsNightOrRefused}

pub told_so : {E : Type 0} (answer : Result Answer E) (given : ℕ) (old new : Option (List ℕ)) (profile : Profile)
    → IfOk answer (λ report. IsNightOrRefused profile report.status)
    → OnErr answer ((given ≡ 2) ⊎ Tells given old new 3 memory_line)
    → IfOk answer (λ report. (given ≡ 2) ⊎ Tells given old new report.status report.line)
    → (given ≡ 3) ⊎ IsNightOrRefused profile given
told_so (Ok report) given old new profile night none (inl refused) = inr (inl refused)
told_so (Ok report) given old new profile night none (inr told) = inr (subst (IsNightOrRefused profile) (sym told.0) night)
told_so (Err e) given old new profile night (inl refused) none = inr (inl refused)
told_so (Err e) given old new profile night (inr told) none = inl told.0
