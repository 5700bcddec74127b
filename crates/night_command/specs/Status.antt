-- For the prover, and for callers.
-- The status of a night whose files are written, or not (words of this project's own).
use Rattle.std.specs.Prelude.{ℕ, Bool, true, false}
use Rattle.night_eras.specs.night_verdict_specs.declared.verdict.NightVerdict.{NightVerdict}
use Rattle.night_eras.specs.night_verdict_specs.declared.verdict.NightVerdict.TheVariants.{Yes, No, Doubt}
use Rattle.night_eras.specs.night_verdict_specs.Words.{night_status}

-- that of its verdict; but no yes is said, and nothing else in doubt, where a file of its folder can't be written
abbrev pub told_status : Bool → NightVerdict → ℕ
told_status true verdict = night_status verdict
told_status false (No cause) = 1
told_status false verdict = 2
