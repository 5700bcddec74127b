-- For the prover, and for callers.
-- What is said of runs of the bundled server, and of connections that it served: of a run what it comes to in numbers, and of both a yes to the
-- two texts that came of it, or why none did (words of this project's own).
use Rattle.std.specs.Prelude.{◌≡◌, ◌⊎◌, ℕ, List, [], ◌++◌, codes, Option, Result, Ok, Err, IfOk}
use Rattle.witness_check.specs.declared.verdict.FileVerdict.{FileVerdict}
use Rattle.witness_check.specs.declared.verdict.FileVerdict.TheVariants.{Yes}
use Rattle.witness_check.specs.Verdict.{IsFileVerdict}
use Rattle.program_streams.specs.Told.{Tells, memory_line}
use Rattle.serving_commands.specs.declared.fault.RunFault.{RunFault}
use Rattle.serving_commands.specs.declared.recorded.Counts.{Counts}
use Rattle.serving_commands.specs.declared.recorded.RunTexts.{RunTexts}
use Rattle.serving_commands.specs.Recording.{IsRecording}
use Rattle.serving_commands.specs.Told.{fault_status, fault_line}
use Rattle.showing_command.specs.judging_commands_specs.Report.{line_of, status_of}
use Rattle.showing_command.specs.judging_commands_specs.Reported.{number_line}

abbrev pub run_lines : Counts → List ℕ
run_lines counts =
    number_line (codes "eras") counts.eras ++ number_line (codes "calls") counts.calls ++ number_line (codes "answered") counts.answered
    ++ number_line (codes "lost") counts.lost

-- what is said of two texts that came with numbers: these, and the verdict
abbrev pub IsSaidOfRun : RunTexts → ℕ → List ℕ → Type 0
IsSaidOfRun recorded status line =
    (verdict : FileVerdict) × IsFileVerdict recorded.history.items recorded.certificate.items verdict × (status ≡ status_of verdict)
    × (line ≡ run_lines recorded.counts ++ line_of verdict)

-- a yes, behind other lines
abbrev pub IsYesBehind : List ℕ → ℕ → List ℕ → Type 0
IsYesBehind lines status line = (status ≡ 0) × (line ≡ lines ++ line_of Yes)

-- what is said where a run ended so
abbrev pub IsSaidOfRan : Result RunTexts RunFault → ℕ → List ℕ → Type 0
IsSaidOfRan (Ok recorded) status line = IsYesBehind (run_lines recorded.counts) status line
IsSaidOfRan (Err fault) status line = (status ≡ fault_status fault) × (line ≡ fault_line fault)

-- what is said where connections were served, and that ended so
abbrev pub IsSaidOfServed : Result RunTexts RunFault → ℕ → List ℕ → Type 0
IsSaidOfServed (Ok recorded) status line = IsYesBehind [] status line
IsSaidOfServed (Err fault) status line = (status ≡ fault_status fault) × (line ≡ fault_line fault)

-- the status that is given where that of the verdict is judged: the same, or 1 in place of 0
abbrev pub IsStatusOfEnds : ℕ → ℕ → Type 0
IsStatusOfEnds judged given = (given ≡ judged) ⊎ ((judged ≡ 0) × (given ≡ 1))

-- what is said of an end was told, with its status; where texts came of it, they are those of a history and of a witness of it
pub record IsToldOf (Says : Result RunTexts RunFault → ℕ → List ℕ → Type 0) (given : ℕ) (old new : Option (List ℕ)) : Type 0 where
  pub ran : Result RunTexts RunFault
  pub recording : IfOk ran IsRecording
  pub status : ℕ
  pub line : List ℕ
  pub said : Says ran status line
  pub told : Tells given old new status line

-- or that memory ran out was told; or a write failed, or the text of a run can't be read
abbrev pub MayTellOf : (Result RunTexts RunFault → ℕ → List ℕ → Type 0) → ℕ → Option (List ℕ) → Option (List ℕ) → Type 0
MayTellOf Says given old new = (given ≡ 2) ⊎ Tells given old new 3 memory_line ⊎ IsToldOf Says given old new
