-- For the prover, and for callers.
-- One line of a plan's text (of this project's own format), as what it says.
use Rattle.std.specs.Prelude.{◌≡◌, ℕ, List, [], ◌∷◌, ◌++◌, Bool, true, false, Result, Ok, Err, codes, decimal}
use Rattle.std.specs.List.{flat_map}
use Rattle.plan_text.specs.declared.line.Line.{Line}
use Rattle.plan_text.specs.declared.line.Line.TheVariants as lines
use Rattle.plan_text.specs.declared.words.WordFault.{WordFault}
use Rattle.plan_text.specs.declared.words.WordFault.TheVariants.{NotOne, NoMemory}
use Rattle.plan_text.specs.declared.plan.Step.{Step}
use Rattle.plan_text.specs.declared.plan.Step.TheVariants.{Lane, Crash}
use Rattle.plan_text.specs.declared.plan.Operation.{Operation}
use Rattle.plan_text.specs.PlanText.{line, step_words, operation_words, HasNumbers, HasNames, IsFault}

-- what was read is meant, and `NotOne` says that nothing is
abbrev pub Tells : {A : Type 0} → (A → Type 0) → Result A WordFault → Type 0
Tells Means (Ok x) = Means x
Tells {A} Means (Err NotOne) = (x : A) → Means x → ⊥
Tells Means (Err NoMemory) = Unit {0}

-- the words of an operation
abbrev pub IsOperation : List ℕ → Operation → Type 0
IsOperation words operation = (words ≡ operation_words operation) × HasNames operation

-- the words of a step
abbrev pub IsStep : List ℕ → Step → Type 0
IsStep words step = (words ≡ step_words step) × HasNumbers step

-- the words of a line
abbrev pub words_of : Line → List ℕ
words_of lines.First = codes "plan 1"
words_of (lines.AppendFault at) = codes "fault append " ++ decimal at
words_of (lines.BarrierFault at) = codes "fault barrier " ++ decimal at
words_of (lines.Step step) = step_words step
words_of lines.End = codes "end"

-- what a line keeps to, wherever it stands
abbrev pub IsFit : Line → Type 0
IsFit (lines.AppendFault at) = IsFault at
IsFit (lines.BarrierFault at) = IsFault at
IsFit (lines.Step step) = HasNumbers step
IsFit l = Unit {0}

-- the words of a line that may stand somewhere in a plan
abbrev pub IsLine : List ℕ → Line → Type 0
IsLine words l = (words ≡ words_of l) × IsFit l

-- the text of lines
abbrev pub text_of : List Line → List ℕ
text_of ls = flat_map (λ l. line (words_of l)) ls

-- the last of a line and those behind it
abbrev pub last_of : Line → List Line → Line
last_of l [] = l
last_of l (next ∷ more) = last_of next more

-- another line than the last
abbrev pub NotEnd : Line → Type 0
NotEnd lines.End = ⊥
NotEnd l = Unit {0}

-- a lane's line, which awaits `go`
abbrev pub awaits_step : Step → Bool
awaits_step (Lane step) = true
awaits_step step = false

-- the same of a line
abbrev pub awaits : Line → Bool
awaits (lines.Step step) = awaits_step step
awaits l = false

-- a crash
abbrev pub crashes : Step → Bool
crashes (Crash kept) = true
crashes step = false

-- the first line
abbrev pub IsFirst : Line → Type 0
IsFirst lines.First = Unit {0}
IsFirst l = ⊥

-- the line may stand ahead of the fault of a barrier
abbrev pub IsAheadOfBarrier : Line → Type 0
IsAheadOfBarrier lines.First = Unit {0}
IsAheadOfBarrier (lines.AppendFault at) = Unit {0}
IsAheadOfBarrier l = ⊥

-- a step may stand right behind a line
abbrev pub StepFollows : Line → Step → Type 0
StepFollows ahead (Crash kept) = NotEnd ahead × (awaits ahead ≡ false)
StepFollows ahead step = NotEnd ahead

-- a line may stand right behind another
abbrev pub Follows : Line → Line → Type 0
Follows ahead lines.First = ⊥
Follows ahead (lines.AppendFault at) = IsFirst ahead
Follows ahead (lines.BarrierFault at) = IsAheadOfBarrier ahead
Follows ahead (lines.Step step) = StepFollows ahead step
Follows ahead lines.End = NotEnd ahead × (awaits ahead ≡ false)

-- each of the lines may stand right behind the one ahead of it
abbrev pub AreInOrder : Line → List Line → Type 0
AreInOrder l [] = Unit {0}
AreInOrder l (next ∷ more) = Follows l next × AreInOrder next more

-- how many lines have to follow a step, at least
abbrev pub needed_behind_step : Step → ℕ
needed_behind_step (Lane step) = 2
needed_behind_step step = 1

-- the same of a line
abbrev pub needed : Line → ℕ
needed (lines.Step step) = needed_behind_step step
needed lines.End = 0
needed l = 1
