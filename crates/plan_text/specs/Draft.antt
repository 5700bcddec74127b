-- For the prover.
-- A text of a plan that has been read in part.
use Rattle.std.specs.Prelude.{◌≡◌, ◌+◌, ◌≤◌, ℕ, Bool, false, length, map, List, [], ◌∷◌, ◌++◌, Option, Some, None, codes}
use Rattle.std.specs.List.{AllByRecursion}
use Rattle.plan_text.specs.declared.plan.Step.{Step}
use Rattle.plan_text.specs.declared.reading.Draft.{Draft}
use Rattle.plan_text.specs.declared.reading.Progress.{Progress}
use Rattle.plan_text.specs.declared.reading.Progress.TheVariants.{GoesOn, Ends, Refuses}
use Rattle.plan_text.specs.declared.line.Line.{Line}
use Rattle.plan_text.specs.declared.line.Line.TheVariants as lines
use Rattle.plan_text.specs.PlanText.{line}
use Rattle.plan_text.specs.Line.{IsLine, IsFit, Follows, AreInOrder, NotEnd, awaits, needed, last_of, text_of}

-- the lines of a draft's parts
abbrev pub append_list : Option ℕ → List Line
append_list None = []
append_list (Some at) = lines.AppendFault at ∷ []

abbrev pub barrier_list : Option ℕ → List Line
barrier_list None = []
barrier_list (Some at) = lines.BarrierFault at ∷ []

abbrev pub step_list : List Step → List Line
step_list steps = map (λ step. lines.Step step) steps

-- the lines of these parts of a plan, behind the first line
abbrev pub behind_first : Option ℕ → Option ℕ → List Step → List Line
behind_first append barrier steps = append_list append ++ (barrier_list barrier ++ step_list steps)

-- the lines of a draft, behind its first line
abbrev pub lines_in : Draft → List Line
lines_in draft = behind_first draft.append_fault draft.barrier_fault draft.steps.items

-- lines behind the first that begin a plan, with how many there are and whether the last awaits `go`
pub record IsBegun (done : List Line) (count : ℕ) (waiting : Bool) : Type 0 where
  pub fit : AllByRecursion IsFit done
  pub ordered : AreInOrder lines.First done
  pub goes_on : NotEnd (last_of lines.First done)
  pub waits : waiting ≡ awaits (last_of lines.First done)
  pub counted : count ≡ length done + 1
  pub room : count + needed (last_of lines.First done) ≤ 10000

-- the same of a draft
abbrev pub IsDraft : Draft → Type 0
IsDraft draft = IsBegun (lines_in draft) draft.lines draft.waiting

-- the line may stand behind these, and what has to follow it fits
abbrev pub MayFollow : List Line → Line → Type 0
MayFollow done l = Follows (last_of lines.First done) l × (length done + 2 + needed l ≤ 10000)

-- what became of a draft with a next line
abbrev pub Takes : Line → Draft → Draft → Progress → Type 0
Takes l old new GoesOn = IsDraft new × (lines_in new ≡ lines_in old ++ l ∷ [])
Takes l old new Ends = (l ≡ lines.End) × (new ≡ old) × (old.waiting ≡ false)
Takes l old new Refuses = MayFollow (lines_in old) l → ⊥

-- what became of it with the words of a next line
abbrev pub TakesLine : List ℕ → Draft → Draft → Progress → Type 0
TakesLine words old new GoesOn =
    IsDraft new × (text_of (lines.First ∷ lines_in new) ≡ text_of (lines.First ∷ lines_in old) ++ line words)
TakesLine words old new Ends = (words ≡ codes "end") × (new ≡ old) × (old.waiting ≡ false)
TakesLine words old new Refuses = (l : Line) → IsLine words l → MayFollow (lines_in old) l → ⊥

-- the text stands in the draft up to what is left of it
pub record IsReadUpTo (text : List ℕ) (draft : Draft) (rest : List ℕ) : Type 0 where
  pub draft_is : IsDraft draft
  pub spelled : text ≡ text_of (lines.First ∷ lines_in draft) ++ rest
