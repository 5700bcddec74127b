-- For the prover, and for callers.
-- The text of a plan, version 1. A plan has one spelling. (This project's own format.)
use Rattle.std.specs.Prelude.{◌≡◌, ℕ, ◌<◌, ◌≤◌, ◌+◌, ◌^◌, ◌⊎◌, List, [], ◌∷◌, ◌++◌, length, codes, Option, Some, None, decimal, IfSome}
use Rattle.std.specs.List.{flat_map, AllByRecursion}
use Rattle.nfs3_types.specs.declared.calls.StableHow.{StableHow}
use Rattle.nfs3_types.specs.declared.calls.StableHow.TheVariants.{Unstable, DataSync, FileSync}
use Rattle.plan_text.specs.declared.plan.Operation.{Operation}
use Rattle.plan_text.specs.declared.plan.Operation.TheVariants.{Create, MakeDirectory, Remove, Lookup, Rename, Write, Read, Commit}
use Rattle.plan_text.specs.declared.plan.Step.{Step}
use Rattle.plan_text.specs.declared.plan.Step.TheVariants.{Lane, Go, Crash}
use Rattle.plan_text.specs.declared.plan.Plan.{Plan}

-- a line's words, and the line feed that ends it
abbrev pub line : List ℕ → List ℕ
line words = words ++ 10 ∷ []

-- a word, one space, and the words behind it
infixr 5 ◌␣◌
abbrev pub ◌␣◌ : List ℕ → List ℕ → List ℕ
word ␣ words = word ++ 32 ∷ words

-- the letter of a level
abbrev pub level_word : StableHow → List ℕ
level_word Unstable = codes "U"
level_word DataSync = codes "D"
level_word FileSync = codes "F"

-- the words of an operation
abbrev pub operation_words : Operation → List ℕ
operation_words (Create name) = codes "create " ++ name
operation_words (MakeDirectory name) = codes "mkdir " ++ name
operation_words (Remove name) = codes "remove " ++ name
operation_words (Lookup name) = codes "lookup " ++ name
operation_words (Rename from to) = codes "rename " ++ (from ␣ to)
operation_words (Write name offset text level) = codes "write " ++ (name ␣ decimal offset ␣ text ␣ level_word level)
operation_words (Read name offset count) = codes "read " ++ (name ␣ decimal offset ␣ decimal count)
operation_words (Commit name) = codes "commit " ++ name

-- the words of a step's line
abbrev pub step_words : Step → List ℕ
step_words (Lane step) = codes "lane " ++ (decimal step.lane ␣ operation_words step.operation)
step_words Go = codes "go"
step_words (Crash kept) = codes "crash " ++ decimal kept

-- the line of a fault, where there is one
abbrev pub fault_lines : List ℕ → Option ℕ → List ℕ
fault_lines words None = []
fault_lines words (Some at) = line (words ++ decimal at)

-- the text of a plan
abbrev pub spelling : Plan → List ℕ
spelling plan =
    line (codes "plan 1")
    ++ (fault_lines (codes "fault append ") plan.append_fault
    ++ (fault_lines (codes "fault barrier ") plan.barrier_fault
    ++ (flat_map (λ step. line (step_words step)) plan.steps
    ++ line (codes "end"))))

-- how many lines a fault has
abbrev pub fault_count : Option ℕ → ℕ
fault_count None = 0
fault_count (Some at) = 1

-- how many lines a plan has, its first and its last counted
abbrev pub line_count : Plan → ℕ
line_count plan = fault_count plan.append_fault + fault_count plan.barrier_fault + length plan.steps + 2

-- a to z, or 0 to 9
abbrev pub IsNameByte : ℕ → Type 0
IsNameByte byte = ((97 ≤ byte) × (byte ≤ 122)) ⊎ ((48 ≤ byte) × (byte ≤ 57))

-- a name, or a text that is written, has 1 to 64 such bytes
abbrev pub IsName : List ℕ → Type 0
IsName bytes = (0 < length bytes) × (length bytes ≤ 64) × AllByRecursion IsNameByte bytes

-- an operation has names, an offset of 64 bits and a count of 32
abbrev pub HasNames : Operation → Type 0
HasNames (Create name) = IsName name
HasNames (MakeDirectory name) = IsName name
HasNames (Remove name) = IsName name
HasNames (Lookup name) = IsName name
HasNames (Rename from to) = IsName from × IsName to
HasNames (Write name offset text level) = IsName name × (offset < 2 ^ 64) × IsName text
HasNames (Read name offset count) = IsName name × (offset < 2 ^ 64) × (count < 2 ^ 32)
HasNames (Commit name) = IsName name

-- a lane is 1 to 64, and a number of records has 64 bits
abbrev pub HasNumbers : Step → Type 0
HasNumbers (Lane step) = (0 < step.lane) × (step.lane ≤ 64) × HasNames step.operation
HasNumbers Go = Unit {0}
HasNumbers (Crash kept) = kept < 2 ^ 64

-- a fault has a number from 1, of 64 bits
abbrev pub IsFault : ℕ → Type 0
IsFault at = (0 < at) × (at < 2 ^ 64)

-- lane lines are followed by `go` ahead of a crash and of the end
abbrev pub AreRun : List Step → Type 0
AreRun [] = Unit {0}
AreRun (Lane step ∷ []) = ⊥
AreRun (Lane step ∷ Crash kept ∷ steps) = ⊥
AreRun (step ∷ steps) = AreRun steps

-- the text spells the plan, whose numbers and names are of their sizes, whose lane lines are run, and which has at most
-- 10,000 lines
pub record PlanText (text : List ℕ) (plan : Plan) : Type 0 where
  pub spelled : text ≡ spelling plan
  pub append_fault : IfSome plan.append_fault IsFault
  pub barrier_fault : IfSome plan.barrier_fault IsFault
  pub numbers : AllByRecursion HasNumbers plan.steps
  pub run : AreRun plan.steps
  pub within : line_count plan ≤ 10000
