-- For the prover, and for callers.
-- The last line of a night, and its status (words of this project's own).
use Rattle.std.specs.Prelude.{◌≡◌, ◌==◌, ℕ, List, [], ◌∷◌, ◌++◌, codes}
use Rattle.std.specs.List.{before_first}
use Rattle.night_verdict.specs.declared.verdict.Doubt.{Doubt}
use Rattle.night_verdict.specs.declared.verdict.Doubt.TheVariants as doubts
use Rattle.night_verdict.specs.declared.verdict.NightVerdict.{NightVerdict}
use Rattle.night_verdict.specs.declared.verdict.NightVerdict.TheVariants.{Yes, No, Doubt as IsDoubt}

abbrev pub night_status : NightVerdict → ℕ
night_status Yes = 0
night_status (No cause) = 1
night_status (IsDoubt doubt) = 2

-- the words up to their first line feed
abbrev pub first_line : List ℕ → List ℕ
first_line words = before_first (λ b. b == 10) words

-- what the line of a doubt begins with
abbrev pub lead_of : Doubt → List ℕ
lead_of doubts.BadHistory = codes "refused: "
lead_of doubt = codes "undecided: "

-- the line of a yes, and how those of a no and of a doubt begin; each ends in a line feed, its only one
abbrev pub IsLineOf : NightVerdict → List ℕ → Type 0
IsLineOf Yes line = line ≡ codes "yes" ++ 10 ∷ []
IsLineOf (No cause) line = (words : List ℕ) × (line ≡ codes "no: " ++ (first_line words ++ 10 ∷ []))
IsLineOf (IsDoubt doubt) line = (words : List ℕ) × (line ≡ lead_of doubt ++ (first_line words ++ 10 ∷ []))
