-- Believed.
-- The words of the objects (RFC 8259, section 4; the words are of this project's own).
use Rattle.std.specs.Prelude.{ℕ, List, [], ◌∷◌, ◌++◌, codes}
use Rattle.witness_check.specs.declared.verdict.FileVerdict.{FileVerdict}
use Rattle.witness_check.specs.declared.verdict.FileVerdict.TheVariants.{Yes, No, BadHistory, BadText}
use Rattle.json_reports.specs.declared.searches.SearchMiss.{SearchMiss}
use Rattle.json_reports.specs.declared.searches.SearchMiss.TheVariants.{NotFound, OutOfTurns, OutOfTime}

-- what stands under "verdict"
abbrev pub verdict_word : FileVerdict → List ℕ
verdict_word Yes = codes "yes"
verdict_word (No fault) = codes "no"
verdict_word (BadHistory fault) = codes "refused"
verdict_word (BadText fault) = codes "refused"

-- the object of a search that found nothing, and a line feed
abbrev pub miss_line : SearchMiss → List ℕ
miss_line NotFound = codes "{\"result\":\"not found\"}" ++ 10 ∷ []
miss_line OutOfTurns = codes "{\"result\":\"out of turns\"}" ++ 10 ∷ []
miss_line OutOfTime = codes "{\"result\":\"out of time\"}" ++ 10 ∷ []
