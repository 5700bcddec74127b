-- For the prover.
-- A text of a certificate that has been read in part: its first line, binds, the eras that a cut ended, and the
-- places of the era that goes on.
use Rattle.std.specs.Prelude.{◌≡◌, ◌+◌, ◌≤◌, ℕ, length, List, ◌++◌, codes, IsSome}
use Rattle.std.specs.List.{flat_map, AllByRecursion}
use Rattle.certificate.specs.declared.plan.Bind.{Bind}
use Rattle.certificate.specs.declared.plan.Place.{Place}
use Rattle.certificate.specs.declared.plan.EraPlan.{EraPlan}
use Rattle.certificate.specs.declared.reading.Draft.{Draft}
use Rattle.certificate.specs.declared.reading.Step.{Step}
use Rattle.certificate.specs.declared.reading.Step.TheVariants.{GoesOn, Ends, Refuses}
use Rattle.certificate.specs.declared.line.Line.{Line}
use Rattle.certificate.specs.declared.line.Line.TheVariants as lines
use Rattle.certificate.specs.Line.{IsLine, Follows, last_of, behind_first}
use Rattle.certificate.specs.CertificateText.{line, bind_lines, era_lines, place_lines, HasHandle, HasNumbers, HasNumbersInEra, AreRising}

-- the text so far
abbrev pub spelled_by : List Bind → List EraPlan → List Place → List ℕ
spelled_by binds eras places =
    line (codes "witness 1") ++ (bind_lines binds ++ (flat_map era_lines eras ++ place_lines places))

-- an era that has ended
abbrev pub HasEnded : EraPlan → Type 0
HasEnded era = IsSome era.cut

-- what is read so far keeps to what a certificate keeps to
pub record AreBinds (binds : List Bind) : Type 0 where
  pub rising : AreRising binds
  pub handles : AllByRecursion HasHandle binds

pub record ArePlaces (eras : List EraPlan) (places : List Place) : Type 0 where
  pub ended : AllByRecursion HasEnded eras
  pub numbers : AllByRecursion HasNumbersInEra eras
  pub in_last : AllByRecursion HasNumbers places

-- how many lines there are
abbrev pub lines_in : Draft → ℕ
lines_in draft = length (behind_first draft.binds.items draft.eras.items draft.places.items) + 1

-- what became of the draft with these words of a next line
abbrev pub TakesLine : List ℕ → Draft → Draft → Step → Type 0
TakesLine words old new GoesOn =
    (spelled_by new.binds.items new.eras.items new.places.items
    ≡ spelled_by old.binds.items old.eras.items old.places.items ++ line words)
    × (lines_in new ≡ lines_in old + 1)
    × (AreBinds old.binds.items → AreBinds new.binds.items)
    × (ArePlaces old.eras.items old.places.items → ArePlaces new.eras.items new.places.items)
TakesLine words old new Ends =
    (words ≡ codes "end") × (new.binds.items ≡ old.binds.items) × (new.eras.items ≡ old.eras.items) × (new.places.items ≡ old.places.items)
TakesLine words old new Refuses =
    (l : Line) → IsLine words l → ArePlaces old.eras.items old.places.items
    → Follows (last_of lines.Witness (behind_first old.binds.items old.eras.items old.places.items)) l → ⊥

-- the text stands in the draft up to what is left of it, and has as many lines so far
pub record IsReadUpTo (text : List ℕ) (draft : Draft) (rest : List ℕ) (number : ℕ) : Type 0 where
  pub spelled : text ≡ spelled_by draft.binds.items draft.eras.items draft.places.items ++ rest
  pub binds : AreBinds draft.binds.items
  pub places : ArePlaces draft.eras.items draft.places.items
  pub lines : number ≡ lines_in draft
  pub counted : number + length rest ≤ length text
