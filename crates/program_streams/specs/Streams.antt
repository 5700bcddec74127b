-- Believed.
-- Streams that don't fail (words of this project's own): an input whose end comes after so many reads, an output with room.
use Rattle.std.specs.Prelude.{◌≡◌, ◌⊎◌, ℕ, ◌<◌, ◌≤◌, ⊤, take, length, List, Option, Some, None, Result, MatchResult}
use Rattle.std.specs.Option.{IsSomeAnd}
use Rattle.std.specs.Io.KnownBytes.{Appends}
use Rattle.std.specs.IoError.{error_kind}
use Rattle.std.specs.declared.io.Error.{Error}
use Rattle.std.specs.declared.io.ErrorKind.TheVariants.{Interrupted}

-- there are fewer than n reads ahead of the one that tells the end
abbrev pub HasFewerReads : Option ℕ → ℕ → Type 0
HasFewerReads left n = IsSomeAnd left (λ m. m < n)

-- where a reader doesn't fail, a read tells the end, or brings it nearer; one that is interrupted may be tried again
abbrev pub DoesNotFail : Option ℕ → Option ℕ → Result ℕ Error → Type 0
DoesNotFail None new r = ⊤
DoesNotFail (Some n) new r = MatchResult r
    (λ count. (count ≡ 0) ⊎ HasFewerReads new n)
    (λ error. (error_kind error ≡ Interrupted) × HasFewerReads new n)

-- an input gives these bytes to its end, with less than 1,000,000 reads ahead of the one that tells it, none of which fails
abbrev pub GivesAll : Option (List ℕ) → Option ℕ → List ℕ → Type 0
GivesAll remaining reads_left bytes = (remaining ≡ Some bytes) × IsSomeAnd reads_left (λ n. n < 1000000)

-- an output has room for a text, and writing it can't fail
abbrev pub HasRoom : Option ℕ → List ℕ → Type 0
HasRoom room text = IsSomeAnd room (λ n. length text ≤ n)

-- what an output holds grows by a front of the text, the whole of it perhaps
abbrev pub AppendsFront : Option (List ℕ) → Option (List ℕ) → List ℕ → Type 0
AppendsFront old new text = (count : ℕ) × (count ≤ length text) × Appends old new (take count text)
