-- For the prover, and for callers.
-- One line of a certificate's text (of this project's own format), as what it says.
use Rattle.std.specs.Prelude.{◌≡◌, ℕ, ◌<◌, ◌≤◌, ◌^◌, List, [], ◌∷◌, ◌++◌, length, map, Option, Some, None, codes, decimal}
use Rattle.hex.specs.Hex.{IsBytes, encode_lower}
use Rattle.certificate.specs.declared.line.Line.{Line}
use Rattle.certificate.specs.declared.line.Line.TheVariants as lines
use Rattle.std.specs.List.{flat_map}
use Rattle.std.specs.Ordering.{nat_cmp}
use Rattle.std.specs.Cmp.Lexicographic.{slice_cmp}
use Rattle.std.specs.declared.cmp.Ordering.TheVariants.{Less}
use Rattle.certificate.specs.declared.plan.Bind.{Bind}
use Rattle.certificate.specs.declared.plan.Place.{Place}
use Rattle.certificate.specs.declared.plan.EraPlan.{EraPlan}
use Rattle.certificate.specs.CertificateText.{bind_words, place_words, HasHandle, HasNumbers}

-- the words of a line
abbrev pub words_of : Line → List ℕ
words_of lines.Witness = codes "witness 1"
words_of (lines.Bind bind) = bind_words bind
words_of (lines.Place place) = place_words place
words_of (lines.Cut kept) = codes "cut " ++ decimal kept
words_of lines.End = codes "end"

-- the words of a line that may stand somewhere in a certificate
abbrev pub IsLine : List ℕ → Line → Type 0
IsLine words (lines.Bind bind) = (words ≡ bind_words bind) × HasHandle bind
IsLine words (lines.Place place) = (words ≡ place_words place) × HasNumbers place
IsLine words (lines.Cut kept) = (words ≡ codes "cut " ++ decimal kept) × (kept < 2 ^ 64)
IsLine words l = words ≡ words_of l

-- the text writes a handle that may be bound
abbrev pub WritesHandle : List ℕ → List ℕ → Type 0
WritesHandle text h = (text ≡ encode_lower h) × (0 < length h) × (length h ≤ 64) × IsBytes h

-- the lines of a draft behind its first one
abbrev pub place_list : List Place → List Line
place_list places = map (λ place. lines.Place place) places

abbrev pub cut_list : Option ℕ → List Line
cut_list None = []
cut_list (Some kept) = lines.Cut kept ∷ []

abbrev pub era_list : EraPlan → List Line
era_list era = place_list era.places ++ cut_list era.cut

abbrev pub bind_list : List Bind → List Line
bind_list binds = map (λ bind. lines.Bind bind) binds

abbrev pub behind_first : List Bind → List EraPlan → List Place → List Line
behind_first binds eras places = bind_list binds ++ (flat_map era_list eras ++ place_list places)

-- the last of a line and those behind it
abbrev pub last_of : Line → List Line → Line
last_of l [] = l
last_of l (next ∷ more) = last_of next more

-- the line may stand right behind another
abbrev pub Follows : Line → Line → Type 0
Follows lines.End next = ⊥
Follows l lines.Witness = ⊥
Follows lines.Witness (lines.Bind bind) = Unit {0}
Follows (lines.Bind ahead) (lines.Bind bind) = slice_cmp nat_cmp ahead.handle bind.handle ≡ Less
Follows l (lines.Bind bind) = ⊥
Follows l next = Unit {0}
