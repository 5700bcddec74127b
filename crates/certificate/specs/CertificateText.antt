-- Believed.
-- The text of a certificate, version 1. A certificate has one spelling. (This project's own format; the
-- handles in hexadecimal of two lower case digits a byte.)
use Rattle.std.specs.Prelude.{◌≡◌, ℕ, ◌<◌, ◌≤◌, ◌^◌, List, [], ◌∷◌, ◌++◌, length, codes, Option, Some, None, decimal, IfSome}
use Rattle.std.specs.List.{flat_map, AllByRecursion}
use Rattle.std.specs.Ordering.{nat_cmp}
use Rattle.std.specs.declared.cmp.Ordering.TheVariants.{Less}
use Rattle.std.specs.Cmp.Lexicographic.{slice_cmp}
use Rattle.hex.specs.Hex.{IsBytes, encode_lower}
use Rattle.certificate.specs.declared.plan.Bind.{Bind}
use Rattle.certificate.specs.declared.plan.Place.{Place}
use Rattle.certificate.specs.declared.plan.Place.TheVariants.{Answered, Taken}
use Rattle.certificate.specs.declared.plan.EraPlan.{EraPlan}
use Rattle.certificate.specs.declared.plan.Certificate.{Certificate}

-- a line's words, and the line feed that ends it
abbrev pub line : List ℕ → List ℕ
line words = words ++ 10 ∷ []

abbrev pub bind_words : Bind → List ℕ
bind_words bind = codes "bind " ++ (encode_lower bind.handle ++ (32 ∷ decimal bind.object))

abbrev pub place_words : Place → List ℕ
place_words (Answered n) = codes "place " ++ decimal n
place_words (Taken n None) = codes "take " ++ decimal n
place_words (Taken n (Some count)) = codes "take " ++ (decimal n ++ (32 ∷ decimal count))

abbrev pub place_lines : List Place → List ℕ
place_lines places = flat_map (λ place. line (place_words place)) places

abbrev pub bind_lines : List Bind → List ℕ
bind_lines binds = flat_map (λ bind. line (bind_words bind)) binds

-- the end of an era: its cut, where it has one
abbrev pub cut_lines : Option ℕ → List ℕ
cut_lines None = []
cut_lines (Some kept) = line (codes "cut " ++ decimal kept)

abbrev pub era_lines : EraPlan → List ℕ
era_lines era = place_lines era.places ++ cut_lines era.cut

-- the text of a certificate
abbrev pub spelling : Certificate → List ℕ
spelling certificate =
    line (codes "witness 1") ++ (bind_lines certificate.binds ++ (flat_map era_lines certificate.eras ++ line (codes "end")))

-- handles rise strictly, in the order of bytes, a front before what it begins
abbrev pub AreRising : List Bind → Type 0
AreRising [] = Unit {0}
AreRising (b ∷ []) = Unit {0}
AreRising (b ∷ c ∷ bs) = (slice_cmp nat_cmp b.handle c.handle ≡ Less) × AreRising (c ∷ bs)

-- a handle that is bound is not empty, and its object has a number of 64 bits
abbrev pub HasHandle : Bind → Type 0
HasHandle bind = (0 < length bind.handle) × (length bind.handle ≤ 64) × IsBytes bind.handle × (bind.object < 2 ^ 64)

-- a call has a number of 64 bits, and a count 32
abbrev pub HasNumbers : Place → Type 0
HasNumbers (Answered n) = n < 2 ^ 64
HasNumbers (Taken n count) = (n < 2 ^ 64) × IfSome count (λ c. c < 2 ^ 32)

-- so have the places of an era and its cut
abbrev pub HasNumbersInEra : EraPlan → Type 0
HasNumbersInEra era = AllByRecursion HasNumbers era.places × IfSome era.cut (λ kept. kept < 2 ^ 64)

-- each era but the last has a cut, the last has none, and there is a last one
abbrev pub AreEras : List EraPlan → Type 0
AreEras [] = ⊥
AreEras (era ∷ []) = era.cut ≡ None
AreEras (era ∷ next ∷ eras) = ((kept : ℕ) × (era.cut ≡ Some kept)) × AreEras (next ∷ eras)

-- what a certificate keeps to
pub record IsCertificate (certificate : Certificate) : Type 0 where
  pub rising : AreRising certificate.binds
  pub handles : AllByRecursion HasHandle certificate.binds
  pub eras : AreEras certificate.eras

-- the text spells the certificate, and its numbers are of their sizes
pub record CertificateText (text : List ℕ) (certificate : Certificate) : Type 0 where
  pub spelled : text ≡ spelling certificate
  pub kept_to : IsCertificate certificate
  pub numbers : AllByRecursion HasNumbersInEra certificate.eras
