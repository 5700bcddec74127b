-- For the prover, and for callers.
-- How bytes that clients and servers sent stand in a page, as text or as a value in quotes. HTML Standard: these have no noncharacter, and
-- of the controls only white space (3.2.5.2.5), text has no `<` and no `&` but that of a character reference (13.1.2), and a value in
-- quotes has no such quote (13.1.2.3). Noncharacters and controls are those of the Infra Standard, "Code points".
use Rattle.std.specs.Prelude.{◌≡◌, ◌⊎◌, ℕ, zero, suc, ◌+◌, ◌-◌, ◌/◌, ◌%◌, Bool, IsTrue, not, ◌||◌, ◌&&◌, ◌==◌, nat_lt, nat_le, if◌then◌else◌, List, [], ◌∷◌, ◌++◌, codes, encode_utf8, slice_index, Option, Some, None, option_map}
use Rattle.std.specs.Int.{is_in_range}
use Rattle.std.specs.List.{AllByRecursion, flat_map}
use Rattle.bstr.specs.Utf8.{decoded}

-- & < > " ' mean something in a page
abbrev pub is_markup : ℕ → Bool
is_markup c = c == 0x26 || c == 0x3C || c == 0x3E || c == 0x22 || c == 0x27

-- the byte may stand for itself: it means nothing in a page, and is no control
abbrev pub MayStand : ℕ → Type 0
MayStand byte = IsTrue (nat_le 0x20 byte && not (byte == 0x7F) && not (is_markup byte))

-- the character references that are used (HTML Standard, 13.1.4)
abbrev pub IsReference : List ℕ → Type 0
IsReference part =
    (part ≡ codes "&amp;") ⊎ ((part ≡ codes "&lt;") ⊎ ((part ≡ codes "&gt;") ⊎ ((part ≡ codes "&quot;") ⊎ (part ≡ codes "&#39;"))))

abbrev pub IsTextPart : List ℕ → Type 0
IsTextPart part = AllByRecursion MayStand part ⊎ IsReference part

-- the bytes are text: references, and between them bytes that may stand for themselves
pub record IsText (bytes : List ℕ) : Type 0 where
  pub parts : List (List ℕ)
  pub each : AllByRecursion IsTextPart parts
  pub whole : bytes ≡ flat_map (λ part. part) parts

abbrev pub is_control : ℕ → Bool
is_control c = nat_lt c 0x20 || is_in_range 0x7F 0x9F c

abbrev pub is_noncharacter : ℕ → Bool
is_noncharacter c = is_in_range 0xFDD0 0xFDEF c || nat_lt 0xFFFD (c % 0x10000)

-- it turns the direction of a text (Unicode Standard Annex 9, section 2), joins or parts what stands beside it, or begins a line
abbrev pub is_turning : ℕ → Bool
is_turning c =
    c == 0x61C || is_in_range 0x200B 0x200F c || is_in_range 0x2028 0x202E c || is_in_range 0x2060 0x206F c || c == 0xFEFF

-- it is a letter without a shape: a Hangul filler (Unicode Standard, section 18.6) or an inherent vowel of Khmer (16.4)
abbrev pub is_filler : ℕ → Bool
is_filler c = is_in_range 0x115F 0x1160 c || is_in_range 0x17B4 0x17B5 c || c == 0x3164 || c == 0xFFA0

-- it chooses the shape of what stands before it (section 23.4), or is a tag (23.9)
abbrev pub is_selector : ℕ → Bool
is_selector c = is_in_range 0x180B 0x180F c || is_in_range 0xFE00 0xFE0F c || is_in_range 0xE0000 0xE0FFF c

-- it marks a break, an annotation (section 23.8), shorthand or music, without a shape of its own
abbrev pub is_marking : ℕ → Bool
is_marking c =
    c == 0xAD || c == 0x34F || is_in_range 0xFFF0 0xFFFB c || is_in_range 0x1BCA0 0x1BCA3 c || is_in_range 0x1D173 0x1D17A c

-- these are all characters of Default_Ignorable_Code_Point (Unicode Character Database, DerivedCoreProperties.txt), those of interlinear
-- annotation (Unicode Standard, section 23.8), and the two that begin a line
abbrev pub is_unseen : ℕ → Bool
is_unseen c = is_turning c || is_filler c || is_selector c || is_marking c

abbrev pub is_hidden : ℕ → Bool
is_hidden c = is_control c || is_noncharacter c || is_unseen c

-- a hexadecimal digit, in lower case
abbrev pub hex_digit : ℕ → ℕ
hex_digit d = if nat_lt d 10 then 0x30 + d else 0x57 + d

abbrev pub four_digits : ℕ → List ℕ
four_digits n = hex_digit (n / 0x1000 % 16) ∷ hex_digit (n / 0x100 % 16) ∷ hex_digit (n / 16 % 16) ∷ hex_digit (n % 16) ∷ []

-- a byte as \xff: a backslash, an x and two digits
abbrev pub byte_escape : ℕ → List ℕ
byte_escape b = 0x5C ∷ 0x78 ∷ hex_digit (b / 16 % 16) ∷ hex_digit (b % 16) ∷ []

-- a character as \x1b, \u202e or \U0001fffe
abbrev pub char_escape : ℕ → List ℕ
char_escape c =
    if nat_lt c 0x80 then byte_escape c
    else (if nat_lt c 0x10000 then 0x5C ∷ 0x75 ∷ four_digits c else 0x5C ∷ 0x55 ∷ (four_digits (c / 0x10000) ++ four_digits (c % 0x10000)))

-- what stands for a character: a reference where it means something in a page, an escape where it can't be seen, else itself
abbrev pub shown_char : ℕ → List ℕ
shown_char c =
    if c == 0x26 then codes "&amp;"
    else (if c == 0x3C then codes "&lt;"
    else (if c == 0x3E then codes "&gt;"
    else (if c == 0x22 then codes "&quot;"
    else (if c == 0x27 then codes "&#39;"
    else (if is_hidden c then char_escape c else encode_utf8 c)))))

-- the first character with how many bytes it takes, where the bytes begin with one (Unicode Standard, table 3-7)
unfoldable pub first_char : List ℕ → Option (ℕ × ℕ)
first_char bytes = option_map (λ c. (c, (decoded bytes).size)) (decoded bytes).char

-- what stands for the first character, or else for the first byte
abbrev pub shown_first : List ℕ → Option (ℕ × ℕ) → List ℕ
shown_first bytes None = byte_escape (slice_index bytes 0)
shown_first bytes (Some found) = shown_char found.0

-- how many bytes it stands for
abbrev pub taken_first : Option (ℕ × ℕ) → ℕ
taken_first None = 1
taken_first (Some found) = found.1

-- the same of all bytes behind the first n
abbrev pub escaped_behind : ℕ → List ℕ → List ℕ
escaped_behind n [] = []
escaped_behind (suc n) (b ∷ bytes) = escaped_behind n bytes
escaped_behind zero (b ∷ bytes) =
    shown_first (b ∷ bytes) (first_char (b ∷ bytes)) ++ escaped_behind (taken_first (first_char (b ∷ bytes)) - 1) bytes

-- what stands in a page for some bytes
abbrev pub escaped : List ℕ → List ℕ
escaped bytes = escaped_behind 0 bytes
