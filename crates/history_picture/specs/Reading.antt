-- For the prover, and for callers.
-- Which bytes of a page a browser reads as tags (HTML Standard, 13.2.5): in text a tag begins with <, and it ends with the first > that isn't
-- in a value in quotes.
use Rattle.std.specs.Prelude.{◌≡◌, ℕ, Bool, true, false, ◌==◌, if◌then◌else◌, List, [], ◌∷◌, ◌++◌}
use Rattle.std.specs.List.{flat_map}
use Rattle.history_picture.specs.Fixed.{fixed_words}
use Rattle.history_picture.specs.Shapes.{shape_words}
use Rattle.history_picture.specs.Pages.{Piece, piece_words}

pub data Where : Type 0 where
  in_text : Where
  in_tag : Where
  in_quotes : Where

-- where the reader is behind a byte
abbrev pub moved : Where → ℕ → Where
moved in_text byte = if byte == 0x3C then in_tag else in_text
moved in_tag byte = if byte == 0x3E then in_text else (if byte == 0x22 then in_quotes else in_tag)
moved in_quotes byte = if byte == 0x22 then in_tag else in_quotes

-- where it is behind some bytes
abbrev pub moved_by : Where → List ℕ → Where
moved_by place [] = place
moved_by place (byte ∷ bytes) = moved_by (moved place byte) bytes

-- the byte belongs to a tag
abbrev pub is_of_tag : Where → ℕ → Bool
is_of_tag in_text byte = byte == 0x3C
is_of_tag in_tag byte = true
is_of_tag in_quotes byte = true

abbrev pub byte_if : Bool → ℕ → List ℕ
byte_if true byte = byte ∷ []
byte_if false byte = []

-- the tags in some bytes, each from its < to its >
abbrev pub tags_from : Where → List ℕ → List ℕ
tags_from place [] = []
tags_from place (byte ∷ bytes) = byte_if (is_of_tag place byte) byte ++ tags_from (moved place byte) bytes

abbrev pub tags_in : List ℕ → List ℕ
tags_in bytes = tags_from in_text bytes

-- the tags of the program's own; what others wrote has none
abbrev pub own_tags : Piece → List ℕ
own_tags (Piece.fixed words) = tags_in (fixed_words words)
own_tags (Piece.shape tag) = tags_in (shape_words tag)
own_tags (Piece.number n) = []
own_tags (Piece.text bytes) = []

-- the bytes are such pieces, they end outside of a tag, and a browser reads no tags in them but the program's own
pub record HasOwnTags (bytes : List ℕ) : Type 0 where
  pub pieces : List Piece
  pub parts : bytes ≡ flat_map piece_words pieces
  pub ended : moved_by in_text bytes ≡ in_text
  pub tags : tags_in bytes ≡ flat_map own_tags pieces
