-- For the prover, and for callers.
-- What a page is made of: text of the program's own, whole tags with a class and numbers in them, numbers, and text of others, which is
-- escaped. The first two begin and end outside of a tag, a style and a script, so that the last two stand as text.
use Rattle.std.specs.Prelude.{◌≡◌, ℕ, List, decimal}
use Rattle.std.specs.List.{flat_map}
use Rattle.history_picture.specs.declared.fixed.Fixed.{Fixed}
use Rattle.history_picture.specs.declared.shapes.Shape.{Shape}
use Rattle.history_picture.specs.Escaping.{escaped}
use Rattle.history_picture.specs.Fixed.{fixed_words}
use Rattle.history_picture.specs.Shapes.{shape_words}

pub data Piece : Type 0 where
  fixed : Fixed → Piece
  shape : Shape → Piece
  number : ℕ → Piece
  text : List ℕ → Piece

abbrev pub piece_words : Piece → List ℕ
piece_words (fixed words) = fixed_words words
piece_words (shape tag) = shape_words tag
piece_words (number n) = decimal n
piece_words (text bytes) = escaped bytes

-- these bytes are such pieces, one behind the other
pub record IsPage (bytes : List ℕ) : Type 0 where
  pub pieces : List Piece
  pub parts : bytes ≡ flat_map piece_words pieces
