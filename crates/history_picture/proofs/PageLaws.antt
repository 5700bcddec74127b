-- A page with one piece more is a page.
use Rattle.std.proofs.Common.{◌≡◌, ℕ, Bool, true, false, List, [], ◌∷◌, ◌++◌, ap, sym, subst, ◌∙◌, refl}
use Rattle.std.specs.Prelude.{if◌then◌else◌}
use Rattle.std.proofs.lemmas.List.{flat_map_more}
use Rattle.history_picture.specs.Pages.{Piece, piece_words, IsPage}

pub empty_page : IsPage []
empty_page = record { pieces = []; parts = refl }

one_more : (bytes : List ℕ) (piece : Piece) → IsPage bytes → IsPage (bytes ++ piece_words piece)
one_more bytes piece page = record {
  pieces = page.pieces ++ piece ∷ [];
  parts = ap (λ (front : List ℕ). front ++ piece_words piece) page.parts ∙ flat_map_more piece_words [] page.pieces piece;
}

-- where memory runs out it stays as it was
pub grown : (old new words : List ℕ) (fine : Bool) (piece : Piece) → new ≡ (if fine then old ++ words else old) → words ≡ piece_words piece
    → IsPage old → IsPage new
grown old new words true piece is same page = subst IsPage (sym (is ∙ ap (λ (more : List ℕ). old ++ more) same)) (one_more old piece page)
grown old new words false piece is same page = subst IsPage (sym is) page
