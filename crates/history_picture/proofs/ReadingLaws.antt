-- A browser reads no tag in a page but the program's own.
use Rattle.std.proofs.Common.{◌≡◌, ⊎_elim, ℕ, zero, suc, ◌+◌, ◌/◌, ◌%◌, ◌<◌, Bool, true, false, nat_lt, List, [], ◌∷◌, ◌++◌, refl, sym, ap, ap₂, subst, ◌∙◌, arith, lt-ltb, append_assoc}
use Rattle.std.specs.Prelude.{◌==◌, if◌then◌else◌, codes, decimal}
use Rattle.std.proofs.lemmas.Bool.Decides.{nat_tests}
use Rattle.std.proofs.lemmas.Bool.{cond-true}
use Rattle.std.specs.Fmt.{digits, digits_onto, digit_glyph}
use Rattle.std.specs.List.{AllByRecursion, flat_map}
use Rattle.history_picture.specs.declared.fixed.Fixed.{Fixed}
use Rattle.history_picture.specs.declared.fixed.Fixed.TheVariants as variants
use Rattle.history_picture.specs.declared.shapes.Class.{Class}
use Rattle.history_picture.specs.declared.shapes.Class.TheVariants as classes
use Rattle.history_picture.specs.declared.shapes.Shape.{Shape}
use Rattle.history_picture.specs.declared.shapes.Shape.TheVariants as shapes
use Rattle.history_picture.specs.Escaping.{MayStand, IsReference, IsTextPart, IsText, escaped}
use Rattle.history_picture.specs.Fixed.{fixed_words}
use Rattle.history_picture.specs.Shapes.{class_words, shape_words}
use Rattle.history_picture.specs.Pages.{Piece, piece_words, IsPage}
use Rattle.history_picture.specs.Reading.{Where, moved, moved_by, is_of_tag, byte_if, tags_from, tags_in, own_tags, HasOwnTags}
use Rattle.history_picture.proofs.TextLaws.{escaped_is_text}

-- ---- two parts

moved_by-append : (place : Where) (xs ys : List ℕ) → moved_by place (xs ++ ys) ≡ moved_by (moved_by place xs) ys
moved_by-append place [] ys = refl
moved_by-append place (x ∷ xs) ys = moved_by-append (moved place x) xs ys

tags_from-append : (place : Where) (xs ys : List ℕ) → tags_from place (xs ++ ys) ≡ tags_from place xs ++ tags_from (moved_by place xs) ys
tags_from-append place [] ys = refl
tags_from-append place (x ∷ xs) ys =
    let next = moved place x in
    let here = byte_if (is_of_tag place x) x in
    ap (λ (later : List ℕ). here ++ later) (tags_from-append next xs ys)
    ∙ sym (append_assoc here (tags_from next xs) (tags_from (moved_by next xs) ys))

-- ---- bytes that stand for themselves

no_angle : (b : ℕ) → MayStand b → (b == 0x3C) ≡ false
no_angle b stands = grind (arith, nat_tests)

no_quote : (b : ℕ) → MayStand b → (b == 0x22) ≡ false
no_quote b stands = grind (arith, nat_tests)

-- the reader stays in text, and reads no tag
record IsSeen (part : List ℕ) : Type 0 where
  stays : moved_by Where.in_text part ≡ Where.in_text
  tagless : tags_in part ≡ []

plain_is_seen : (part : List ℕ) → AllByRecursion MayStand part → IsSeen part
plain_is_seen [] all = record { stays = refl; tagless = refl }
plain_is_seen (b ∷ part) all =
    let later = plain_is_seen part all.1 in
    let seen = no_angle b all.0 in record {
      stays = ap (λ (is : Bool). moved_by (if is then Where.in_tag else Where.in_text) part) seen ∙ later.stays;
      tagless = ap (λ (is : Bool). byte_if is b ++ tags_from (if is then Where.in_tag else Where.in_text) part) seen
          ∙ later.tagless;
    }

reference_is_seen : (part : List ℕ) → IsReference part → IsSeen part
reference_is_seen part is = ⊎_elim
    (λ a. subst IsSeen (sym a) (record { stays = refl; tagless = refl }))
    (λ more. ⊎_elim
    (λ a. subst IsSeen (sym a) (record { stays = refl; tagless = refl }))
    (λ more. ⊎_elim
    (λ a. subst IsSeen (sym a) (record { stays = refl; tagless = refl }))
    (λ more. ⊎_elim
    (λ a. subst IsSeen (sym a) (record { stays = refl; tagless = refl }))
    (λ a. subst IsSeen (sym a) (record { stays = refl; tagless = refl }))
    more) more) more) is

part_is_seen : (part : List ℕ) → IsTextPart part → IsSeen part
part_is_seen part is = ⊎_elim (λ plain. plain_is_seen part plain) (λ reference. reference_is_seen part reference) is

both_are_seen : (xs ys : List ℕ) → IsSeen xs → IsSeen ys → IsSeen (xs ++ ys)
both_are_seen xs ys front later = record {
  stays = moved_by-append Where.in_text xs ys ∙ ap (λ (place : Where). moved_by place ys) front.stays ∙ later.stays;
  tagless = tags_from-append Where.in_text xs ys ∙ ap₂ (λ (tags : List ℕ) (place : Where). tags ++ tags_from place ys) front.tagless front.stays ∙ later.tagless;
}

parts_are_seen : (parts : List (List ℕ)) → AllByRecursion IsTextPart parts → IsSeen (flat_map (λ part. part) parts)
parts_are_seen [] all = record { stays = refl; tagless = refl }
parts_are_seen (part ∷ parts) all =
    both_are_seen part (flat_map (λ part. part) parts) (part_is_seen part all.0) (parts_are_seen parts all.1)

text_is_seen : (bytes : List ℕ) → IsText bytes → IsSeen bytes
text_is_seen bytes text = subst IsSeen (sym text.whole) (parts_are_seen text.parts text.each)

-- ---- numbers

glyph_stands : (d : ℕ) → d < 10 → MayStand (digit_glyph false d)
glyph_stands d low = subst MayStand (sym (cond-true (nat_lt d 10) (48 + d) (87 + d) (lt-ltb d 10 low))) (grind (arith, nat_tests))

either_way : (b : Bool) (xs ys : List ℕ) → AllByRecursion MayStand xs → AllByRecursion MayStand ys → AllByRecursion MayStand (if b then xs else ys)
either_way true xs ys front behind = front
either_way false xs ys front behind = behind

digits_stand : (k n : ℕ) (later : List ℕ) → AllByRecursion MayStand later → AllByRecursion MayStand (digits_onto k 10 false n later)
digits_stand zero n later all = all
digits_stand (suc k) n later all =
    let low : n % 10 < 10 = omega arith in
    let more : AllByRecursion MayStand (digit_glyph false (n % 10) ∷ later) = (glyph_stands (n % 10) low, all) in
    either_way (n / 10 == 0) (digit_glyph false (n % 10) ∷ later) (digits_onto k 10 false (n / 10) (digit_glyph false (n % 10) ∷ later))
    more (digits_stand k (n / 10) (digit_glyph false (n % 10) ∷ later) more)

decimal_is : (n : ℕ) → decimal n ≡ digits_onto 64 10 false n []
unfolding digits
decimal_is n = refl

all_stand : (part : List ℕ) (k n : ℕ) → part ≡ digits_onto k 10 false n [] → AllByRecursion MayStand part
all_stand part k n is = subst (AllByRecursion MayStand) (sym is) (digits_stand k n [] tt)

decimal_stands : (n : ℕ) → AllByRecursion MayStand (decimal n)
decimal_stands n = all_stand (decimal n) 64 n (decimal_is n)

-- ---- values in quotes

quoted : (part ys : List ℕ) → AllByRecursion MayStand part → moved_by Where.in_quotes (part ++ ys) ≡ moved_by Where.in_quotes ys
quoted [] ys all = refl
quoted (b ∷ part) ys all =
    ap (λ (is : Bool). moved_by (if is then Where.in_tag else Where.in_quotes) (part ++ ys)) (no_quote b all.0) ∙ quoted part ys all.1

past_number : (n : ℕ) (ys : List ℕ) → moved_by Where.in_quotes (decimal n ++ ys) ≡ moved_by Where.in_quotes ys
past_number n ys = quoted (decimal n) ys (decimal_stands n)

past_class : (class : Class) (ys : List ℕ) → moved_by Where.in_quotes (class_words class ++ ys) ≡ moved_by Where.in_quotes ys
past_class classes.Names ys = refl
past_class classes.Again ys = refl
past_class classes.Strip ys = refl
past_class classes.Lane ys = refl
past_class classes.Odd ys = refl
past_class classes.Tick ys = refl
past_class classes.Crash ys = refl
past_class classes.Bar ys = refl
past_class classes.Cut ys = refl
past_class classes.Unanswered ys = refl
past_class classes.Lost ys = refl
past_class classes.Label ys = refl
past_class classes.Plain ys = refl
past_class classes.Asked ys = refl
past_class classes.Fault ys = refl
past_class classes.Explains ys = refl

-- ---- the program's own

-- a tag in two parts
in_two : (xs ys : List ℕ) → moved_by Where.in_text xs ≡ Where.in_tag → moved_by Where.in_tag ys ≡ Where.in_text → moved_by Where.in_text (xs ++ ys) ≡ Where.in_text
in_two xs ys front back = moved_by-append Where.in_text xs ys ∙ ap (λ (place : Where). moved_by place ys) front ∙ back

svg_begins : (class : Class) (width height : ℕ)
    → moved_by Where.in_text (codes "<svg class=\"" ++ (class_words class ++ (codes "\" width=\"" ++ (decimal width ++ (codes "\" height=\"" ++ (decimal height ++ codes "\"")))))) ≡ Where.in_tag
svg_begins class width height = simp (past_class, past_number)

svg_ends : (left width height : ℕ)
    → moved_by Where.in_tag (codes " viewBox=\"" ++ (decimal left ++ (codes " 0 " ++ (decimal width ++ (codes " " ++ (decimal height ++ codes "\">\n")))))) ≡ Where.in_text
svg_ends left width height = simp past_number

shape_is_whole : (tag : Shape) → moved_by Where.in_text (shape_words tag) ≡ Where.in_text
shape_is_whole (shapes.Svg class left width height) =
    in_two (codes "<svg class=\"" ++ (class_words class ++ (codes "\" width=\"" ++ (decimal width ++ (codes "\" height=\"" ++ (decimal height ++ codes "\""))))))
    (codes " viewBox=\"" ++ (decimal left ++ (codes " 0 " ++ (decimal width ++ (codes " " ++ (decimal height ++ codes "\">\n"))))))
    (svg_begins class width height) (svg_ends left width height)
shape_is_whole (shapes.Group class) = simp past_class
shape_is_whole (shapes.Rect class x y width height) = simp (past_class, past_number)
shape_is_whole (shapes.Open class free top closed bottom) = simp (past_class, past_number)
shape_is_whole (shapes.Upright class x top bottom) = simp (past_class, past_number)
shape_is_whole (shapes.Text class x y) = simp (past_class, past_number)
shape_is_whole (shapes.Row class) = simp past_class

fixed_is_whole : (words : Fixed) → moved_by Where.in_text (fixed_words words) ≡ Where.in_text
fixed_is_whole variants.Beginning = refl
fixed_is_whole variants.Style = refl
fixed_is_whole variants.Legend = refl
fixed_is_whole variants.Range = refl
fixed_is_whole variants.To = refl
fixed_is_whole variants.Of = refl
fixed_is_whole variants.NotDrawn = refl
fixed_is_whole variants.LeftOut = refl
fixed_is_whole variants.EndRange = refl
fixed_is_whole variants.Names = refl
fixed_is_whole variants.NamesAgain = refl
fixed_is_whole variants.EndSvg = refl
fixed_is_whole variants.Hatch = refl
fixed_is_whole variants.Title = refl
fixed_is_whole variants.EndTitle = refl
fixed_is_whole variants.LineFeed = refl
fixed_is_whole variants.Lane = refl
fixed_is_whole variants.Call = refl
fixed_is_whole variants.Crash = refl
fixed_is_whole variants.Place = refl
fixed_is_whole variants.EndPlace = refl
fixed_is_whole variants.Space = refl
fixed_is_whole variants.Dots = refl
fixed_is_whole variants.EndLabel = refl
fixed_is_whole variants.EndGroup = refl
fixed_is_whole variants.Table = refl
fixed_is_whole variants.Cell = refl
fixed_is_whole variants.NoReply = refl
fixed_is_whole variants.Lost = refl
fixed_is_whole variants.Asked = refl
fixed_is_whole variants.AtFault = refl
fixed_is_whole variants.Explains = refl
fixed_is_whole variants.EndRow = refl
fixed_is_whole variants.End = refl

-- ---- a page

-- a piece ends in text, and has its own tags
record IsWhole (piece : Piece) : Type 0 where
  ended : moved_by Where.in_text (piece_words piece) ≡ Where.in_text
  tags : tags_in (piece_words piece) ≡ own_tags piece

seen_is_whole : (piece : Piece) → own_tags piece ≡ [] → IsSeen (piece_words piece) → IsWhole piece
seen_is_whole piece none seen = record { ended = seen.stays; tags = seen.tagless ∙ sym none }

piece_is_whole : (piece : Piece) → IsWhole piece
piece_is_whole (Piece.fixed words) = record { ended = fixed_is_whole words; tags = refl }
piece_is_whole (Piece.shape tag) = record { ended = shape_is_whole tag; tags = refl }
piece_is_whole (Piece.number n) = seen_is_whole (Piece.number n) refl (plain_is_seen (decimal n) (decimal_stands n))
piece_is_whole (Piece.text bytes) = seen_is_whole (Piece.text bytes) refl (text_is_seen (escaped bytes) (escaped_is_text bytes))

record AreWhole (pieces : List Piece) : Type 0 where
  ended : moved_by Where.in_text (flat_map piece_words pieces) ≡ Where.in_text
  tags : tags_in (flat_map piece_words pieces) ≡ flat_map own_tags pieces

pieces_are_whole : (pieces : List Piece) → AreWhole pieces
pieces_are_whole [] = record { ended = refl; tags = refl }
pieces_are_whole (piece ∷ pieces) =
    let first = piece_is_whole piece in
    let later = pieces_are_whole pieces in
    let words = piece_words piece in
    let behind = flat_map piece_words pieces in record {
      ended = moved_by-append Where.in_text words behind ∙ ap (λ (place : Where). moved_by place behind) first.ended ∙ later.ended;
      tags = tags_from-append Where.in_text words behind
          ∙ ap₂ (λ (tags : List ℕ) (place : Where). tags ++ tags_from place behind) first.tags first.ended
          ∙ ap (λ (tags : List ℕ). own_tags piece ++ tags) later.tags;
    }

pub page_has_own_tags : (bytes : List ℕ) → IsPage bytes → HasOwnTags bytes
page_has_own_tags bytes page =
    let whole = pieces_are_whole page.pieces in record {
      pieces = page.pieces;
      parts = page.parts;
      ended = ap (moved_by Where.in_text) page.parts ∙ whole.ended;
      tags = ap tags_in page.parts ∙ whole.tags;
    }
