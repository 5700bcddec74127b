-- The parts of a line's words.
use Rattle.std.proofs.Common.{◌≡◌, ℕ, ◌<◌, ◌^◌, List, ◌∷◌, ◌++◌, Some, None, eqb, false, refl, sym, ◌∙◌, arith, decimal, codes}
use Rattle.std.proofs.lemmas.Bool.{eq-eqb}
use Rattle.hex.specs.Hex.{encode_lower}
use Rattle.certificate.specs.declared.plan.Bind.{Bind}
use Rattle.certificate.specs.declared.plan.Place.{Place}
use Rattle.certificate.specs.declared.plan.Place.TheVariants.{Answered, Taken}
use Rattle.certificate.specs.declared.line.Line.TheVariants as lines
use Rattle.text_words.specs.Words.{Lacks}
use Rattle.certificate.specs.Line.{IsLine, WritesHandle}
use Rattle.text_words.proofs.Cuts.{split_same, no_split, Lacks-decimal}
use Rattle.certificate.proofs.Hex.{Lacks-hex}

pub other_first : (a b : ℕ) (xs ys : List ℕ) → eqb a b ≡ false → a ∷ xs ≡ b ∷ ys → ⊥
other_first a b xs ys not e = let same : a ≡ b = cc (e) in cc (sym not ∙ eq-eqb a b same)

-- a line of a handle and an object
pub parts_of_bind : (words handle object : List ℕ) (b : Bind) → words ≡ handle ++ 32 ∷ object → Lacks 32 handle → IsLine (codes "bind " ++ words) (lines.Bind b) → WritesHandle handle b.handle × (object ≡ decimal b.object) × (b.object < 2 ^ 64)
parts_of_bind words handle object b e lacks h =
    let tails : words ≡ encode_lower b.handle ++ 32 ∷ decimal b.object = cc (h.0) in
    let parts = split_same 32 handle (encode_lower b.handle) object (decimal b.object) lacks (Lacks-hex 32 b.handle refl h.1.2) (sym e ∙ tails) in
    ((parts.0, h.1.0, h.1.1, h.1.2), parts.1, h.1.3)

-- a bind has a space
pub space_of_bind : (words : List ℕ) (b : Bind) → Lacks 32 words → IsLine (codes "bind " ++ words) (lines.Bind b) → ⊥
space_of_bind words b lacks h =
    let tails : words ≡ encode_lower b.handle ++ 32 ∷ decimal b.object = cc (h.0) in
    no_split 32 words (encode_lower b.handle) (decimal b.object) lacks tails

-- a line of a number and a count
pub counted : (words number count : List ℕ) (p : Place) → words ≡ number ++ 32 ∷ count → Lacks 32 number → IsLine (codes "take " ++ words) (lines.Place p) → (n c : ℕ) × (number ≡ decimal n) × (n < 2 ^ 64) × (count ≡ decimal c) × (c < 2 ^ 32)
counted words number count (Answered n) e lacks h = absurd (other_first 116 112 _ _ refl h.0)
counted words number count (Taken n None) e lacks h =
    let tails : words ≡ decimal n = cc (h.0) in
    absurd (no_split 32 (decimal n) number count (Lacks-decimal 32 n (omega arith) h.1.0) (sym tails ∙ e))
counted words number count (Taken n (Some c)) e lacks h =
    let tails : words ≡ decimal n ++ 32 ∷ decimal c = cc (h.0) in
    let parts = split_same 32 number (decimal n) count (decimal c) lacks (Lacks-decimal 32 n (omega arith) h.1.0) (sym e ∙ tails) in
    (n, c, parts.0, h.1.0, parts.1, h.1.1)

-- a line of a number alone
pub uncounted : (words : List ℕ) (p : Place) → Lacks 32 words → IsLine (codes "take " ++ words) (lines.Place p) → (n : ℕ) × (words ≡ decimal n) × (n < 2 ^ 64)
uncounted words (Answered n) lacks h = absurd (other_first 116 112 _ _ refl h.0)
uncounted words (Taken n None) lacks h =
    let tails : words ≡ decimal n = cc (h.0) in (n, tails, h.1.0)
uncounted words (Taken n (Some c)) lacks h =
    let tails : words ≡ decimal n ++ 32 ∷ decimal c = cc (h.0) in
    absurd (no_split 32 words (decimal n) (decimal c) lacks tails)
