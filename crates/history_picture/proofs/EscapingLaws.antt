-- What stands for some bytes is what stands for the first character, or byte, and then for what is left.
use Rattle.std.proofs.Common.{◌≡◌, ℕ, zero, suc, ◌-◌, ◌<◌, ◌≤◌, List, [], ◌∷◌, ◌++◌, length, take, drop, Some, None, refl, sym, ap, ap₂, subst, ◌∙◌, arith, append_assoc}
use Rattle.std.proofs.lemmas.List.{append-nil, nil_from_length, take_at}
use Rattle.std.specs.Char.{encode_utf8}
use Rattle.std.specs.Option.{option_map}
use Rattle.bstr.specs.Utf8.{decoded}
use Rattle.bstr.proofs.lemmas.PieceLemmas.{piece-bounds}
use Rattle.bstr.proofs.lemmas.SoundLemmas.{SpellsChar-decoded}
use Rattle.history_picture.specs.Escaping.{first_char, shown_first, taken_first, escaped_behind, escaped}

-- ---- the first character

pub first_char-some : (bytes : List ℕ) (c n : ℕ) → Some c ≡ (decoded bytes).char → n ≡ (decoded bytes).size → Some (c, n) ≡ first_char bytes
unfolding first_char
first_char-some bytes c n char size =
    ap (λ (k : ℕ). Some (c, k)) size ∙ ap (option_map (λ (d : ℕ). (d, (decoded bytes).size))) char

pub first_char-none : (bytes : List ℕ) → None ≡ (decoded bytes).char → None ≡ first_char bytes
unfolding first_char
first_char-none bytes char = ap (option_map (λ (d : ℕ). (d, (decoded bytes).size))) char

pub size-within : (bytes : List ℕ) (n : ℕ) → 0 < length bytes → n ≡ (decoded bytes).size → (0 < n) × (n ≤ length bytes)
size-within bytes n some size =
    let bounds = piece-bounds bytes some in (omega (arith, size, bounds.0), omega (arith, size, bounds.2))

pub spelled-first : (bytes : List ℕ) (c n : ℕ) → Some c ≡ (decoded bytes).char → n ≡ (decoded bytes).size → take n bytes ≡ encode_utf8 c
spelled-first bytes c n char size =
    let spelled = SpellsChar-decoded bytes c (sym char) in
    let whole = (decoded bytes).size in
    ap (λ (k : ℕ). take k bytes) size ∙ (ap (take whole) spelled.bytes ∙ take_at (encode_utf8 c) (drop whole bytes) whole spelled.width)

-- ---- one step

behind-drop : (n : ℕ) (bytes : List ℕ) → escaped_behind n bytes ≡ escaped (drop n bytes)
behind-drop zero bytes = refl
behind-drop (suc n) [] = refl
behind-drop (suc n) (b ∷ bytes) = behind-drop n bytes

drop_past_first : (n b : ℕ) (bytes : List ℕ) → 0 < n → drop (n - 1) bytes ≡ drop n (b ∷ bytes)
drop_past_first zero b bytes some = absurd (omega arith)
drop_past_first (suc n) b bytes some = let same : suc n - 1 ≡ n = omega arith in ap (λ (k : ℕ). drop k bytes) same

pub escaped-step : (bytes : List ℕ) → 0 < length bytes → 0 < taken_first (first_char bytes)
    → escaped bytes ≡ shown_first bytes (first_char bytes) ++ escaped (drop (taken_first (first_char bytes)) bytes)
escaped-step [] some one = absurd (omega arith)
escaped-step (b ∷ bytes) some one =
    let taken = taken_first (first_char (b ∷ bytes)) in
    ap (λ (later : List ℕ). shown_first (b ∷ bytes) (first_char (b ∷ bytes)) ++ later)
    (behind-drop (taken - 1) bytes ∙ ap escaped (drop_past_first taken b bytes one))

-- the step of the loop, and its end
pub escaped-more : (out new whole rest behind : List ℕ) (taken : ℕ) → new ≡ out ++ shown_first rest (first_char rest) → taken ≡ taken_first (first_char rest)
    → 0 < taken → 0 < length rest → behind ≡ drop taken rest → out ++ escaped rest ≡ whole → new ++ escaped behind ≡ whole
escaped-more out new whole rest behind taken shown is one some left before =
    let first = shown_first rest (first_char rest) in
    let step = escaped-step rest some (subst (λ (n : ℕ). 0 < n) is one) in
    ap₂ (λ (a b : List ℕ). a ++ escaped b) shown (left ∙ ap (λ (n : ℕ). drop n rest) is)
    ∙ append_assoc out first (escaped (drop (taken_first (first_char rest)) rest)) ∙ ap (λ (later : List ℕ). out ++ later) (sym step) ∙ before

pub escaped-none : (out whole rest : List ℕ) → length rest ≡ 0 → out ++ escaped rest ≡ whole → out ≡ whole
escaped-none out whole rest none before =
    sym (append-nil out) ∙ ap (λ (later : List ℕ). out ++ escaped later) (sym (nil_from_length rest none)) ∙ before
