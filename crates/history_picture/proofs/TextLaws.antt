-- What stands for bytes is text.
use Rattle.std.proofs.Common.{◌≡◌, inl, inr, ⊎_elim, ℕ, zero, suc, ◌+◌, ◌-◌, ◌/◌, ◌%◌, ◌<◌, ◌≤◌, Bool, true, false, cond, nat_lt, List, [], ◌∷◌, ◌++◌, slice_index, Option, Some, None, refl, sym, ap, subst, ◌∙◌, arith, lt-ltb, le-ltb}
use Rattle.std.specs.Prelude.{◌==◌, ◌||◌}
use Rattle.std.proofs.lemmas.Bool.{cases_Bool, cases_lt, cond-true, cond-false, or_parts}
use Rattle.std.proofs.lemmas.Bool.Decides.{nat_tests}
use Rattle.std.specs.Char.{encode_utf8}
use Rattle.std.specs.List.{AllByRecursion}
use Rattle.history_picture.specs.Escaping.{is_markup, is_control, is_noncharacter, is_unseen, is_hidden, MayStand, IsTextPart, IsText, hex_digit, four_digits, byte_escape, char_escape, shown_char, first_char, shown_first, taken_first, escaped_behind, escaped}

-- ---- escapes

digit_stands : (d : ℕ) → d < 16 → MayStand (hex_digit d)
digit_stands d low = ⊎_elim
    (λ few. subst MayStand (sym (cond-true (nat_lt d 10) (0x30 + d) (0x57 + d) (lt-ltb d 10 few))) (grind (arith, nat_tests)))
    (λ more. subst MayStand (sym (cond-false (nat_lt d 10) (0x30 + d) (0x57 + d) (le-ltb d 10 more))) (grind (arith, nat_tests)))
    (cases_lt d 10)

rest_below : (n : ℕ) → n % 16 < 16
rest_below n = omega arith

digits_stand : (n : ℕ) → AllByRecursion MayStand (four_digits n)
digits_stand n = (
  digit_stands (n / 0x1000 % 16) (rest_below (n / 0x1000)),
  (
    digit_stands (n / 0x100 % 16) (rest_below (n / 0x100)),
    (
      digit_stands (n / 16 % 16) (rest_below (n / 16)),
      (digit_stands (n % 16) (rest_below n), tt),
    ),
  ),
)

both_stand : (xs ys : List ℕ) → AllByRecursion MayStand xs → AllByRecursion MayStand ys → AllByRecursion MayStand (xs ++ ys)
both_stand [] ys front behind = behind
both_stand (x ∷ xs) ys front behind = (front.0, both_stand xs ys front.1 behind)

byte_escape_stands : (b : ℕ) → AllByRecursion MayStand (byte_escape b)
byte_escape_stands b =
    (refl, (refl, (digit_stands (b / 16 % 16) (rest_below (b / 16)), (digit_stands (b % 16) (rest_below b), tt))))

char_escape_stands : (c : ℕ) → AllByRecursion MayStand (char_escape c)
char_escape_stands c =
    let short = 0x5C ∷ 0x75 ∷ four_digits c in
    let long = 0x5C ∷ 0x55 ∷ (four_digits (c / 0x10000) ++ four_digits (c % 0x10000)) in
    let short_stands : AllByRecursion MayStand short = (refl, (refl, digits_stand c)) in
    let long_stands : AllByRecursion MayStand long =
    (refl, (refl, both_stand (four_digits (c / 0x10000)) (four_digits (c % 0x10000)) (digits_stand (c / 0x10000)) (digits_stand (c % 0x10000)))) in
    ⊎_elim
    (λ one. subst (AllByRecursion MayStand) (sym (cond-true _ _ _ one)) (byte_escape_stands c))
    (λ more. ⊎_elim
    (λ few. subst (AllByRecursion MayStand) (sym (cond-false _ _ _ more ∙ cond-true _ _ _ few)) short_stands)
    (λ many. subst (AllByRecursion MayStand) (sym (cond-false _ _ _ more ∙ cond-false _ _ _ many)) long_stands)
    (cases_Bool (nat_lt c 0x10000)))
    (cases_Bool (nat_lt c 0x80))

-- ---- characters

high_stands : (b : ℕ) → 0x80 ≤ b → MayStand b
high_stands b high = grind (arith, nat_tests)

no_control : (c : ℕ) → is_hidden c ≡ false → is_control c ≡ false
no_control c seen =
    let front = or_parts (is_control c || is_noncharacter c) (is_unseen c) seen in
    let parts = or_parts (is_control c) (is_noncharacter c) front.0 in parts.0

low_stands : (c : ℕ) → c < 128 → is_markup c ≡ false → is_control c ≡ false → MayStand c
low_stands c low unmarked uncontrolled = grind (arith, nat_tests)

either_stands : (b : Bool) (xs ys : List ℕ) → (b ≡ true → AllByRecursion MayStand xs) → (b ≡ false → AllByRecursion MayStand ys)
    → AllByRecursion MayStand (cond b xs ys)
either_stands true xs ys front behind = front refl
either_stands false xs ys front behind = behind refl

-- a character that means nothing and isn't hidden has bytes that stand for themselves
plain_stands : (c : ℕ) → is_markup c ≡ false → is_hidden c ≡ false → AllByRecursion MayStand (encode_utf8 c)
unfolding encode_utf8
plain_stands c unmarked seen =
    either_stands (nat_lt c 128) (c ∷ [])
    (cond (nat_lt c 2048) ((192 + c / 64) ∷ (128 + c % 64) ∷ [])
    (cond (nat_lt c 65536) ((224 + c / 4096) ∷ (128 + c / 64 % 64) ∷ (128 + c % 64) ∷ [])
    ((240 + c / 262144) ∷ (128 + c / 4096 % 64) ∷ (128 + c / 64 % 64) ∷ (128 + c % 64) ∷ [])))
    (λ one. let low : c < 128 = grind (arith, nat_tests) in (low_stands c low unmarked (no_control c seen), tt))
    (λ more. either_stands (nat_lt c 2048) ((192 + c / 64) ∷ (128 + c % 64) ∷ [])
    (cond (nat_lt c 65536) ((224 + c / 4096) ∷ (128 + c / 64 % 64) ∷ (128 + c % 64) ∷ [])
    ((240 + c / 262144) ∷ (128 + c / 4096 % 64) ∷ (128 + c / 64 % 64) ∷ (128 + c % 64) ∷ []))
    (λ two. (high_stands (192 + c / 64) (omega arith), (high_stands (128 + c % 64) (omega arith), tt)))
    (λ more2. either_stands (nat_lt c 65536) ((224 + c / 4096) ∷ (128 + c / 64 % 64) ∷ (128 + c % 64) ∷ [])
    ((240 + c / 262144) ∷ (128 + c / 4096 % 64) ∷ (128 + c / 64 % 64) ∷ (128 + c % 64) ∷ [])
    (λ three. (high_stands (224 + c / 4096) (omega arith), (high_stands (128 + c / 64 % 64) (omega arith), (high_stands (128 + c % 64) (omega arith), tt))))
    (λ four. (high_stands (240 + c / 262144) (omega arith), (high_stands (128 + c / 4096 % 64) (omega arith), (high_stands (128 + c / 64 % 64) (omega arith), (high_stands (128 + c % 64) (omega arith), tt)))))))

unmarked : (c : ℕ) → c == 0x26 ≡ false → c == 0x3C ≡ false → c == 0x3E ≡ false → c == 0x22 ≡ false → c == 0x27 ≡ false → is_markup c ≡ false
unmarked c a b d e f = grind (arith, nat_tests)

shown_char_is_text : (c : ℕ) → IsTextPart (shown_char c)
shown_char_is_text c = ⊎_elim
    (λ is. inr (inl (cond-true _ _ _ is)))
    (λ no1. ⊎_elim
    (λ is. inr (inr (inl (cond-false _ _ _ no1 ∙ cond-true _ _ _ is))))
    (λ no2. ⊎_elim
    (λ is. inr (inr (inr (inl (cond-false _ _ _ no1 ∙ cond-false _ _ _ no2 ∙ cond-true _ _ _ is)))))
    (λ no3. ⊎_elim
    (λ is. inr (inr (inr (inr (inl (cond-false _ _ _ no1 ∙ cond-false _ _ _ no2 ∙ cond-false _ _ _ no3 ∙ cond-true _ _ _ is))))))
    (λ no4. ⊎_elim
    (λ is. inr (inr (inr (inr (inr (cond-false _ _ _ no1 ∙ cond-false _ _ _ no2 ∙ cond-false _ _ _ no3 ∙ cond-false _ _ _ no4 ∙ cond-true _ _ _ is))))))
    (λ no5.
    let none = cond-false _ _ _ no1 ∙ cond-false _ _ _ no2 ∙ cond-false _ _ _ no3 ∙ cond-false _ _ _ no4 ∙ cond-false _ _ _ no5 in
    ⊎_elim
    (λ hidden. inl (subst (AllByRecursion MayStand) (sym (none ∙ cond-true _ _ _ hidden)) (char_escape_stands c)))
    (λ seen. inl (subst (AllByRecursion MayStand) (sym (none ∙ cond-false _ _ _ seen)) (plain_stands c (unmarked c no1 no2 no3 no4 no5) seen)))
    (cases_Bool (is_hidden c)))
    (cases_Bool (c == 0x27)))
    (cases_Bool (c == 0x22)))
    (cases_Bool (c == 0x3E)))
    (cases_Bool (c == 0x3C)))
    (cases_Bool (c == 0x26))

shown_first_is_text : (bytes : List ℕ) (found : Option (ℕ × ℕ)) → IsTextPart (shown_first bytes found)
shown_first_is_text bytes None = inl (byte_escape_stands (slice_index bytes 0))
shown_first_is_text bytes (Some found) = shown_char_is_text found.0

-- ---- all bytes

behind_is_text : (n : ℕ) (bytes : List ℕ) → IsText (escaped_behind n bytes)
behind_is_text n [] = record { parts = []; each = tt; whole = refl }
behind_is_text (suc n) (b ∷ bytes) = behind_is_text n bytes
behind_is_text zero (b ∷ bytes) =
    let first = shown_first (b ∷ bytes) (first_char (b ∷ bytes)) in
    let later = behind_is_text (taken_first (first_char (b ∷ bytes)) - 1) bytes in record {
      parts = first ∷ later.parts;
      each = (shown_first_is_text (b ∷ bytes) (first_char (b ∷ bytes)), later.each);
      whole = ap (λ (text : List ℕ). first ++ text) later.whole;
    }

pub escaped_is_text : (bytes : List ℕ) → IsText (escaped bytes)
escaped_is_text bytes = behind_is_text 0 bytes
