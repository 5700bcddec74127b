-- Text in lower case hex.
use Rattle.std.proofs.Common.{◌≡◌, ℕ, zero, suc, ◌+◌, ◌*◌, ◌/◌, ◌%◌, ◌<◌, ◌==◌, nat_lt, if◌then◌else◌, inl, inr, Bool, true, false, not, ◌&&◌, ◌||◌, List, [], ◌∷◌, ◌++◌, slice_index, take, length, get_or, append_assoc, refl, sym, ap, ◌∙◌, arith}
use Rattle.std.proofs.lemmas.Bool.{and_parts, cases_Bool, cases_lt, eqb-true}
use Rattle.std.proofs.lemmas.Bool.Decides.{nat_tests}
use Rattle.std.proofs.lemmas.List.{take_more}
use Rattle.std.proofs.lemmas.List.Elements.{All-cons, All-head, All-nil, All-tail}
use Rattle.std.specs.List.{AllPass, fold}
use Rattle.hex.specs.Hex.{IsBytes, encode_lower, encode_with, lower_digits}
use Rattle.program_streams.specs.Digits.{is_lower_digit}

-- the fact of `AllPass is_lower_digit`
abbrev IsLower : ℕ → Type 0
IsLower c = is_lower_digit c ≡ true

-- ---- the digit of each value

-- the test of one value, which computes: it has one of the digits, whose value it is
abbrev is_written : ℕ → Bool
is_written v = is_lower_digit (slice_index lower_digits v) && (slice_index lower_digits v == (if nat_lt v 10 then 48 + v else 87 + v))

-- the test of the values below n
abbrev are_written : ℕ → Bool
are_written zero = true
are_written (suc n) = is_written n && are_written n

-- a value below n passed the test
are_written-at : (n k : ℕ) → are_written n ≡ true → k < n → is_written k ≡ true
are_written-at zero k h lt = absurd (omega arith)
are_written-at (suc n) k h lt =
    let parts = and_parts (is_written n) (are_written n) h in
    elim (cases_lt k n) [
      | inl below ↦ are_written-at n k parts.1 below
      | inr top ↦
          let e : k ≡ n = omega arith in
          rw e parts.0
    ]

-- a value's digit is in lower case
lower_digit-of : (v : ℕ) → v < 16 → IsLower (slice_index lower_digits v)
lower_digit-of v h = (and_parts (is_lower_digit (slice_index lower_digits v)) _ (are_written-at 16 v refl h)).0

-- ---- the value of each digit

-- the value of a digit, by its low four bits and bit 64
abbrev pub value_of : ℕ → ℕ
value_of c = (c % 16 + 9 * (c / 64)) % 16

-- the test of one digit, which computes: its value's digit is itself
abbrev is_spelled : ℕ → Bool
is_spelled c = not (is_lower_digit c) || (slice_index lower_digits (value_of c) == c)

-- the test of those below n
abbrev are_spelled : ℕ → Bool
are_spelled zero = true
are_spelled (suc n) = is_spelled n && are_spelled n

-- what is below n passed the test
are_spelled-at : (n k : ℕ) → are_spelled n ≡ true → k < n → is_spelled k ≡ true
are_spelled-at zero k h lt = absurd (omega arith)
are_spelled-at (suc n) k h lt =
    let parts = and_parts (is_spelled n) (are_spelled n) h in
    elim (cases_lt k n) [
      | inl below ↦ are_spelled-at n k parts.1 below
      | inr top ↦
          let e : k ≡ n = omega arith in
          rw e parts.0
    ]

-- a digit is below 103
digit-small : (c : ℕ) → is_lower_digit c ≡ true → c < 103
digit-small c h = grind (arith, nat_tests)

-- a digit is that of its value
pub digit-of_value : (c : ℕ) → is_lower_digit c ≡ true → slice_index lower_digits (value_of c) ≡ c
digit-of_value c h =
    let t : is_spelled c ≡ true = are_spelled-at 103 c refl (digit-small c h) in
    let e : (slice_index lower_digits (value_of c) == c) ≡ true = rw h at t in
    eqb-true (slice_index lower_digits (value_of c)) c e

-- the byte of two digits is written as these
pub pair-spelled : (a b : ℕ) → is_lower_digit a ≡ true → is_lower_digit b ≡ true
    → encode_lower ((value_of a * 16 + value_of b) ∷ []) ≡ a ∷ b ∷ []
unfolding encode_with
pair-spelled a b ha hb =
    let high : (value_of a * 16 + value_of b) / 16 ≡ value_of a = omega arith in
    let low : (value_of a * 16 + value_of b) % 16 ≡ value_of b = omega arith in
    rw (high, low, digit-of_value a ha, digit-of_value b hb) refl

-- one digit more
abbrev pub still_lower : Bool → ℕ → Bool
still_lower all c = all && is_lower_digit c

-- what failed once stays so
stays : (xs : List ℕ) → fold still_lower false xs ≡ false
stays [] = refl
stays (x ∷ xs) = stays xs

-- nothing failed where all pass
pub none_failed-AllPass : (xs : List ℕ) → fold still_lower true xs ≡ true → AllPass is_lower_digit xs
none_failed-AllPass [] h = All-nil (λ c. is_lower_digit c ≡ true)
none_failed-AllPass (x ∷ xs) h = elim (cases_Bool (is_lower_digit x)) [
  | inl e ↦
      let rest : fold still_lower true xs ≡ true = rw e at h in
      All-cons (λ c. is_lower_digit c ≡ true) x xs e (none_failed-AllPass xs rest)
  | inr e ↦
      let rest : fold still_lower false xs ≡ true = rw e at h in
      cc (rest, stays xs)
]

-- all pass, so that nothing fails
pub AllPass-none_failed : (xs : List ℕ) → AllPass is_lower_digit xs → fold still_lower true xs ≡ true
AllPass-none_failed [] h = refl
AllPass-none_failed (x ∷ xs) h =
    let e : is_lower_digit x ≡ true = All-head (λ c. is_lower_digit c ≡ true) x xs h in
    rw e (AllPass-none_failed xs (All-tail (λ c. is_lower_digit c ≡ true) x xs h))

-- what bytes behind bytes are written as
pub encode_with-append : (t xs ys : List ℕ) → encode_with t (xs ++ ys) ≡ encode_with t xs ++ encode_with t ys
unfolding encode_with
encode_with-append t [] ys = refl
encode_with-append t (x ∷ xs) ys = rw (encode_with-append t xs ys) refl

-- one pair of digits more
pub pair_more : (digits bytes pushed : List ℕ) (i b : ℕ) → 2 * i + 1 < length digits → encode_lower bytes ≡ take (2 * i) digits
    → pushed ≡ bytes ++ b ∷ []
    → encode_lower (b ∷ []) ≡ get_or digits (2 * i) 0 ∷ get_or digits (2 * i + 1) 0 ∷ []
    → encode_lower pushed ≡ take (2 * (i + 1)) digits
pair_more digits bytes pushed i b within so_far e pair =
    let one = take_more digits (2 * i) 0 (omega arith) in
    let two = take_more digits (2 * i + 1) 0 within in
    let at : 2 * (i + 1) ≡ 2 * i + 1 + 1 = omega arith in
    ap encode_lower e ∙ encode_with-append lower_digits bytes (b ∷ [])
    ∙ rw (so_far, pair, at, two, one) (sym (append_assoc (take (2 * i) digits) (get_or digits (2 * i) 0 ∷ []) (get_or digits (2 * i + 1) 0 ∷ [])))

-- one byte more
pub IsBytes-push : (bytes pushed : List ℕ) (b : ℕ) → pushed ≡ bytes ++ b ∷ [] → b < 256 → IsBytes bytes → IsBytes pushed
IsBytes-push bytes pushed b e fits h = rw e (pushed_fits bytes h)
  where
    pushed_fits : (xs : List ℕ) → IsBytes xs → IsBytes (xs ++ b ∷ [])
    pushed_fits [] h zero = fits
    pushed_fits [] h (suc i) = omega arith
    pushed_fits (x ∷ xs) h zero = h 0
    pushed_fits (x ∷ xs) h (suc i) = pushed_fits xs (λ k. h (suc k)) i

-- no bytes
pub IsBytes-none : (bytes : List ℕ) → bytes ≡ [] → IsBytes bytes
IsBytes-none bytes e = rw e (λ i. omega arith)

pub none_spelled : (bytes : List ℕ) → bytes ≡ [] → encode_lower bytes ≡ []
unfolding encode_with
none_spelled bytes e = rw e refl

-- bytes are written in lower case digits
pub AllPass-encode_lower : (bytes : List ℕ) → IsBytes bytes → AllPass is_lower_digit (encode_lower bytes)
unfolding encode_with
AllPass-encode_lower [] h = All-nil IsLower
AllPass-encode_lower (b ∷ rest) h =
    let fits : b < 256 = h 0 in
    All-cons IsLower (slice_index lower_digits (b / 16)) (slice_index lower_digits (b % 16) ∷ encode_lower rest) (lower_digit-of (b / 16) (omega arith))
    (All-cons IsLower (slice_index lower_digits (b % 16)) (encode_lower rest) (lower_digit-of (b % 16) (omega arith)) (AllPass-encode_lower rest (λ k. h (suc k))))
