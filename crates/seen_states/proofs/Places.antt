-- The order of a fingerprint goes through all words, each once; and how often a number stands in words of which one changes.
use Rattle.std.proofs.Common.{◌≡◌, ◌≢◌, ℕ, suc, ◌+◌, ◌-◌, ◌*◌, ◌/◌, ◌%◌, ◌<◌, ◌==◌, List, [], ◌∷◌, ◌++◌, length, set, get_or, cond, refl, sym, ap, ◌∙◌, arith}
use Rattle.std.proofs.Math.Nat.{add-mod-mod, mod-add-mod, mod_self, add-mod_right, add-mul-mod_self_left, mod-add-div, mod-lt, mod-eq_of_lt}
use mathlib.Core.Logic.{dite}
use native.Mathlib.Decide.{dec_le}
use Rattle.std.proofs.lemmas.Bool.Decides.{nat_tests}
use Rattle.std.proofs.lemmas.List.Sums.{sum_by-set, sum_by-cons, sum_by-append, sum_by_push, get_or-le-sum_by}
use Rattle.atomic_table.proofs.Lists.{one_turn}
use Rattle.seen_states.specs.Seen.{word_at, times}

pub word_at-lt : (n fingerprint k : ℕ) → 0 < n → word_at n fingerprint k < n
word_at-lt n fingerprint k some = mod-lt (fingerprint + k) some

-- each word stands at some place of the order
pub word_at_onto : (n fingerprint i : ℕ) → i < n → (k : ℕ) × (k < n) × (word_at n fingerprint k ≡ i)
word_at_onto n fingerprint i inside =
    let some : 0 < n = omega arith in
    let far = i + (n - fingerprint % n) in
    let below : fingerprint % n < n = mod-lt fingerprint some in
    let whole = mod-add-div fingerprint n in
    let sum : fingerprint + far ≡ (i + n) + n * (fingerprint / n) = omega arith in (
      far % n,
      mod-lt far some,
      add-mod-mod fingerprint far n ∙ ap (λ m. m % n) sum ∙ add-mul-mod_self_left (i + n) n (fingerprint / n) ∙ add-mod_right i n ∙ mod-eq_of_lt inside,
    )

-- and at one alone
pub word_at_once : (n fingerprint j k : ℕ) → j < n → k < n → word_at n fingerprint j ≡ word_at n fingerprint k → j ≡ k
word_at_once n fingerprint j k low high same =
    dite (dec_le j k)
    (λ le. let e = one_turn (fingerprint + j) (fingerprint + k) n (omega arith) (omega arith) same in omega arith)
    (λ above. let e = one_turn (fingerprint + k) (fingerprint + j) n (omega arith) (omega arith) (sym same) in omega arith)

-- the place behind
pub word_at-next : (n fingerprint k : ℕ) → word_at n fingerprint k + 1 < n → word_at n fingerprint k + 1 ≡ word_at n fingerprint (k + 1)
word_at-next n fingerprint k inside =
    let sum : (fingerprint + k) + 1 ≡ fingerprint + (k + 1) = omega arith in
    sym (mod-eq_of_lt inside) ∙ mod-add-mod (fingerprint + k) n 1 ∙ ap (λ m. m % n) sum

pub word_at-round : (n fingerprint k : ℕ) → word_at n fingerprint k + 1 ≡ n → 0 ≡ word_at n fingerprint (k + 1)
word_at-round n fingerprint k last =
    let sum : (fingerprint + k) + 1 ≡ fingerprint + (k + 1) = omega arith in
    sym (mod_self n) ∙ ap (λ m. m % n) (sym last) ∙ mod-add-mod (fingerprint + k) n 1 ∙ ap (λ m. m % n) sum

-- a word that changes
pub times-set : (x i y : ℕ) (words : List ℕ) → i < length words → times x (set words i y) + cond (get_or words i 0 == x) 1 0 ≡ times x words + cond (y == x) 1 0
times-set x i y words inside = sum_by-set (λ z. cond (z == x) 1 0) words i y 0 inside

pub times-append : (x : ℕ) (xs ys : List ℕ) → times x (xs ++ ys) ≡ times x xs + times x ys
times-append x xs ys = sum_by-append (λ z. cond (z == x) 1 0) xs ys

pub times-last : (x y : ℕ) (xs : List ℕ) → times x (xs ++ y ∷ []) ≡ times x xs + cond (y == x) 1 0
times-last x y xs = sum_by_push (λ z. cond (z == x) 1 0) xs y

-- what stands in a list is counted
pub times-at : (x i : ℕ) (xs : List ℕ) → i < length xs → get_or xs i 0 ≡ x → 0 < times x xs
times-at x i xs inside same = let one = get_or-le-sum_by (λ z. cond (z == x) 1 0) xs i 0 inside in grind (arith, nat_tests)

-- what doesn't isn't
pub times-nowhere : (x : ℕ) (xs : List ℕ) → ((i : ℕ) → i < length xs → get_or xs i 0 ≢ x) → times x xs ≡ 0
times-nowhere x [] none = refl
times-nowhere x (y ∷ ys) none =
    let rest = times-nowhere x ys (λ i inside. none (suc i) (omega arith)) in
    let first : y ≢ x = none 0 (omega arith) in
    let sums = sum_by-cons (λ z. cond (z == x) 1 0) y ys in
    grind (arith, nat_tests)
