-- bytes compared as numbers of eight
use Rattle.std.proofs.Common.{◌≡◌, ℕ, zero, suc, ◌+◌, ◌*◌, ◌<◌, ◌≤◌, List, [], ◌∷◌, length, take, drop, refl, sym, ap, subst, ◌∙◌, arith}
use Rattle.std.proofs.Math.ListN.{drop_of_length-le}
use Rattle.std.proofs.lemmas.List.{get_or-drop, length-drop, drop-drop}
use Rattle.std.specs.Prelude.{slice_index, ◌≢◌}
use Rattle.std.specs.declared.cmp.Ordering.{Ordering}
use Rattle.std.specs.declared.cmp.Ordering.TheVariants.{Less, Equal, Greater}
use Rattle.std.specs.Ordering.{nat_cmp, ordering_then, MatchOrdering}
use Rattle.std.specs.Cmp.{ranks, nat_cmp_is}
use Rattle.std.specs.Cmp.Lexicographic.{slice_cmp}
use Rattle.std.specs.Slice.Scan.{big_endian}

abbrev pub Small : List ℕ → Type 0
Small xs = (k : ℕ) → slice_index xs k < 256

pub below : (x y : ℕ) → x < y → nat_cmp x y ≡ Less
below x y l = sym (nat_cmp_is x y Less l)

pub above : (x y : ℕ) → y < x → nat_cmp x y ≡ Greater
above x y l = sym (nat_cmp_is x y Greater l)

-- what is above in front stays above
rises : (n a b : ℕ) (us vs : List ℕ) → n ≤ length us → n ≤ length vs → Small us → a < b → big_endian a (take n us) < big_endian b (take n vs)
rises zero a b us vs p q small l = l
rises (suc n) a b [] vs p q small l = absurd (omega arith)
rises (suc n) a b (u ∷ us) [] p q small l = absurd (omega arith)
rises (suc n) a b (u ∷ us) (v ∷ vs) p q small l =
    let one : u < 256 = small 0 in
    rises n (a * 256 + u) (b * 256 + v) us vs (omega arith) (omega arith) (λ k. small (suc k)) (omega arith)

-- the numbers of so many bytes lie as the bytes
pub as_number : (n a : ℕ) (us vs : List ℕ) → n ≤ length us → n ≤ length vs → Small us → Small vs → nat_cmp (big_endian a (take n us)) (big_endian a (take n vs)) ≡ slice_cmp nat_cmp (take n us) (take n vs)
as_number zero a us vs p q g h = sym (nat_cmp_is a a Equal refl)
as_number (suc n) a [] vs p q g h = absurd (omega arith)
as_number (suc n) a (u ∷ us) [] p q g h = absurd (omega arith)
as_number (suc n) a (u ∷ us) (v ∷ vs) p q g h =
    go (as_number n (a * 256 + u) us vs (omega arith) (omega arith) (λ k. g (suc k)) (λ k. h (suc k))) (nat_cmp u v) refl (ranks u v) where
      go : nat_cmp (big_endian (a * 256 + u) (take n us)) (big_endian (a * 256 + u) (take n vs)) ≡ slice_cmp nat_cmp (take n us) (take n vs)
          → (o : Ordering) → nat_cmp u v ≡ o → MatchOrdering o (u < v) (u ≡ v) (v < u)
          → nat_cmp (big_endian (a * 256 + u) (take n us)) (big_endian (a * 256 + v) (take n vs)) ≡ ordering_then (nat_cmp u v) (slice_cmp nat_cmp (take n us) (take n vs))
      go rest Less e l =
          let under : u < v = l in
          below _ _ (rises n (a * 256 + u) (a * 256 + v) us vs (omega arith) (omega arith) (λ k. g (suc k)) (omega arith)) ∙ sym (ap (λ o. ordering_then o (slice_cmp nat_cmp (take n us) (take n vs))) e)
      go rest Greater e l =
          let over : v < u = l in
          above _ _ (rises n (a * 256 + v) (a * 256 + u) vs us (omega arith) (omega arith) (λ k. h (suc k)) (omega arith)) ∙ sym (ap (λ o. ordering_then o (slice_cmp nat_cmp (take n us) (take n vs))) e)
      go rest Equal e l =
          let level : u ≡ v = l in
          ap (λ z. nat_cmp (big_endian (a * 256 + u) (take n us)) (big_endian (a * 256 + z) (take n vs))) (sym level) ∙ rest ∙ sym (ap (λ o. ordering_then o (slice_cmp nat_cmp (take n us) (take n vs))) e)

then_assoc : (o p q : Ordering) → ordering_then o (ordering_then p q) ≡ ordering_then (ordering_then o p) q
then_assoc Less p q = refl
then_assoc Equal p q = refl
then_assoc Greater p q = refl

-- first the fronts of so many, then what is behind
pub in_turn : (n : ℕ) (us vs : List ℕ) → n ≤ length us → n ≤ length vs → slice_cmp nat_cmp us vs ≡ ordering_then (slice_cmp nat_cmp (take n us) (take n vs)) (slice_cmp nat_cmp (drop n us) (drop n vs))
in_turn zero us vs p q = refl
in_turn (suc n) [] vs p q = absurd (omega arith)
in_turn (suc n) (u ∷ us) [] p q = absurd (omega arith)
in_turn (suc n) (u ∷ us) (v ∷ vs) p q = ap (ordering_then (nat_cmp u v)) (in_turn n us vs (omega arith) (omega arith)) ∙ then_assoc (nat_cmp u v) _ _

pub same : (x y : ℕ) → x ≡ y → nat_cmp x y ≡ Equal
same x y e = sym (nat_cmp_is x y Equal e)

decided : (x y : ℕ) (p : Ordering) → (x ≢ y) → ordering_then (nat_cmp x y) p ≡ nat_cmp x y
decided x y p other = go (nat_cmp x y) (ranks x y) where
  go : (o : Ordering) → MatchOrdering o (x < y) (x ≡ y) (y < x) → ordering_then o p ≡ o
  go Less l = refl
  go Equal e = absurd (other e)
  go Greater l = refl

then_equal : (o : Ordering) → ordering_then o Equal ≡ o
then_equal Less = refl
then_equal Equal = refl
then_equal Greater = refl

-- 24 bytes, and the numbers of the eight from a place on
module _ (us vs : List ℕ) (p : length us ≡ 24) (q : length vs ≡ 24) (g : Small us) (h : Small vs) (i x y : ℕ) (room : i ≤ 16)
    (a : x ≡ big_endian 0 (take 8 (drop i us))) (b : y ≡ big_endian 0 (take 8 (drop i vs))) where
  long : (xs : List ℕ) → length xs ≡ 24 → 8 ≤ length (drop i xs)
  long xs e = omega (arith, length-drop i xs, e, room)

  small : (xs : List ℕ) → Small xs → Small (drop i xs)
  small xs s k = subst (λ z. z < 256) (sym (get_or-drop i xs k 0)) (s (i + k))

  numbers : nat_cmp x y ≡ slice_cmp nat_cmp (take 8 (drop i us)) (take 8 (drop i vs))
  numbers = (λ j. nat_cmp (a j) (b j)) ∙ as_number 8 0 (drop i us) (drop i vs) (long us p) (long vs q) (small us g) (small vs h)

  behind : ordering_then (nat_cmp x y) (slice_cmp nat_cmp (drop (i + 8) us) (drop (i + 8) vs)) ≡ slice_cmp nat_cmp (drop i us) (drop i vs)
  behind =
      (λ j. ordering_then (numbers j) (slice_cmp nat_cmp (sym (drop-drop 8 i us) j) (sym (drop-drop 8 i vs) j)))
      ∙ sym (in_turn 8 (drop i us) (drop i vs) (long us p) (long vs q))

  -- numbers that differ decide
  pub apart : (x ≢ y) → nat_cmp x y ≡ slice_cmp nat_cmp (drop i us) (drop i vs)
  apart other = sym (decided x y _ other) ∙ behind

  -- behind numbers that are alike, what follows decides
  pub alike : x ≡ y → slice_cmp nat_cmp (drop (i + 8) us) (drop (i + 8) vs) ≡ slice_cmp nat_cmp (drop i us) (drop i vs)
  alike e = ap (λ o. ordering_then o (slice_cmp nat_cmp (drop (i + 8) us) (drop (i + 8) vs))) (sym (same x y e)) ∙ behind

  -- the last numbers decide in any case
  pub last : 16 ≤ i → nat_cmp x y ≡ slice_cmp nat_cmp (drop i us) (drop i vs)
  last e =
      sym (then_equal (nat_cmp x y))
      ∙ ap (ordering_then (nat_cmp x y)) (λ j. slice_cmp nat_cmp (sym (drop_of_length-le us {i = i + 8} (omega (arith, p, e))) j) (sym (drop_of_length-le vs {i = i + 8} (omega (arith, q, e))) j))
      ∙ behind
