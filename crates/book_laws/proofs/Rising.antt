-- the objects of a book rise, and so do their handles
use Rattle.std.specs.List.{range_with_len}
use Rattle.std.proofs.Common.{◌≡◌, ◌≢◌, ◌⊎◌, inl, inr, ℕ, zero, suc, ◌+◌, ◌*◌, ◌/◌, ◌<◌, ◌≤◌, ◌^◌, Bool, true, false, cond, List, [], ◌∷◌, length, map, refl, sym, ap, ◌∙◌, subst, arith, append-nil, eq-eqb}
use Rattle.std.specs.Prelude.{◌==◌, nat_lt, if◌then◌else◌, is_some}
use Rattle.std.specs.List.{AllByRecursion}
use Rattle.std.specs.Ordering.{nat_cmp, ordering_then}
use Rattle.std.specs.declared.cmp.Ordering.{Ordering}
use Rattle.std.specs.declared.cmp.Ordering.TheVariants.{Less, Equal, Greater}
use Rattle.std.specs.Cmp.Lexicographic.{slice_cmp}
use Rattle.std.specs.Int.{byte_at, bytes_high_first}
use Rattle.std.proofs.lemmas.Bool.{cases_lt, lt-ltb, ltb-true}
use Rattle.std.proofs.Math.Nat.{add-mul, mul-le-mul_right, mod-lt}
use Rattle.byteorder.specs.Endian.{big_from}
use Rattle.byteorder.specs.Numbers.{big_from-cons, big_from-lt, big_number-reads_back, length-bytes_high_first}
use Rattle.hex.specs.Hex.{IsBytes}
use Rattle.xdr_records.specs.Texts.{long_text}
use Rattle.certificate.specs.CertificateText.{AreRising, HasHandle, AreEras}
use Rattle.nfs_history.specs.declared.recorded.RecordedCall.{RecordedCall}
use Rattle.tree_nodes.specs.Tree.{entry_of}
use Rattle.book_laws.specs.Placing.{Placed}
use Rattle.book_laws.specs.Book.{Book, handle_of, object_in}
use Rattle.book_laws.specs.Plan.{bind_of}
use Rattle.book_laws.specs.Steps.{with_object, Steps}
use Rattle.book_laws.specs.Steps.Steps.{begins, places, flushes, answers, closes, crashes, refuses}
use Rattle.book_laws.proofs.Invariant.{Over, IsInvariant}
use Rattle.book_laws.proofs.Lists.{all_each}
use Rattle.book_laws.proofs.Moving.{all_with_object}
use Rattle.book_laws.proofs.Shaped.{plans}
use Rattle.book_laws.specs.Writing.{CanBeWritten, EveryCertificateCanBeWritten}
use Rattle.book_laws.proofs.Walks.{from_opening}
use Rattle.book_laws.proofs.Newcomer.{others}
use Rattle.book_laws.proofs.Starting.{all_numbers}

-- ---- numbers that rise

abbrev pub AreUp : List ℕ → Type 0
AreUp [] = Unit {0}
AreUp (first ∷ made) = AllByRecursion (λ other. first < other) made × AreUp made

up_with : (n : ℕ) (made : List ℕ) → AllByRecursion (λ other. other ≢ n) made → AreUp made → AreUp (with_object n made)
up_with n [] apart up = (tt, tt)
up_with n (first ∷ made) apart up = go (nat_lt n first) refl (up_with n made apart.1 up.1) where
  chain : {a b : ℕ} → n < a → a < b → n < b
  chain f g = omega (arith, f, g)

  last : (nat_lt n first ≡ true → ⊥) → first < n
  last isnt = elim (cases_lt n first) [ inl lt ↦ absurd (isnt (lt-ltb n first lt)) | inr le ↦ omega (arith, le, apart.0) ]

  go : (b : Bool) → nat_lt n first ≡ b → AreUp (with_object n made) → AreUp (if b then n ∷ first ∷ made else first ∷ with_object n made)
  go true is rest =
      let lt : n < first = ltb-true n first is in
      ((lt, all_each (λ other. first < other) (λ other. n < other) made (λ other more. chain lt more) up.0), up)
  go false is rest = (all_with_object (λ other. first < other) n made (last (λ e. clash (nat_lt n first) e is)) up.0, rest) where
    clash : (b : Bool) → b ≡ true → b ≡ false → ⊥
    clash true e f = absurd (cc)
    clash false e f = absurd (cc)

-- ---- their bytes

less_is : (a b : ℕ) (o : Ordering) → a < b → ordering_then (nat_cmp a b) o ≡ Less
less_is a b o lt = ap (λ t. ordering_then (cond t Less (cond (a == b) Equal Greater)) o) (lt-ltb a b lt)

equal_is : (a b : ℕ) (o : Ordering) → a ≡ b → ordering_then (nat_cmp a b) o ≡ o
equal_is a b o same = go (nat_lt a b) refl where
  clash : a < b → ⊥
  clash lt = omega (arith, lt, same)

  go : (t : Bool) → nat_lt a b ≡ t → ordering_then (cond t Less (cond (a == b) Equal Greater)) o ≡ o
  go true is = absurd (clash (ltb-true a b is))
  go false is = ap (λ t. ordering_then (cond t Equal Greater) o) (eq-eqb a b same)

bytes_less : (n : ℕ) (xs ys : List ℕ) → length xs ≡ n → length ys ≡ n → IsBytes ys → big_from 0 n xs < big_from 0 n ys → slice_cmp nat_cmp xs ys ≡ Less
bytes_less zero xs ys so_many as_many small lt = absurd (omega (arith, lt))
bytes_less (suc n) [] ys so_many as_many small lt = absurd (omega arith)
bytes_less (suc n) (a ∷ xs) [] so_many as_many small lt = absurd (omega arith)
bytes_less (suc n) (a ∷ xs) (b ∷ ys) so_many as_many small lt =
    go (cases_lt a b) (cases_lt b a) (bytes_less n xs ys (omega (arith, so_many)) (omega (arith, as_many)) (λ i. small (suc i))) where
      r : ℕ
      r = big_from 0 n xs

      s : ℕ
      s = big_from 0 n ys

      parts : a * 256 ^ n + big_from 0 n xs < b * 256 ^ n + big_from 0 n ys
      parts = subst (λ (z : ℕ). a * 256 ^ n + z < b * 256 ^ n + big_from 0 n ys) (big_from-cons 0 n a xs)
          (subst (λ (z : ℕ). a * 256 ^ n + big_from 1 n (a ∷ xs) < b * 256 ^ n + z) (big_from-cons 0 n b ys) lt)

      below : big_from 0 n ys < 256 ^ n
      below = big_from-lt 0 n ys (λ i. small (suc i))

      past : (x y p q z : ℕ) → x + p < y + q → q < z → y + 1 * z ≤ x → ⊥
      past x y p q z f g h = omega (arith, f, g, h)

      clash : b < a → ⊥
      clash gt =
          let more : (b + 1) * 256 ^ n ≤ a * 256 ^ n = mul-le-mul_right (256 ^ n) (omega (arith, gt)) in
          past (a * 256 ^ n) (b * 256 ^ n) (big_from 0 n xs) (big_from 0 n ys) (256 ^ n) parts below (subst (λ (z : ℕ). z ≤ a * 256 ^ n) (add-mul b 1 (256 ^ n)) more)

      rest : (x y p q : ℕ) → x ≡ y → x + p < y + q → p < q
      rest x y p q f g = omega (arith, f, g)

      go : (a < b) ⊎ (b ≤ a) → (b < a) ⊎ (a ≤ b) → (big_from 0 n xs < big_from 0 n ys → slice_cmp nat_cmp xs ys ≡ Less) → ordering_then (nat_cmp a b) (slice_cmp nat_cmp xs ys) ≡ Less
      go (inl less) other later = less_is a b (slice_cmp nat_cmp xs ys) less
      go (inr le) (inl gt) later = absurd (clash gt)
      go (inr le) (inr ge) later =
          let same : a ≡ b = omega (arith, le, ge) in
          equal_is a b (slice_cmp nat_cmp xs ys) same ∙ later (rest (a * 256 ^ n) (b * 256 ^ n) (big_from 0 n xs) (big_from 0 n ys) (ap (λ m. m * 256 ^ n) same) parts)

byte_small : (k x : ℕ) → byte_at k x < 256
byte_small zero x = mod-lt x (omega arith)
byte_small (suc k) x = mod-lt (x / 256 ^ suc k) (omega arith)

are_bytes : (n x : ℕ) → IsBytes (bytes_high_first n x)
are_bytes zero x i = omega arith
are_bytes (suc n) x zero = byte_small n x
are_bytes (suc n) x (suc i) = are_bytes n x i

number_in : (n x : ℕ) → x < 256 ^ n → big_from 0 n (bytes_high_first n x) ≡ x
number_in n x lt = ap (λ (xs : List ℕ). big_from 0 n xs) (sym (append-nil (bytes_high_first n x))) ∙ big_number-reads_back n x [] lt

number_less : (n a b : ℕ) → a < b → b < 256 ^ n → slice_cmp nat_cmp (bytes_high_first n a) (bytes_high_first n b) ≡ Less
number_less n a b lt within =
    bytes_less n (bytes_high_first n a) (bytes_high_first n b) (length-bytes_high_first n a) (length-bytes_high_first n b) (are_bytes n b)
    (both (big_from 0 n (bytes_high_first n a)) (big_from 0 n (bytes_high_first n b)) (number_in n a (chain a b (256 ^ n) lt within)) (number_in n b within)) where
      chain : (x y z : ℕ) → x < y → y < z → x < z
      chain x y z f g = omega (arith, f, g)

      both : (x y : ℕ) → x ≡ a → y ≡ b → x < y
      both x y f g = omega (arith, f, g, lt)

handle_less : (a b : ℕ) → a < b → b < 2 ^ 64 → slice_cmp nat_cmp (handle_of a) (handle_of b) ≡ Less
unfolding long_text
handle_less a b lt within = number_less 8 a b lt (omega (arith, within))

has_handle : (object : ℕ) → object < 2 ^ 64 → HasHandle (bind_of object)
unfolding long_text
has_handle object lt =
    let eight = length-bytes_high_first 8 object in
    (some (length (bytes_high_first 8 object)) eight, few (length (bytes_high_first 8 object)) eight, are_bytes 8 object, lt) where
      some : (n : ℕ) → n ≡ 8 → 0 < n
      some n e = omega (arith, e)

      few : (n : ℕ) → n ≡ 8 → n ≤ 64
      few n e = omega (arith, e)

-- ---- the certificate

rising : (made : List ℕ) → AreUp made → AllByRecursion (λ object. object < 2 ^ 64) made → AreRising (map bind_of made)
rising [] up small = tt
rising (a ∷ []) up small = tt
rising (a ∷ b ∷ made) up small = (handle_less a b up.0.0 small.1.0, rising (b ∷ made) up.1 small.1)

have_handles : (made : List ℕ) → AllByRecursion (λ object. object < 2 ^ 64) made → AllByRecursion HasHandle (map bind_of made)
have_handles [] small = tt
have_handles (object ∷ made) small = (has_handle object small.0, have_handles made small.1)

are_eras : (calls : List RecordedCall) (over : List Over) (placed : List Placed) → AreEras (plans calls over placed)
are_eras calls [] placed = refl
are_eras calls (era ∷ []) placed = ((_, refl), refl)
are_eras calls (era ∷ next ∷ over) placed = ((_, refl), are_eras calls (next ∷ over) placed)

written_so : (book : Book) → IsInvariant book → AreUp book.made → CanBeWritten book
written_so book i up =
    let small = all_each _ (λ object. object < 2 ^ 64) book.made (λ object has. has.1) i.made in
    record { rising = rising book.made up small; handles = have_handles book.made small; eras = are_eras book.history.known.calls book.over book.placed }

up_on : (book new : Book) → IsInvariant book → AreUp book.made → Steps book new → AreUp new.made
up_on book new i up (begins lane message b) = subst (λ (x : Book). AreUp x.made) (sym b.done) up
up_on book new i up (places number reply p) = subst (λ (x : Book). AreUp x.made) (sym p.done) (go (is_some (entry_of p.after (object_in book number)))) where
  go : (b : Bool) → AreUp (if b then with_object (object_in book number) book.made else book.made)
  go true = up_with (object_in book number) book.made (all_each _ (λ other. other ≢ object_in book number) book.made (λ other has. has.0) (others book i number reply new p)) up
  go false = up
up_on book new i up (flushes f) = subst (λ (x : Book). AreUp x.made) (sym f.done) up
up_on book new i up (answers number a) = subst (λ (x : Book). AreUp x.made) (sym a.done) up
up_on book new i up (closes lane c) = subst (λ (x : Book). AreUp x.made) (sym c.done) up
up_on book new i up (crashes keep c) = subst (λ (x : Book). AreUp x.made) (sym c.done) up
up_on book new i up (refuses r) = subst (λ (x : Book). AreUp x.made) (sym r.done) up

first_up : (a n : ℕ) → AreUp (range_with_len a n)
first_up a zero = tt
first_up a (suc n) = (all_numbers (λ k. a < k) (a + 1) n (λ k from below. omega (arith, from)), first_up (a + 1) n)

pub can_be_written : EveryCertificateCanBeWritten
can_be_written = from_opening (λ book. AreUp book.made) CanBeWritten up_on written_so (λ profile start faults is. first_up 1 (length start))
