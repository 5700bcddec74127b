-- Each item is read exactly where it stands.
use Rattle.std.proofs.Common.{◌≡◌, ℕ, zero, suc, ◌⊎◌, ◌<◌, ◌≤◌, Bool, true, false, ltb, leb, List, ◌++◌, length, take, drop, Result, Ok, Err, refl, sym, ap, subst, ◌∙◌, append_assoc, arith, inl, inr}
use Rattle.std.proofs.lemmas.Bool.{ltb-false, le-ltb, ltb-true, lt-ltb, leb-true, leb-false, le-leb, lt-leb}
use Rattle.std.proofs.lemmas.List.{take-append-drop, length-take, take_at, take-take}
use Rattle.byteorder.specs.Numbers.{big_from-append}
use Rattle.xdr_records.specs.declared.fault.XdrFault.{XdrFault}
use Rattle.xdr_records.specs.declared.fault.XdrFault.TheVariants.{Short, BadFlag, TooLong}
use Rattle.xdr_records.specs.Unread.{Unread, behind}
use Rattle.xdr_records.specs.Items.{word_of, long_of, padded, flag_of, flag_and, flag_in, opaque_in, word_at, long_at, flag_at, fixed_at, opaque_at}
use Rattle.xdr_records.specs.Spelling.{IsWord, IsLong, IsFlag, IsFixed, IsOpaque}
use Rattle.xdr_records.specs.Faults.{Stands, IsShort, FlagFails, OpaqueFails}
use Rattle.xdr_records.specs.Laws.{IsItem}
use Rattle.xdr_records.proofs.Fronts.{fine, pair_is, chosen, guard_ok, guard_err, taken, behind_is, length_before, joined, split, seen_as}

-- a word is its first four bytes
pub word_of-append : (xs ys : List ℕ) → 4 ≤ length xs → word_of (xs ++ ys) ≡ word_of xs
unfolding word_of
word_of-append xs ys long = big_from-append 4 xs ys long

word_of-take : (bytes : List ℕ) → 4 ≤ length bytes → word_of (take 4 bytes) ≡ word_of bytes
word_of-take bytes long =
    let four : 4 ≤ length (take 4 bytes) = let e = length-take 4 bytes in omega arith in
    sym (word_of-append (take 4 bytes) (drop 4 bytes) four) ∙ ap word_of (take-append-drop 4 bytes)

-- two words are their first eight bytes
pub long_of-append : (xs ys : List ℕ) → 8 ≤ length xs → long_of (xs ++ ys) ≡ long_of xs
unfolding long_of
long_of-append xs ys long = big_from-append 8 xs ys long

long_of-take : (bytes : List ℕ) → 8 ≤ length bytes → long_of (take 8 bytes) ≡ long_of bytes
long_of-take bytes long =
    let eight : 8 ≤ length (take 8 bytes) = let e = length-take 8 bytes in omega arith in
    sym (long_of-append (take 8 bytes) (drop 8 bytes) eight) ∙ ap long_of (take-append-drop 8 bytes)

word_found : (x : ℕ) (old new : Unread) → word_at old ≡ Ok (x, new) → Stands (λ front. IsWord front x) old new
unfolding word_at
word_found x old new e =
    let g = guard_ok (ltb (length old.rest) 4) Short (word_of old.rest, behind 4 old) (x, new) e in
    let long : 4 ≤ length old.rest = ltb-false _ _ g.0 in
    let value : word_of old.rest ≡ x = ap (λ (p : ℕ × Unread). p.0) g.1 in
    let after : behind 4 old ≡ new = ap (λ (p : ℕ × Unread). p.1) g.1 in
    let four : length (take 4 old.rest) ≡ 4 = let l = length-take 4 old.rest in omega arith in
    let item : IsWord (take 4 old.rest) x = record { four = four; value = word_of-take old.rest long ∙ value } in
    subst (λ (u : Unread). Stands (λ front. IsWord front x) old u) after (taken (λ front. IsWord front x) 4 old long item)

word_again : (x : ℕ) (old new : Unread) → Stands (λ front. IsWord front x) old new → word_at old ≡ Ok (x, new)
unfolding word_at
word_again x old new s =
    let long : ltb (length old.rest) 4 ≡ false = let e = length_before old new s in le-ltb _ _ (omega (arith, s.item.four)) in
    let value : word_of old.rest ≡ x = ap word_of s.parts ∙ word_of-append s.front new.rest (omega (arith, s.item.four)) ∙ s.item.value in
    rw (long, value, behind_is old new 4 s s.item.four) refl

word_fault : (unread : Unread) (name : XdrFault) → word_at unread ≡ Err name → IsShort 4 unread name
unfolding word_at
word_fault unread name e =
    let g = guard_err (ltb (length unread.rest) 4) Short name (word_of unread.rest, behind 4 unread) e in
    (ltb-true _ _ g.0, g.1)

word_fails : (unread : Unread) (name : XdrFault) → IsShort 4 unread name → word_at unread ≡ Err name
unfolding word_at
word_fails unread name h = let short : ltb (length unread.rest) 4 ≡ true = lt-ltb _ _ h.0 in rw (short, h.1) refl

pub words : IsItem IsWord (IsShort 4) word_at
words = record { found = word_found; again = word_again; fault = word_fault; fails = word_fails }

-- ---- two words as one number

long_found : (x : ℕ) (old new : Unread) → long_at old ≡ Ok (x, new) → Stands (λ front. IsLong front x) old new
unfolding long_at
long_found x old new e =
    let g = guard_ok (ltb (length old.rest) 8) Short (long_of old.rest, behind 8 old) (x, new) e in
    let enough : 8 ≤ length old.rest = ltb-false _ _ g.0 in
    let value : long_of old.rest ≡ x = ap (λ (p : ℕ × Unread). p.0) g.1 in
    let after : behind 8 old ≡ new = ap (λ (p : ℕ × Unread). p.1) g.1 in
    let eight : length (take 8 old.rest) ≡ 8 = let l = length-take 8 old.rest in omega arith in
    let item : IsLong (take 8 old.rest) x = record { eight = eight; value = long_of-take old.rest enough ∙ value } in
    subst (λ (u : Unread). Stands (λ front. IsLong front x) old u) after (taken (λ front. IsLong front x) 8 old enough item)

long_again : (x : ℕ) (old new : Unread) → Stands (λ front. IsLong front x) old new → long_at old ≡ Ok (x, new)
unfolding long_at
long_again x old new s =
    let enough : ltb (length old.rest) 8 ≡ false = let e = length_before old new s in le-ltb _ _ (omega (arith, s.item.eight)) in
    let value : long_of old.rest ≡ x = ap long_of s.parts ∙ long_of-append s.front new.rest (omega (arith, s.item.eight)) ∙ s.item.value in
    rw (enough, value, behind_is old new 8 s s.item.eight) refl

long_fault : (unread : Unread) (name : XdrFault) → long_at unread ≡ Err name → IsShort 8 unread name
unfolding long_at
long_fault unread name e =
    let g = guard_err (ltb (length unread.rest) 8) Short name (long_of unread.rest, behind 8 unread) e in
    (ltb-true _ _ g.0, g.1)

long_fails : (unread : Unread) (name : XdrFault) → IsShort 8 unread name → long_at unread ≡ Err name
unfolding long_at
long_fails unread name h = let short : ltb (length unread.rest) 8 ≡ true = lt-ltb _ _ h.0 in rw (short, h.1) refl

pub longs : IsItem IsLong (IsShort 8) long_at
longs = record { found = long_found; again = long_again; fault = long_fault; fails = long_fails }

-- ---- flags

-- the word that a flag is
flag_word : (n : ℕ) (flag : Bool) (front : List ℕ) → flag_of n ≡ Ok flag → IsWord front n → IsFlag front flag
flag_word zero false front e word = word
flag_word zero true front e word = absurd cc
flag_word (suc zero) false front e word = absurd cc
flag_word (suc zero) true front e word = word
flag_word (suc (suc n)) flag front e word = absurd cc

-- the word that is no flag
not_flag : (n : ℕ) (name : XdrFault) → flag_of n ≡ Err name → (2 ≤ n) × (name ≡ BadFlag)
not_flag zero name e = absurd cc
not_flag (suc zero) name e = absurd cc
not_flag (suc (suc n)) name e = (omega arith, cc)

no_flag : (n : ℕ) → 2 ≤ n → flag_of n ≡ Err BadFlag
no_flag zero h = absurd (omega arith)
no_flag (suc zero) h = absurd (omega arith)
no_flag (suc (suc n)) h = refl

flag_and_ok : (r : Result Bool XdrFault) (after new : Unread) (flag : Bool) → flag_and r after ≡ Ok (flag, new) → (r ≡ Ok flag) × (after ≡ new)
flag_and_ok (Ok read) after new flag e =
    let same = pair_is {F = XdrFault} read flag after new e in
    (ap (fine XdrFault) same.0, same.1)
flag_and_ok (Err name) after new flag e = absurd cc

flag_and_err : (r : Result Bool XdrFault) (after : Unread) (name : XdrFault) → flag_and r after ≡ Err name → r ≡ Err name
flag_and_err (Ok read) after name e = absurd cc
flag_and_err (Err other) after name e = cc

flag_in_ok : (r : Result (ℕ × Unread) XdrFault) (flag : Bool) (new : Unread) → flag_in r ≡ Ok (flag, new) → (n : ℕ) × (r ≡ Ok (n, new)) × (flag_of n ≡ Ok flag)
flag_in_ok (Ok word) flag new e =
    let both = flag_and_ok (flag_of word.0) word.1 new flag e in
    (word.0, ap (λ (u : Unread). fine XdrFault (word.0, u)) both.1, both.0)
flag_in_ok (Err name) flag new e = absurd cc

flag_in_err : (r : Result (ℕ × Unread) XdrFault) (name : XdrFault) → flag_in r ≡ Err name → (r ≡ Err name) ⊎ (n : ℕ) × (after : Unread) × (r ≡ Ok (n, after)) × (flag_of n ≡ Err name)
flag_in_err (Ok word) name e = inr (word.0, word.1, refl, flag_and_err (flag_of word.0) word.1 name e)
flag_in_err (Err other) name e = inl cc

flag_found : (flag : Bool) (old new : Unread) → flag_at old ≡ Ok (flag, new) → Stands (λ front. IsFlag front flag) old new
unfolding flag_at
flag_found flag old new e =
    let w = flag_in_ok (word_at old) flag new e in
    let s = word_found w.0 old new w.1 in
    seen_as s (flag_word w.0 flag s.front w.2 s.item)

flag_again : (flag : Bool) (old new : Unread) → Stands (λ front. IsFlag front flag) old new → flag_at old ≡ Ok (flag, new)
unfolding flag_at
flag_again false old new s = rw (word_again 0 old new s) refl
flag_again true old new s = rw (word_again 1 old new s) refl

flag_fault : (unread : Unread) (name : XdrFault) → flag_at unread ≡ Err name → FlagFails unread name
unfolding flag_at
flag_fault unread name e =
    elim (flag_in_err (word_at unread) name e) [
      | inl short ↦ inl (word_fault unread name short)
      | inr w ↦ let bad = not_flag w.0 name w.3 in inr (w.0, w.1, word_found w.0 unread w.1 w.2, bad.0, bad.1)
    ]

flag_fails : (unread : Unread) (name : XdrFault) → FlagFails unread name → flag_at unread ≡ Err name
unfolding flag_at
flag_fails unread name (inl short) = rw (word_fails unread name short) refl
flag_fails unread name (inr w) = rw (word_again w.0 unread w.1 w.2, no_flag w.0 w.3, w.4) refl

pub flags : IsItem IsFlag FlagFails flag_at
flags = record { found = flag_found; again = flag_again; fault = flag_fault; fails = flag_fails }

-- ---- opaque data

le-padded : (n : ℕ) → n ≤ padded n
le-padded n = omega arith

fixed_found : (n : ℕ) (value : List ℕ) (old new : Unread) → fixed_at n old ≡ Ok (value, new) → Stands (λ front. IsFixed n front value) old new
unfolding fixed_at
fixed_found n value old new e =
    let g = guard_ok (ltb (length old.rest) (padded n)) Short (take n old.rest, behind (padded n) old) (value, new) e in
    let enough : padded n ≤ length old.rest = ltb-false _ _ g.0 in
    let value_is : take n old.rest ≡ value = ap (λ (p : List ℕ × Unread). p.0) g.1 in
    let after : behind (padded n) old ≡ new = ap (λ (p : List ℕ × Unread). p.1) g.1 in
    let front = take (padded n) old.rest in
    let first : take n front ≡ take n old.rest = take-take n (padded n) old.rest (le-padded n) in
    let item : IsFixed n front (take n old.rest) = record {
      padding = drop n front;
      parts = sym (take-append-drop n front) ∙ ap (λ (xs : List ℕ). xs ++ drop n front) first;
      size = let l = length-take n old.rest in let le = le-padded n in omega arith;
      all = let l = length-take (padded n) old.rest in omega arith;
    } in
    let stands = taken (λ bytes. IsFixed n bytes (take n old.rest)) (padded n) old enough item in
    subst (λ (p : List ℕ × Unread). Stands (λ bytes. IsFixed n bytes p.0) old p.1) g.1 stands

fixed_again : (n : ℕ) (value : List ℕ) (old new : Unread) → Stands (λ front. IsFixed n front value) old new → fixed_at n old ≡ Ok (value, new)
unfolding fixed_at
fixed_again n value old new s =
    let enough : ltb (length old.rest) (padded n) ≡ false = let e = length_before old new s in le-ltb _ _ (omega (arith, s.item.all)) in
    let parts : old.rest ≡ value ++ (s.item.padding ++ new.rest) = s.parts ∙ ap (λ (xs : List ℕ). xs ++ new.rest) s.item.parts ∙ append_assoc value s.item.padding new.rest in
    let value_is : take n old.rest ≡ value = ap (λ (xs : List ℕ). take n xs) parts ∙ take_at value (s.item.padding ++ new.rest) n s.item.size in
    rw (enough, value_is, behind_is old new (padded n) s s.item.all) refl

fixed_fault : (n : ℕ) (unread : Unread) (name : XdrFault) → fixed_at n unread ≡ Err name → IsShort (padded n) unread name
unfolding fixed_at
fixed_fault n unread name e =
    let g = guard_err (ltb (length unread.rest) (padded n)) Short name (take n unread.rest, behind (padded n) unread) e in
    (ltb-true _ _ g.0, g.1)

fixed_fails : (n : ℕ) (unread : Unread) (name : XdrFault) → IsShort (padded n) unread name → fixed_at n unread ≡ Err name
unfolding fixed_at
fixed_fails n unread name h = let short : ltb (length unread.rest) (padded n) ≡ true = lt-ltb _ _ h.0 in rw (short, h.1) refl

pub fixeds : (n : ℕ) → IsItem (IsFixed n) (IsShort (padded n)) (fixed_at n)
fixeds n = record { found = fixed_found n; again = fixed_again n; fault = fixed_fault n; fails = fixed_fails n }

opaque_in_ok : (max : ℕ) (r : Result (ℕ × Unread) XdrFault) (x : List ℕ × Unread) → opaque_in max r ≡ Ok x → (n : ℕ) × (after : Unread) × (r ≡ Ok (n, after)) × (n ≤ max) × (fixed_at n after ≡ Ok x)
opaque_in_ok max (Ok word) x e =
    elim (chosen (leb word.0 max) (fixed_at word.0 word.1) (Err TooLong) (Ok x) e) [
      | inl c ↦ (word.0, word.1, refl, leb-true _ _ c.0, c.1)
      | inr c ↦ let wrong = c.1 in absurd cc
    ]
opaque_in_ok max (Err name) x e = absurd cc

opaque_in_err : (max : ℕ) (r : Result (ℕ × Unread) XdrFault) (name : XdrFault) → opaque_in max r ≡ Err name → (r ≡ Err name) ⊎ (n : ℕ) × (after : Unread) × (r ≡ Ok (n, after)) × (((max < n) × (name ≡ TooLong)) ⊎ ((n ≤ max) × (fixed_at n after ≡ Err name)))
opaque_in_err max (Ok word) name e =
    elim (chosen (leb word.0 max) (fixed_at word.0 word.1) (Err TooLong) (Err name) e) [
      | inl c ↦ inr (word.0, word.1, refl, inr (leb-true _ _ c.0, c.1))
      | inr c ↦ let long = c.1 in inr (word.0, word.1, refl, inl (leb-false _ _ c.0, cc))
    ]
opaque_in_err max (Err other) name e = inl cc

opaque_found : (max : ℕ) (value : List ℕ) (old new : Unread) → opaque_at max old ≡ Ok (value, new) → Stands (λ front. IsOpaque max front value) old new
unfolding opaque_at
opaque_found max value old new e =
    let w = opaque_in_ok max (word_at old) (value, new) e in
    let word = word_found w.0 old w.1 w.2 in
    let body = fixed_found w.0 value w.1 new w.4 in
    let both = joined word body in
    let size : w.0 ≡ length value = sym body.item.size in
    seen_as both (record {
      word = both.item.front;
      body = both.item.back;
      parts = both.item.parts;
      counted = subst (λ (n : ℕ). IsWord both.item.front n) size both.item.first;
      within = omega (arith, w.3);
      padded = subst (λ (n : ℕ). IsFixed n both.item.back value) size both.item.others;
    })

opaque_parts : (max : ℕ) (value : List ℕ) (old new : Unread) → Stands (λ front. IsOpaque max front value) old new → (between : Unread) × Stands (λ front. IsWord front (length value)) old between × Stands (λ front. IsFixed (length value) front value) between new
opaque_parts max value old new s =
    let i = s.item in
    split old new (seen_as s (record { front = i.word; back = i.body; parts = i.parts; first = i.counted; others = i.padded }))

opaque_again : (max : ℕ) (value : List ℕ) (old new : Unread) → Stands (λ front. IsOpaque max front value) old new → opaque_at max old ≡ Ok (value, new)
unfolding opaque_at
opaque_again max value old new s =
    let p = opaque_parts max value old new s in
    let within : leb (length value) max ≡ true = le-leb _ _ s.item.within in
    rw (word_again (length value) old p.0 p.1, within, fixed_again (length value) value p.0 new p.2) refl

opaque_fault : (max : ℕ) (unread : Unread) (name : XdrFault) → opaque_at max unread ≡ Err name → OpaqueFails max unread name
unfolding opaque_at
opaque_fault max unread name e =
    elim (opaque_in_err max (word_at unread) name e) [
      | inl short ↦ inl (word_fault unread name short)
      | inr w ↦ inr (
        w.0,
        w.1,
        word_found w.0 unread w.1 w.2,
        elim w.3 [
          | inl long ↦ inl long
          | inr body ↦ inr (body.0, fixed_fault w.0 w.1 name body.1)
        ],
      )
    ]

opaque_fails : (max : ℕ) (unread : Unread) (name : XdrFault) → OpaqueFails max unread name → opaque_at max unread ≡ Err name
unfolding opaque_at
opaque_fails max unread name (inl short) = rw (word_fails unread name short) refl
opaque_fails max unread name (inr w) =
    elim w.3 [
      | inl long ↦ let over : leb w.0 max ≡ false = lt-leb _ _ long.0 in rw (word_again w.0 unread w.1 w.2, over, long.1) refl
      | inr body ↦ let within : leb w.0 max ≡ true = le-leb _ _ body.0 in rw (word_again w.0 unread w.1 w.2, within, fixed_fails w.0 w.1 name body.1) refl
    ]

pub opaques : (max : ℕ) → IsItem (IsOpaque max) (OpaqueFails max) (opaque_at max)
opaques max = record { found = opaque_found max; again = opaque_again max; fault = opaque_fault max; fails = opaque_fails max }
