-- What a grammar reads from the front is what its bytes spell, and the first fault is where one stands.
use Rattle.std.proofs.Common.{◌≡◌, ◌≢◌, ℕ, ◌+◌, List, [], ◌∷◌, ◌++◌, length, Result, Ok, Err, refl, sym, ap, add-zero, subst, ◌∙◌, arith, inl, inr}
use Rattle.std.proofs.lemmas.List.{append-nil}
use Rattle.xdr_records.specs.declared.fault.XdrFault.{XdrFault}
use Rattle.xdr_records.specs.declared.fault.XdrFault.TheVariants.{Trailing}
use Rattle.xdr_records.specs.Unread.{Unread, At, whole}
use Rattle.xdr_records.specs.Grammar.{Grammar}
use Rattle.xdr_records.specs.Grammar.Grammar.{one_word, one_long, one_flag, one_fixed, one_opaque, named, nothing, refused, many, both}
use Rattle.xdr_records.specs.Items.{end_in, end_at, word_at}
use Rattle.xdr_records.specs.Spelling.{IsWord, Spells}
use Rattle.xdr_records.specs.Reading.{item_here, name_here, reading, ended, all_of}
use Rattle.xdr_records.specs.Faults.{Stands, FailsHere, Fails, AllFails}
use Rattle.xdr_records.specs.Laws.{IsItem}
use Rattle.xdr_records.proofs.Fronts.{fine, fine_is, pair_is, left_at, fault_at, bound_ok, bound_err, here_ok, here_err, name_ok, name_err, stands_nowhere, joined, split, seen_as, behind_is}
use Rattle.xdr_records.proofs.ItemLaws.{words, longs, flags, fixeds, opaques}
use Rattle.xdr_records.proofs.Lists.{items_found, items_again, items_fault, items_fails}

-- ---- one item

module _ {K A : Type 0} (kind_of : XdrFault → K) {Item : List ℕ → A → Type 0} {ItemFails : Unread → XdrFault → Type 0} {item_at : Unread → Result (A × Unread) XdrFault} (is : IsItem Item ItemFails item_at) where
  item_found : (x : A) (old new : Unread) → item_here kind_of old.at (item_at old) ≡ Ok (x, new) → Stands (λ front. Item front x) old new
  item_found x old new e = is.found x old new (here_ok kind_of old.at (item_at old) (x, new) e)

  item_again : (x : A) (old new : Unread) → Stands (λ front. Item front x) old new → item_here kind_of old.at (item_at old) ≡ Ok (x, new)
  item_again x old new s = rw (is.again x old new s) refl

  item_fault : (unread : Unread) (f : At K) → item_here kind_of unread.at (item_at unread) ≡ Err f → FailsHere kind_of ItemFails unread f
  item_fault unread f e =
      let h = here_err kind_of unread.at (item_at unread) f e in
      record { name = h.0; item = is.fault unread h.0 h.1; is = h.2 }

  item_fails : (unread : Unread) (f : At K) → FailsHere kind_of ItemFails unread f → item_here kind_of unread.at (item_at unread) ≡ Err f
  item_fails unread f h = rw (is.fails unread h.name h.item, h.is) refl

-- ---- any grammar

-- what is read stands at the front
pub found : {K A : Type 0} (kind_of : XdrFault → K) (g : Grammar K A) (x : A) (old new : Unread) → reading kind_of g old ≡ Ok (x, new) → Stands (λ front. Spells g front x) old new
found kind_of one_word x old new e = item_found kind_of words x old new e
found kind_of one_long x old new e = item_found kind_of longs x old new e
found kind_of one_flag x old new e = item_found kind_of flags x old new e
found kind_of (one_fixed n) x old new e = item_found kind_of (fixeds n) x old new e
found kind_of (one_opaque max) x old new e = item_found kind_of (opaques max) x old new e
found kind_of (named name) x old new e =
    let w = bound_ok (item_here kind_of old.at (word_at old)) (λ word. name_here old.at (name word.0) word.1) (x, new) e in
    let s = item_found kind_of words w.0.0 old w.0.1 w.1 in
    let n = name_ok old.at (name w.0.0) w.0.1 new x w.2 in
    let s' = seen_as {Other = λ front. Spells (named name) front x} s (w.0.0, s.item, n.0) in
    subst (λ (u : Unread). Stands (λ front. Spells (named name) front x) old u) n.1 s'
found {K = K} kind_of (nothing y) x old new e =
    let same = pair_is {F = At K} y x old new e in
    subst (λ (u : Unread). Stands (λ front. (front ≡ []) × (y ≡ x)) old u) same.1 (stands_nowhere (λ front. (front ≡ []) × (y ≡ x)) old (refl, same.0))
found kind_of (refused kind) x old new e = absurd cc
found kind_of (many g) x old new e =
    items_found kind_of (Spells g) (reading kind_of g) (found kind_of g) (length old.rest) x old new e
found kind_of (both g f) x old new e =
    let a = bound_ok (reading kind_of g old) (λ y. reading kind_of (f y.0) y.1) (x, new) e in
    let both = joined (found kind_of g a.0.0 old a.0.1 a.1) (found kind_of (f a.0.0) x a.0.1 new a.2) in
    seen_as both (a.0.0, both.item)

-- what stands at the front is read
pub again : {K A : Type 0} (kind_of : XdrFault → K) (g : Grammar K A) (x : A) (old new : Unread) → Stands (λ front. Spells g front x) old new → reading kind_of g old ≡ Ok (x, new)
again kind_of one_word x old new s = item_again kind_of words x old new s
again kind_of one_long x old new s = item_again kind_of longs x old new s
again kind_of one_flag x old new s = item_again kind_of flags x old new s
again kind_of (one_fixed n) x old new s = item_again kind_of (fixeds n) x old new s
again kind_of (one_opaque max) x old new s = item_again kind_of (opaques max) x old new s
again kind_of (named name) x old new s =
    let word = seen_as {Other = λ front. IsWord front s.item.0} s s.item.1 in
    rw (words.again s.item.0 old new word, s.item.2) refl
again kind_of (nothing y) x old new s =
    let here = behind_is old new 0 s (ap length s.item.0) in
    let old_is : left_at (old.at + 0) old.rest ≡ new = here in
    rw (s.item.1, ← old_is) (rw (add-zero old.at) refl)
again kind_of (refused kind) x old new s = absurd s.item
again kind_of (many g) xs old new s =
    items_again kind_of (Spells g) (reading kind_of g) (again kind_of g) (length old.rest) xs old new (omega arith) s
again kind_of (both g f) x old new s =
    let p = split old new (seen_as s s.item.1) in
    rw (again kind_of g s.item.0 old p.0 p.1) (again kind_of (f s.item.0) x p.0 new p.2)

-- the fault that is met is one
pub fault : {K A : Type 0} (kind_of : XdrFault → K) (g : Grammar K A) (unread : Unread) (f : At K) → reading kind_of g unread ≡ Err f → Fails kind_of g unread f
fault kind_of one_word unread f e = item_fault kind_of words unread f e
fault kind_of one_long unread f e = item_fault kind_of longs unread f e
fault kind_of one_flag unread f e = item_fault kind_of flags unread f e
fault kind_of (one_fixed n) unread f e = item_fault kind_of (fixeds n) unread f e
fault kind_of (one_opaque max) unread f e = item_fault kind_of (opaques max) unread f e
fault kind_of (named name) unread f e =
    elim (bound_err (item_here kind_of unread.at (word_at unread)) (λ word. name_here unread.at (name word.0) word.1) f e) [
      | inl short ↦ inl (item_fault kind_of words unread f short)
      | inr w ↦
          let s = item_found kind_of words w.0.0 unread w.0.1 w.1 in
          let n = name_err unread.at (name w.0.0) w.0.1 f w.2 in
          inr (w.0.0, w.0.1, n.0, s, n.1, n.2)
    ]
fault kind_of (nothing y) unread f e = absurd cc
fault kind_of (refused kind) unread f e = cc
fault kind_of (many g) unread f e =
    items_fault kind_of (Spells g) (Fails kind_of g) (reading kind_of g) (found kind_of g) (fault kind_of g) (length unread.rest) unread f (omega arith) e
fault kind_of (both g f) unread d e =
    elim (bound_err (reading kind_of g unread) (λ y. reading kind_of (f y.0) y.1) d e) [
      | inl first ↦ inl (fault kind_of g unread d first)
      | inr a ↦ inr (a.0.0, a.0.1, found kind_of g a.0.0 unread a.0.1 a.1, fault kind_of (f a.0.0) a.0.1 d a.2)
    ]

-- where an item is at fault, that fault is met
pub fails : {K A : Type 0} (kind_of : XdrFault → K) (g : Grammar K A) (unread : Unread) (f : At K) → Fails kind_of g unread f → reading kind_of g unread ≡ Err f
fails kind_of one_word unread f h = item_fails kind_of words unread f h
fails kind_of one_long unread f h = item_fails kind_of longs unread f h
fails kind_of one_flag unread f h = item_fails kind_of flags unread f h
fails kind_of (one_fixed n) unread f h = item_fails kind_of (fixeds n) unread f h
fails kind_of (one_opaque max) unread f h = item_fails kind_of (opaques max) unread f h
fails kind_of (named name) unread f (inl short) = rw (item_fails kind_of words unread f short) refl
fails kind_of (named name) unread f (inr w) = rw (words.again w.0 unread w.1 w.3, w.4, w.5) refl
fails kind_of (nothing y) unread f h = absurd h
fails kind_of (refused kind) unread f h = rw h refl
fails kind_of (many g) unread f h =
    items_fails kind_of (Spells g) (Fails kind_of g) (reading kind_of g) (again kind_of g) (fails kind_of g) (length unread.rest) h.0 unread f (omega arith) h.1
fails kind_of (both g f) unread d (inl first) = rw (fails kind_of g unread d first) refl
fails kind_of (both g f) unread d (inr h) = rw (again kind_of g h.0 unread h.1 h.2) (fails kind_of (f h.0) h.1 d h.3)

-- ---- all of the bytes

end_ok : (rest : List ℕ) (x : Unit {0}) → end_in rest ≡ Ok x → rest ≡ []
end_ok [] x e = refl
end_ok (byte ∷ bytes) x e = absurd cc

end_err : (rest : List ℕ) (name : XdrFault) → end_in rest ≡ Err name → (rest ≢ []) × (name ≡ Trailing)
end_err [] name e = absurd cc
end_err (byte ∷ bytes) name e = (λ nil. absurd cc, cc)

no_end : (rest : List ℕ) → rest ≢ [] → end_in rest ≡ Err Trailing
no_end [] more = absurd (more refl)
no_end (byte ∷ bytes) more = refl

-- nothing is left where the end is
pub end_at-ok : (unread : Unread) (x : Unit {0}) → end_at unread ≡ Ok x → unread.rest ≡ []
unfolding end_at
end_at-ok unread x e = end_ok unread.rest x e

-- something is left where it isn't
pub end_at-err : (unread : Unread) (name : XdrFault) → end_at unread ≡ Err name → (unread.rest ≢ []) × (name ≡ Trailing)
unfolding end_at
end_at-err unread name e = end_err unread.rest name e

pub end_at-nothing : (unread : Unread) → unread.rest ≡ [] → end_at unread ≡ Ok tt
unfolding end_at
end_at-nothing unread nil = ap end_in nil

pub end_at-something : (unread : Unread) → unread.rest ≢ [] → end_at unread ≡ Err Trailing
unfolding end_at
end_at-something unread more = no_end unread.rest more

-- the value of what was read with nothing behind it
ended_ok : {K A : Type 0} (kind_of : XdrFault → K) (y : A × Unread) (x : A) → ended kind_of y ≡ Ok x → (y.0 ≡ x) × (y.1.rest ≡ [])
unfolding end_at
ended_ok {K = K} kind_of y x e =
    let a = bound_ok (item_here kind_of y.1.at (end_at y.1)) (λ _. fine (At K) y.0) x e in
    (fine_is {F = At K} y.0 x a.2, end_ok y.1.rest a.0 (here_ok kind_of y.1.at (end_at y.1) a.0 a.1))

-- the fault behind what was read
ended_err : {K A : Type 0} (kind_of : XdrFault → K) (y : A × Unread) (f : At K) → ended kind_of y ≡ Err f → (y.1.rest ≢ []) × (f ≡ fault_at y.1.at (kind_of Trailing))
unfolding end_at
ended_err {K = K} kind_of y f e =
    elim (bound_err (item_here kind_of y.1.at (end_at y.1)) (λ _. fine (At K) y.0) f e) [
      | inl wrong ↦
          let h = here_err kind_of y.1.at (end_at y.1) f wrong in
          let b = end_err y.1.rest h.0 h.1 in
          (b.0, h.2 ∙ ap (λ (name : XdrFault). fault_at y.1.at (kind_of name)) b.1)
      | inr a ↦ let wrong = a.2 in absurd cc
    ]

-- what is read of all of the bytes is what they spell
pub all_found : {K A : Type 0} (kind_of : XdrFault → K) (g : Grammar K A) (bytes : List ℕ) (x : A) → all_of kind_of g bytes ≡ Ok x → Spells g bytes x
all_found {A = A} kind_of g bytes x e =
    let a = bound_ok (reading kind_of g (whole bytes)) (ended kind_of) x e in
    let b = ended_ok kind_of a.0 x a.2 in
    let s = found kind_of g a.0.0 (whole bytes) a.0.1 a.1 in
    let front : bytes ≡ s.front = s.parts ∙ ap (λ (xs : List ℕ). s.front ++ xs) b.1 ∙ append-nil s.front in
    subst (λ (y : A). Spells g bytes y) b.0 (subst (λ (xs : List ℕ). Spells g xs a.0.0) (sym front) s.item)

-- what the bytes spell is read
pub all_again : {K A : Type 0} (kind_of : XdrFault → K) (g : Grammar K A) (bytes : List ℕ) (x : A) → Spells g bytes x → all_of kind_of g bytes ≡ Ok x
unfolding end_at
all_again kind_of g bytes x spelled =
    let s : Stands (λ front. Spells g front x) (whole bytes) (left_at (0 + length bytes) []) = record { front = bytes; parts = sym (append-nil bytes); at = refl; item = spelled } in
    rw (again kind_of g x (whole bytes) (left_at (0 + length bytes) []) s) refl

-- the fault that is met in all of the bytes is the first
pub all_fault : {K A : Type 0} (kind_of : XdrFault → K) (g : Grammar K A) (bytes : List ℕ) (f : At K) → all_of kind_of g bytes ≡ Err f → AllFails kind_of g bytes f
all_fault kind_of g bytes f e =
    elim (bound_err (reading kind_of g (whole bytes)) (ended kind_of) f e) [
      | inl wrong ↦ inl (fault kind_of g (whole bytes) f wrong)
      | inr a ↦ let b = ended_err kind_of a.0 f a.2 in inr (a.0.0, a.0.1, found kind_of g a.0.0 (whole bytes) a.0.1 a.1, b.0, b.1)
    ]

-- where an item is at fault or bytes stand behind the last, that fault is met
pub all_fails : {K A : Type 0} (kind_of : XdrFault → K) (g : Grammar K A) (bytes : List ℕ) (f : At K) → AllFails kind_of g bytes f → all_of kind_of g bytes ≡ Err f
unfolding end_at
all_fails kind_of g bytes f (inl first) = rw (fails kind_of g (whole bytes) f first) refl
all_fails kind_of g bytes f (inr h) = rw (again kind_of g h.0 (whole bytes) h.1 h.2, no_end h.1.rest h.3, h.4) refl

-- the bytes spell no other value
pub one_value : {K A : Type 0} (kind_of : XdrFault → K) (g : Grammar K A) (bytes : List ℕ) (x y : A) → Spells g bytes x → Spells g bytes y → x ≡ y
one_value {K = K} kind_of g bytes x y a b = fine_is {F = At K} x y (sym (all_again kind_of g bytes x a) ∙ all_again kind_of g bytes y b)
