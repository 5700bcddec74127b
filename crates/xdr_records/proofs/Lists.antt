-- The items of a list, each behind its flag.
use Rattle.std.proofs.Common.{◌≡◌, ℕ, zero, suc, ◌+◌, ◌<◌, ◌≤◌, Bool, true, false, List, [], ◌∷◌, length, Result, Ok, Err, refl, sym, ap, subst, ◌∙◌, arith, inl, inr}
use Rattle.xdr_records.specs.declared.fault.XdrFault.{XdrFault}
use Rattle.xdr_records.specs.declared.fault.XdrFault.TheVariants.{Short}
use Rattle.xdr_records.specs.Unread.{Unread, At}
use Rattle.xdr_records.specs.Items.{flag_at}
use Rattle.xdr_records.specs.Spelling.{IsFlag, IsList}
use Rattle.xdr_records.specs.Reading.{item_here, with_first, flagged, items_at}
use Rattle.xdr_records.specs.Faults.{Stands, FlagFails, FailsHere, ListFails}
use Rattle.xdr_records.proofs.Fronts.{pair_is, fault_at, bound_ok, bound_err, here_ok, here_err, first_ok, first_err, length_before, joined, split}
use Rattle.xdr_records.proofs.ItemLaws.{flags}

-- a flag takes four bytes
flag_size : (flag : Bool) (front : List ℕ) → IsFlag front flag → length front ≡ 4
flag_size false front h = h.four
flag_size true front h = h.four

flag_before : (flag : Bool) (old new : Unread) → Stands (λ front. IsFlag front flag) old new → length old.rest ≡ 4 + length new.rest
flag_before flag old new s =
    let size = flag_size flag s.front s.item in
    let all = length_before old new s in
    omega arith

-- no fewer bytes are left before a front than behind it
before : {Item : List ℕ → Type 0} (old new : Unread) → Stands Item old new → length new.rest ≤ length old.rest
before old new s = let all = length_before old new s in omega arith

-- what is read of a list stands at the front
module _ {A K : Type 0} (kind_of : XdrFault → K) (Item : List ℕ → A → Type 0) (item : Unread → Result (A × Unread) (At K))
    (found : (x : A) (old new : Unread) → item old ≡ Ok (x, new) → Stands (λ front. Item front x) old new) where
  flagged_found : (others : Unread → Result (List A × Unread) (At K)) (others_found : (xs : List A) (old new : Unread) → others old ≡ Ok (xs, new) → Stands (IsList Item xs) old new)
      (flag : Bool) (old after : Unread) → Stands (λ front. IsFlag front flag) old after → (xs : List A) (new : Unread) → flagged item others flag after ≡ Ok (xs, new) → Stands (IsList Item xs) old new
  flagged_found others others_found false old after s xs new e =
      let same = pair_is {F = At K} [] xs after new e in
      subst (λ (p : List A × Unread). Stands (IsList Item p.0) old p.1) (ap (λ (ys : List A). (ys, after)) same.0 ∙ ap (λ (u : Unread). (xs, u)) same.1) s
  flagged_found others others_found true old after s xs new e =
      let a = bound_ok (item after) (λ x. with_first x.0 (others x.1)) (xs, new) e in
      let b = first_ok a.0.0 (others a.0.1) xs new a.2 in
      let one = found a.0.0 after a.0.1 a.1 in
      let more = others_found b.0 a.0.1 new b.1 in
      subst (λ (ys : List A). Stands (IsList Item ys) old new) b.2 (joined s (joined one more))

  pub items_found : (n : ℕ) (xs : List A) (old new : Unread) → items_at kind_of item n old ≡ Ok (xs, new) → Stands (IsList Item xs) old new
  items_found zero xs old new e = absurd cc
  items_found (suc n) xs old new e =
      let a = bound_ok (item_here kind_of old.at (flag_at old)) (λ flag. flagged item (λ after. items_at kind_of item n after) flag.0 flag.1) (xs, new) e in
      let s = flags.found a.0.0 old a.0.1 (here_ok kind_of old.at (flag_at old) a.0 a.1) in
      flagged_found (λ after. items_at kind_of item n after) (items_found n) a.0.0 old a.0.1 s xs new a.2

-- a list that stands at the front is read
module _ {A K : Type 0} (kind_of : XdrFault → K) (Item : List ℕ → A → Type 0) (item : Unread → Result (A × Unread) (At K))
    (again : (x : A) (old new : Unread) → Stands (λ front. Item front x) old new → item old ≡ Ok (x, new)) where
  pub items_again : (n : ℕ) (xs : List A) (old new : Unread) → length old.rest ≤ n → Stands (IsList Item xs) old new → items_at kind_of item n old ≡ Ok (xs, new)
  items_again zero [] old new room s = let all = flag_before false old new s in absurd (omega arith)
  items_again zero (x ∷ xs) old new room s =
      let p = split old new s in
      let all = flag_before true old p.0 p.1 in absurd (omega arith)
  items_again (suc n) [] old new room s = rw (flags.again false old new s) refl
  items_again (suc n) (x ∷ xs) old new room s =
      let p = split old new s in
      let q = split p.0 new p.2 in
      let left : length q.0.rest ≤ n = let all = flag_before true old p.0 p.1 in let less = before p.0 q.0 q.1 in omega arith in
      rw (flags.again true old p.0 p.1, again x p.0 q.0 q.1, items_again n xs q.0 new left q.2) refl

-- the fault that is met in a list is one
module _ {A K : Type 0} (kind_of : XdrFault → K) (Item : List ℕ → A → Type 0) (ItemFails : Unread → At K → Type 0) (item : Unread → Result (A × Unread) (At K))
    (found : (x : A) (old new : Unread) → item old ≡ Ok (x, new) → Stands (λ front. Item front x) old new)
    (fault : (unread : Unread) (f : At K) → item unread ≡ Err f → ItemFails unread f) where
  flagged_fault : (n : ℕ) (flag : Bool) (old after : Unread) → length old.rest ≤ suc n → Stands (λ front. IsFlag front flag) old after → (f : At K)
      → (rest_fault : (unread : Unread) → length unread.rest ≤ n → items_at kind_of item n unread ≡ Err f → (xs : List A) × ListFails kind_of Item ItemFails xs unread f)
      → flagged item (λ u. items_at kind_of item n u) flag after ≡ Err f → (xs : List A) × ListFails kind_of Item ItemFails xs old f
  flagged_fault n false old after room s f rest_fault e = absurd cc
  flagged_fault n true old after room s f rest_fault e =
      elim (bound_err (item after) (λ x. with_first x.0 (items_at kind_of item n x.1)) f e) [
        | inl wrong ↦ ([], inr (after, s, fault after f wrong))
        | inr a ↦
            let one = found a.0.0 after a.0.1 a.1 in
            let left : length a.0.1.rest ≤ n = let all = flag_before true old after s in let less = before after a.0.1 one in omega arith in
            let r = rest_fault a.0.1 left (first_err a.0.0 (items_at kind_of item n a.0.1) f a.2) in
            (a.0.0 ∷ r.0, (after, a.0.1, s, one, r.1))
      ]

  pub items_fault : (n : ℕ) (unread : Unread) (f : At K) → length unread.rest ≤ n → items_at kind_of item n unread ≡ Err f → (xs : List A) × ListFails kind_of Item ItemFails xs unread f
  items_fault zero unread f room e =
      let short : length unread.rest < 4 = omega arith in
      let is : f ≡ fault_at unread.at (kind_of Short) = cc in
      ([], inl (record { name = Short; item = inl (short, refl); is = is }))
  items_fault (suc n) unread f room e =
      elim (bound_err (item_here kind_of unread.at (flag_at unread)) (λ flag. flagged item (λ after. items_at kind_of item n after) flag.0 flag.1) f e) [
        | inl wrong ↦
            let h = here_err kind_of unread.at (flag_at unread) f wrong in
            ([], inl (record { name = h.0; item = flags.fault unread h.0 h.1; is = h.2 }))
        | inr a ↦
            let s = flags.found a.0.0 unread a.0.1 (here_ok kind_of unread.at (flag_at unread) a.0 a.1) in
            flagged_fault n a.0.0 unread a.0.1 room s f (λ u left e'. items_fault n u f left e') a.2
      ]

-- no flag is left
short_flag : {K : Type 0} (kind_of : XdrFault → K) (unread : Unread) (f : At K) → length unread.rest ≤ 0 → FailsHere kind_of FlagFails unread f → f ≡ fault_at unread.at (kind_of Short)
short_flag kind_of unread f room h =
    elim h.item [
      | inl short ↦ h.is ∙ ap (λ (name : XdrFault). fault_at unread.at (kind_of name)) short.1
      | inr w ↦ let all = length_before unread w.1 w.2 in absurd (omega (arith, w.2.item.four))
    ]

-- the fault of a list is met
module _ {A K : Type 0} (kind_of : XdrFault → K) (Item : List ℕ → A → Type 0) (ItemFails : Unread → At K → Type 0) (item : Unread → Result (A × Unread) (At K))
    (again : (x : A) (old new : Unread) → Stands (λ front. Item front x) old new → item old ≡ Ok (x, new))
    (fails : (unread : Unread) (f : At K) → ItemFails unread f → item unread ≡ Err f) where
  pub items_fails : (n : ℕ) (xs : List A) (unread : Unread) (f : At K) → length unread.rest ≤ n → ListFails kind_of Item ItemFails xs unread f → items_at kind_of item n unread ≡ Err f
  items_fails zero [] unread f room (inl h) = ap (λ (g : At K). Err g) (sym (short_flag kind_of unread f room h))
  items_fails zero [] unread f room (inr h) = let all = flag_before true unread h.0 h.1 in absurd (omega arith)
  items_fails zero (x ∷ xs) unread f room h = let all = flag_before true unread h.0 h.2 in absurd (omega arith)
  items_fails (suc n) [] unread f room (inl h) = rw (flags.fails unread h.name h.item, h.is) refl
  items_fails (suc n) [] unread f room (inr h) = rw (flags.again true unread h.0 h.1, fails h.0 f h.2) refl
  items_fails (suc n) (x ∷ xs) unread f room h =
      let left : length h.1.rest ≤ n = let all = flag_before true unread h.0 h.2 in let less = before h.0 h.1 h.3 in omega arith in
      rw (flags.again true unread h.0 h.2, again x h.0 h.1 h.3, items_fails n xs h.1 f left h.4) refl
