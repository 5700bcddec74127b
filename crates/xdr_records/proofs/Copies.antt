-- How the code copies the content of a record that is whole, and bytes of two slices.
use Rattle.std.proofs.Common.{◌≡◌, ◌≤◌, inl, inr, ℕ, ◌+◌, ◌-◌, Bool, true, false, cond, List, [], ◌∷◌, ◌++◌, length, take, drop, min, Result, Ok, Err, is_ok, OnOk, refl, sym, ap, subst, ◌∙◌, append_assoc, arith}
use Rattle.std.specs.List.{concat}
use Rattle.std.proofs.lemmas.List.{append-nil, length-append, length-take-le, length-drop, take_at, drop_at, take_all, drop_all, drop-drop, take-append-drop, take-append-le, drop-append-le}
use Rattle.std.proofs.lemmas.Bool.{cases_lt}
use Rattle.std.proofs.Math.Seq.{take-add, take-append-add, drop-append-add}
use Rattle.xdr_records.specs.Spelling.{Joined}
use Rattle.xdr_records.specs.Record.{IsHeader, IsFragment, AreFragments, IsRecord, AreRecords}
use Rattle.xdr_records.specs.Scan.{EndsAt}
use Rattle.xdr_records.specs.Splits.{Follows}
use Rattle.xdr_records.proofs.Splitting.{records_join}
use Rattle.xdr_records.proofs.Marks.{same_headers, length-fragment}

-- behind `at` bytes stand the fragments that are still to be copied, up to the record's end
pub record ToCopy (at end : ℕ) (out bytes : List ℕ) : Type 0 where
  pub before : List ℕ
  pub left : List ℕ
  pub after : List ℕ
  pub contents : List (List ℕ)
  pub last : List ℕ
  pub parts : bytes ≡ before ++ (left ++ after)
  pub at_is : length before ≡ at
  pub end_is : at + length left ≡ end
  pub spelled : Joined (AreFragments contents) (λ back. IsFragment true back last) left
  pub whole : IsRecord (take end bytes) (out ++ (concat contents ++ last))

-- before the first is copied
pub copy_none : (end size : ℕ) (bytes : List ℕ) → EndsAt end size bytes → ToCopy 0 end [] bytes
copy_none end size bytes e =
    let w = e.whole in
    record {
      before = [];
      left = take end bytes;
      after = drop end bytes;
      contents = w.contents;
      last = w.last;
      parts = sym (take-append-drop end bytes);
      at_is = refl;
      end_is = let long = length-take-le end bytes e.within in omega (arith, long);
      spelled = w.spelled;
      whole = subst (λ (x : List ℕ). IsRecord (take end bytes) x) w.joined w;
    }

-- the fragment at a place
pub record Here (l' : Bool) (at n : ℕ) (l : Bool) (x : List ℕ) (bytes : List ℕ) : Type 0 where
  pub same : l ≡ l'
  pub size : n ≡ length x
  pub text : take (at + 4 + n - (at + 4)) (drop (at + 4) bytes) ≡ x

here : (at n : ℕ) (l l' : Bool) (before f x m after bytes : List ℕ) → bytes ≡ before ++ ((f ++ m) ++ after) → length before ≡ at → IsFragment l' f x → IsHeader l n (take 4 (drop at bytes)) → Here l' at n l x bytes
here at n l l' before f x m after bytes parts at_is a says =
    let back : drop at bytes ≡ a.header ++ (x ++ (m ++ after)) =
    ap (drop at) parts ∙ drop_at before ((f ++ m) ++ after) at at_is ∙ append_assoc f m after ∙ ap (λ (y : List ℕ). y ++ (m ++ after)) a.parts ∙ append_assoc a.header x (m ++ after) in
    let h = same_headers (take 4 (drop at bytes)) a.header (drop 4 (drop at bytes)) (x ++ (m ++ after)) says a.says (take-append-drop 4 (drop at bytes) ∙ back) in
    let count : at + 4 + n - (at + 4) ≡ n = omega arith in
    record {
      same = h.0;
      size = h.1;
      text = ap (λ (k : ℕ). take k (drop (at + 4) bytes)) count ∙ ap (take n) (sym (drop-drop 4 at bytes)) ∙ ap (take n) h.3 ∙ take_at x (m ++ after) n (sym h.1);
    }

-- a step of the copy, behind the header at its place
pub record Copied (at end n : ℕ) (l : Bool) (out bytes : List ℕ) : Type 0 where
  pub room : at + 4 + n ≤ end
  pub done : l ≡ true → IsRecord (take end bytes) (out ++ take (at + 4 + n - (at + 4)) (drop (at + 4) bytes))
  pub more : l ≡ false → ToCopy (at + (4 + n)) end (out ++ take (at + 4 + n - (at + 4)) (drop (at + 4) bytes)) bytes

copied : (at end n : ℕ) (l : Bool) (out bytes before left after : List ℕ) (contents : List (List ℕ)) (last : List ℕ) → bytes ≡ before ++ (left ++ after) → length before ≡ at → at + length left ≡ end
    → Joined (AreFragments contents) (λ back. IsFragment true back last) left → IsRecord (take end bytes) (out ++ (concat contents ++ last)) → IsHeader l n (take 4 (drop at bytes)) → Copied at end n l out bytes
copied at end n l out bytes before left after [] last parts at_is end_is s whole says =
    let one : left ≡ s.back ++ [] = s.parts ∙ ap (λ (y : List ℕ). y ++ s.back) s.first ∙ sym (append-nil s.back) in
    let h = here at n l true before s.back last [] after bytes (parts ∙ ap (λ (y : List ℕ). before ++ (y ++ after)) one) at_is s.others says in
    let long = length-fragment s.others in
    let all = ap length one ∙ length-append s.back [] in
    record {
      room = omega (arith, h.size);
      done = λ e. subst (λ (y : List ℕ). IsRecord (take end bytes) (out ++ y)) (sym h.text) whole;
      more = λ e. absurd (let t = h.same in cc);
    }
copied at end n l out bytes before left after (x ∷ xs) last parts at_is end_is s whole says =
    let j = s.first in
    let one : left ≡ j.front ++ (j.back ++ s.back) = s.parts ∙ ap (λ (y : List ℕ). y ++ s.back) j.parts ∙ append_assoc j.front j.back s.back in
    let h = here at n l false before j.front x (j.back ++ s.back) after bytes (parts ∙ ap (λ (y : List ℕ). before ++ (y ++ after)) one) at_is j.first says in
    let long = length-fragment j.first in
    let all = ap length one ∙ length-append j.front (j.back ++ s.back) in
    let grown : out ++ (concat (x ∷ xs) ++ last) ≡ (out ++ take (at + 4 + n - (at + 4)) (drop (at + 4) bytes)) ++ (concat xs ++ last) =
    ap (λ (y : List ℕ). out ++ y) (append_assoc x (concat xs) last) ∙ sym (append_assoc out x (concat xs ++ last)) ∙ ap (λ (y : List ℕ). (out ++ y) ++ (concat xs ++ last)) (sym h.text) in
    record {
      room = omega (arith, h.size);
      done = λ e. absurd (let t = h.same in cc);
      more = λ e. record {
        before = before ++ j.front;
        left = j.back ++ s.back;
        after = after;
        contents = xs;
        last = last;
        parts = parts ∙ ap (λ (y : List ℕ). before ++ (y ++ after)) one ∙ ap (λ (y : List ℕ). before ++ y) (append_assoc j.front (j.back ++ s.back) after) ∙ sym (append_assoc before j.front ((j.back ++ s.back) ++ after));
        at_is = let g = length-append before j.front in omega (arith, h.size);
        end_is = omega (arith, h.size);
        spelled = record { front = j.back; back = s.back; parts = refl; first = j.others; others = s.others };
        whole = subst (λ (y : List ℕ). IsRecord (take end bytes) y) grown whole;
      };
    }

pub copy_step : {at end : ℕ} {out bytes : List ℕ} (n : ℕ) (l : Bool) → ToCopy at end out bytes → IsHeader l n (take 4 (drop at bytes)) → Copied at end n l out bytes
copy_step {at = at} {end = end} {out = out} {bytes = bytes} n l r says =
    copied at end n l out bytes r.before r.left r.after r.contents r.last r.parts r.at_is r.end_is r.spelled r.whole says

-- there is a header
header_long : (contents : List (List ℕ)) (last left : List ℕ) → Joined (AreFragments contents) (λ back. IsFragment true back last) left → 4 ≤ length left
header_long [] last left s =
    let all = ap length s.parts ∙ length-append s.front s.back in let long = length-fragment s.others in omega arith
header_long (x ∷ xs) last left s =
    let j = s.first in
    let all = ap length s.parts ∙ length-append s.front s.back in
    let front = ap length j.parts ∙ length-append j.front j.back in
    let long = length-fragment j.first in omega arith

pub copy_room : {at end : ℕ} {out bytes : List ℕ} → ToCopy at end out bytes → (at + 4 ≤ end) × (end ≤ length bytes)
copy_room {bytes = bytes} r =
    let long = header_long r.contents r.last r.left r.spelled in
    let all = ap length r.parts ∙ length-append r.before (r.left ++ r.after) in
    let more = length-append r.left r.after in
    (omega (arith, r.end_is), omega (arith, r.end_is, r.at_is))

-- ---- bytes of two slices

take_both : (n : ℕ) (a b : List ℕ) → take n (a ++ b) ≡ take n a ++ take (n - length a) b
take_both n a b =
    elim (cases_lt n (length a)) [
      | inl h ↦
          let none : n - length a ≡ 0 = omega arith in
          take-append-le n a b (omega arith) ∙ sym (append-nil (take n a)) ∙ ap (λ (k : ℕ). take n a ++ take k b) (sym none)
      | inr h ↦
          let all : take n a ≡ a = take_all n a (omega arith) in
          let count : n ≡ length a + (n - length a) = omega arith in
          ap (λ (k : ℕ). take k (a ++ b)) count ∙ take-append-add a b (n - length a) ∙ ap (λ (y : List ℕ). y ++ take (n - length a) b) (sym all)
    ]

drop_both : (n : ℕ) (a b : List ℕ) → drop n (a ++ b) ≡ drop n a ++ drop (n - length a) b
drop_both n a b =
    elim (cases_lt n (length a)) [
      | inl h ↦
          let none : n - length a ≡ 0 = omega arith in
          drop-append-le n a b (omega arith) ∙ ap (λ (k : ℕ). drop n a ++ drop k b) (sym none)
      | inr h ↦
          let all : drop n a ≡ [] = drop_all n a (omega arith) in
          let count : n ≡ length a + (n - length a) = omega arith in
          ap (λ (k : ℕ). drop k (a ++ b)) count ∙ drop-append-add a b (n - length a) ∙ ap (λ (y : List ℕ). y ++ drop (n - length a) b) (sym all)
    ]

-- the part of the first slice
front_part : (f t : ℕ) (a : List ℕ) → f ≤ t → take (min t (length a) - min f (length a)) (drop (min f (length a)) a) ≡ take (t - f) (drop f a)
front_part f t a h =
    elim (cases_lt f (length a)) [
      | inl g ↦
          let low : min f (length a) ≡ f = omega arith in
          elim (cases_lt t (length a)) [
            | inl k ↦ let high : min t (length a) ≡ t = omega arith in rw (low, high) refl
            | inr k ↦
                let long = length-drop f a in
                take_all (min t (length a) - min f (length a)) (drop (min f (length a)) a) (let e = length-drop (min f (length a)) a in omega arith)
                ∙ ap (λ (i : ℕ). drop i a) low ∙ sym (take_all (t - f) (drop f a) (omega arith))
          ]
      | inr g ↦
          let none : drop f a ≡ [] = drop_all f a (omega arith) in
          let none' : drop (min f (length a)) a ≡ [] = drop_all (min f (length a)) a (omega arith) in
          let long = length-drop f a in
          take_all (min t (length a) - min f (length a)) (drop (min f (length a)) a) (let e = length-drop (min f (length a)) a in omega arith)
          ∙ none' ∙ sym none ∙ sym (take_all (t - f) (drop f a) (omega arith))
    ]

-- the parts of both slices are the part of the whole
pub both_parts : (f t : ℕ) (a b : List ℕ) → f ≤ t
    → take (min t (length a) - min f (length a)) (drop (min f (length a)) a) ++ take ((t - length a) - (f - length a)) (drop (f - length a) b) ≡ take (t - f) (drop f (a ++ b))
both_parts f t a b h =
    let long = length-drop f a in
    let count : (t - f) - length (drop f a) ≡ (t - length a) - (f - length a) = omega arith in
    ap (λ (y : List ℕ). y ++ take ((t - length a) - (f - length a)) (drop (f - length a) b)) (front_part f t a h)
    ∙ ap (λ (k : ℕ). take (t - f) (drop f a) ++ take k (drop (f - length a) b)) (sym count)
    ∙ sym (take_both (t - f) (drop f a) (drop (f - length a) b))
    ∙ ap (take (t - f)) (sym (drop_both f a b))

-- both parts were appended
pub appended_both : {T E : Type 0} (r : Result T E) (out mid new a b xs : List ℕ) (f t m n i j : ℕ) → f ≤ t → a ++ b ≡ xs → m ≡ min f (length a) → n ≡ min t (length a) → i ≡ f - length a → j ≡ t - length a
    → mid ≡ out ++ take (n - m) (drop m a) → new ≡ cond (is_ok r) (mid ++ take (j - i) (drop i b)) mid → OnOk r (new ≡ out ++ take (t - f) (drop f xs))
appended_both (Ok x) out mid new a b xs f t m n i j h whole m_is n_is i_is j_is first second =
    let joined : take (n - m) (drop m a) ++ take (j - i) (drop i b) ≡ take (t - f) (drop f xs) =
    rw (m_is, n_is, i_is, j_is) (both_parts f t a b h) ∙ ap (λ (y : List ℕ). take (t - f) (drop f y)) whole in
    second ∙ ap (λ (y : List ℕ). y ++ take (j - i) (drop i b)) first ∙ append_assoc out (take (n - m) (drop m a)) (take (j - i) (drop i b)) ∙ ap (λ (y : List ℕ). out ++ y) joined
appended_both (Err e) out mid new a b xs f t m n i j h whole m_is n_is i_is j_is first second = tt

-- ---- records one behind the other

-- a whole record has a header
pub record_long : (f c : List ℕ) → IsRecord f c → 4 ≤ length f
record_long f c r = header_long r.contents r.last f r.spelled

-- one record more
pub follows_more : (first bytes : List ℕ) (used end size : ℕ) (records : List (List ℕ)) (c : List ℕ) → Follows first bytes used records → EndsAt end size (drop used bytes) → IsRecord (take end (drop used bytes)) c
    → Follows first bytes (used + end) (records ++ c ∷ [])
follows_more first bytes used end size records c f e r =
    let left = length-drop used bytes in
    record {
      others = f.others ++ c ∷ [];
      all = ap (λ (xs : List (List ℕ)). xs ++ c ∷ []) f.all;
      within = omega (arith, e.within, f.within);
      whole = subst (λ (x : List ℕ). AreRecords (f.others ++ c ∷ []) x) (sym (take-add used end bytes))
          (records_join f.others (c ∷ []) (take used bytes) (take end (drop used bytes)) f.whole
          (record { front = take end (drop used bytes); back = []; parts = sym (append-nil (take end (drop used bytes))); first = r; others = refl }));
    }

-- behind all of a front
pub drop_all_front : (n : ℕ) (a b : List ℕ) → length a ≤ n → drop n (a ++ b) ≡ drop (n - length a) b
drop_all_front n a b h = drop_both n a b ∙ ap (λ (y : List ℕ). y ++ drop (n - length a) b) (drop_all n a h)
