-- How the code scans a record, and that bytes are split into records in one way.
use Rattle.std.proofs.Common.{◌≡◌, ◌<◌, ◌≤◌, inl, inr, ℕ, ◌+◌, ◌-◌, Bool, true, false, List, [], ◌∷◌, ◌++◌, length, take, drop, get_or, refl, sym, ap, subst, ◌∙◌, append_assoc, arith}
use Rattle.std.specs.List.{concat}
use Rattle.std.proofs.lemmas.List.{append-nil, length-append, length-take-le, length-drop, take_at, drop_at, take-append-drop, get_or-drop}
use Rattle.std.proofs.Math.Seq.{take-add}
use Rattle.byteorder.specs.Endian.{big_number}
use Rattle.byteorder.specs.Numbers.{big_from-take}
use Rattle.xdr_records.specs.Items.{word_of}
use Rattle.xdr_records.specs.Record.{IsHeader, IsFragment, IsRecord, AreRecords, Begun, IsPart, PassesLimit, IsUnfinished, IsTooLong, IsSplit, record_text, record_limit}
use Rattle.xdr_records.specs.Texts.{word_text}
use Rattle.xdr_records.specs.Scan.{Passed, EndsAt}
use Rattle.xdr_records.proofs.Written.{word_spelled}
use Rattle.xdr_records.proofs.Marks.{same_headers, same_fragments, fragment_at, length-fragment, length-concat-push, fragments_push, Stops, last_stops, part_stops, past_stops, same_begin}

-- the word at a place, from its bytes
pub word_between : (xs : List ℕ) (at b0 b1 b2 b3 : ℕ) → b0 ≡ get_or xs at 0 → b1 ≡ get_or xs (at + 1) 0 → b2 ≡ get_or xs (at + 2) 0 → b3 ≡ get_or xs (at + 3) 0
    → word_of (take 4 (drop at xs)) ≡ big_number 4 (b0 ∷ b1 ∷ b2 ∷ b3 ∷ [])
unfolding word_of
word_between xs at b0 b1 b2 b3 h0 h1 h2 h3 =
    let first : at + 0 ≡ at = omega arith in
    let d0 : get_or (drop at xs) 0 0 ≡ b0 = get_or-drop at xs 0 0 ∙ ap (λ (k : ℕ). get_or xs k 0) first ∙ sym h0 in
    let d1 : get_or (drop at xs) 1 0 ≡ b1 = get_or-drop at xs 1 0 ∙ sym h1 in
    let d2 : get_or (drop at xs) 2 0 ≡ b2 = get_or-drop at xs 2 0 ∙ sym h2 in
    let d3 : get_or (drop at xs) 3 0 ≡ b3 = get_or-drop at xs 3 0 ∙ sym h3 in
    big_from-take 0 4 4 (drop at xs) (omega arith) ∙ rw (d0, d1, d2, d3) refl

-- ---- a scan

-- what stands behind the fragments that are passed
pub back_is : {Next : ℕ → List ℕ → Type 0} {at size : ℕ} {bytes : List ℕ} (b : Begun Next at size bytes) → drop at bytes ≡ b.back
back_is {at = at} b = ap (drop at) b.parts ∙ drop_at b.front b.back at b.at_is

pub at_within : {Next : ℕ → List ℕ → Type 0} {at size : ℕ} {bytes : List ℕ} (b : Begun Next at size bytes) → at ≤ length bytes
at_within b = let e = ap length b.parts ∙ length-append b.front b.back in omega (arith, b.at_is)

-- the same fragments, with what is known of the bytes behind them
pub begun_as : {Next : ℕ → List ℕ → Type 0} {at size : ℕ} {bytes : List ℕ} → Passed at size bytes → Next size (drop at bytes) → Begun Next at size bytes
begun_as {Next = Next} {size = size} b next =
    record {
      contents = b.contents;
      front = b.front;
      back = b.back;
      parts = b.parts;
      fragments = b.fragments;
      at_is = b.at_is;
      size_is = b.size_is;
      within = b.within;
      next = subst (λ (x : List ℕ). Next size x) (back_is b) next;
    }

-- the beginning of a record
pub passed_none : (bytes : List ℕ) → Passed 0 0 bytes
passed_none bytes =
    record { contents = []; front = []; back = bytes; parts = refl; fragments = refl; at_is = refl; size_is = refl; within = omega arith; next = tt }

-- nothing of a record
pub unfinished_none : Begun IsPart 0 0 []
unfinished_none = begun_as (passed_none []) (inl (omega arith))

module _ {at size : ℕ} {bytes : List ℕ} (b : Passed at size bytes) where
  -- no whole header
  pub scan_short : length bytes - at < 4 → Begun IsPart at size bytes
  scan_short short = begun_as b (inl (let e = length-drop at bytes in omega arith))

  module _ (l : Bool) (n : ℕ) (says : IsHeader l n (take 4 (drop at bytes))) where
    -- a header past the limit
    pub scan_past : record_limit < size + n → Begun PassesLimit at size bytes
    scan_past past =
        begun_as b (record { last = l; n = n; header = take 4 (drop at bytes); behind = drop 4 (drop at bytes); parts = sym (take-append-drop 4 (drop at bytes)); says = says; past = past })

    -- bytes are missing
    pub scan_lacks : length bytes - at - 4 < n → size + n ≤ record_limit → Begun IsPart at size bytes
    scan_lacks lacks within =
        let body : length (drop 4 (drop at bytes)) < n = let e = length-drop at bytes in let f = length-drop 4 (drop at bytes) in omega arith in
        begun_as b (inr (record { last = l; n = n; header = take 4 (drop at bytes); body = drop 4 (drop at bytes); parts = sym (take-append-drop 4 (drop at bytes)); says = says; lacks = body; within = within }))

  -- a fragment that goes on
  pub scan_next : (n : ℕ) → IsHeader false n (take 4 (drop at bytes)) → 4 ≤ length bytes - at → n ≤ length bytes - at - 4 → size + n ≤ record_limit → Passed (at + (4 + n)) (size + n) bytes
  scan_next n says four long within =
      let back = drop at bytes in
      let all = length-drop at bytes in
      let fits : 4 + n ≤ length back = omega arith in
      let f = fragment_at false n back says fits in
      let content = take n (drop 4 back) in
      let content_long : length content ≡ n = length-take-le n (drop 4 back) (let e = length-drop 4 back in omega arith) in
      let front_long : length (take (4 + n) back) ≡ 4 + n = length-take-le (4 + n) back fits in
      record {
        contents = b.contents ++ content ∷ [];
        front = b.front ++ take (4 + n) back;
        back = drop (4 + n) back;
        parts = b.parts ∙ ap (λ (x : List ℕ). b.front ++ x) (sym (back_is b) ∙ sym (take-append-drop (4 + n) back)) ∙ sym (append_assoc b.front (take (4 + n) back) (drop (4 + n) back));
        fragments = fragments_push b.contents content b.front (take (4 + n) back) b.fragments f;
        at_is = let e = length-append b.front (take (4 + n) back) in omega (arith, b.at_is);
        size_is = let e = ap length (length-concat-push b.contents content) ∙ length-append (concat b.contents) content in omega (arith, b.size_is);
        within = within;
        next = tt;
      }

  -- the last fragment
  pub scan_last : (n : ℕ) → IsHeader true n (take 4 (drop at bytes)) → 4 ≤ length bytes - at → n ≤ length bytes - at - 4 → size + n ≤ record_limit → EndsAt (at + (4 + n)) (size + n) bytes
  scan_last n says four long within =
      let back = drop at bytes in
      let all = length-drop at bytes in
      let fits : 4 + n ≤ length back = omega arith in
      let f = fragment_at true n back says fits in
      let content = take n (drop 4 back) in
      let content_long : length content ≡ n = length-take-le n (drop 4 back) (let e = length-drop 4 back in omega arith) in
      let sum = length-append (concat b.contents) content in
      let whole : take (at + (4 + n)) bytes ≡ b.front ++ take (4 + n) back =
      take-add at (4 + n) bytes ∙ ap (λ (x : List ℕ). x ++ take (4 + n) back) (ap (take at) b.parts ∙ take_at b.front b.back at b.at_is) in
      record {
        content = concat b.contents ++ content;
        within = let h = at_within b in omega arith;
        whole = record {
          contents = b.contents;
          last = content;
          spelled = record { front = b.front; back = take (4 + n) back; parts = whole; first = b.fragments; others = f };
          joined = refl;
          limit = omega (arith, b.size_is);
        };
        size_is = omega (arith, b.size_is);
      }

-- ---- one way

-- records at the front of the same bytes
pub same_record : (f f' c c' m m' : List ℕ) → IsRecord f c → IsRecord f' c' → f ++ m ≡ f' ++ m' → (c ≡ c') × (f ≡ f') × (m ≡ m')
same_record f f' c c' m m' a b e =
    let p = a.spelled in
    let q = b.spelled in
    let long : p.front ++ (p.back ++ m) ≡ q.front ++ (q.back ++ m') =
    sym (append_assoc p.front p.back m) ∙ ap (λ (x : List ℕ). x ++ m) (sym p.parts) ∙ e ∙ ap (λ (x : List ℕ). x ++ m') q.parts ∙ append_assoc q.front q.back m' in
    let size = ap length a.joined ∙ length-append (concat a.contents) a.last in
    let size' = ap length b.joined ∙ length-append (concat b.contents) b.last in
    let s = same_begin 0 a.contents b.contents p.front q.front (p.back ++ m) (q.back ++ m') p.first q.first (omega (arith, a.limit)) (omega (arith, b.limit))
    (last_stops (0 + length (concat a.contents)) p.back a.last m p.others) (last_stops (0 + length (concat b.contents)) q.back b.last m' q.others) long in
    let t = same_fragments p.back q.back a.last b.last m m' p.others q.others s.2 in (
      a.joined ∙ ap (λ (xs : List (List ℕ)). concat xs ++ a.last) s.0 ∙ ap (λ (x : List ℕ). concat b.contents ++ x) t.1 ∙ sym b.joined,
      p.parts ∙ ap (λ (x : List ℕ). x ++ p.back) s.1 ∙ ap (λ (x : List ℕ). q.front ++ x) t.2 ∙ sym q.parts,
      t.3,
    )

-- a record that is begun
abbrev IsStop : (ℕ → List ℕ → Type 0) → Type 0
IsStop Next = (size : ℕ) (bytes : List ℕ) → Next size bytes → Stops size bytes

begun_limit : {Next : ℕ → List ℕ → Type 0} {at size : ℕ} {bytes : List ℕ} (b : Begun Next at size bytes) → 0 + length (concat b.contents) ≤ record_limit
begun_limit b = omega (arith, b.within, b.size_is)

begun_stops : {Next : ℕ → List ℕ → Type 0} {at size : ℕ} {bytes : List ℕ} → IsStop Next → (b : Begun Next at size bytes) → Stops (0 + length (concat b.contents)) b.back
begun_stops {size = size} stop b = subst (λ (k : ℕ). Stops k b.back) (let e : size ≡ 0 + length (concat b.contents) = omega (arith, b.size_is) in e) (stop size b.back b.next)

-- no front of it is a whole record, where what stands last is none
pub no_record : {Next : ℕ → List ℕ → Type 0} {at size : ℕ} {bytes : List ℕ} → IsStop Next → ((size : ℕ) (f x m : List ℕ) → Next size (f ++ m) → IsFragment true f x → size + length x ≤ record_limit → ⊥)
    → Begun Next at size bytes → (f c m : List ℕ) → IsRecord f c → bytes ≡ f ++ m → ⊥
no_record {Next = Next} {size = size} stop not_last b f c m r e =
    let q = r.spelled in
    let long : b.front ++ b.back ≡ q.front ++ (q.back ++ m) =
    sym b.parts ∙ e ∙ ap (λ (x : List ℕ). x ++ m) q.parts ∙ append_assoc q.front q.back m in
    let sum = ap length r.joined ∙ length-append (concat r.contents) r.last in
    let s = same_begin 0 b.contents r.contents b.front q.front b.back (q.back ++ m) b.fragments q.first (begun_limit b) (omega (arith, r.limit))
    (begun_stops stop b) (last_stops (0 + length (concat r.contents)) q.back r.last m q.others) long in
    let same_size = ap (λ (xs : List (List ℕ)). length (concat xs)) s.0 in
    not_last size q.back r.last m (subst (λ (x : List ℕ). Next size x) s.2 b.next) q.others (omega (arith, b.size_is, r.limit))

part_not_last : (size : ℕ) (f x m : List ℕ) → IsPart size (f ++ m) → IsFragment true f x → size + length x ≤ record_limit → ⊥
part_not_last size f x m (inl short) a within =
    let all = length-append f m in let long = length-fragment a in omega arith
part_not_last size f x m (inr p) a within =
    let long : p.header ++ p.body ≡ a.header ++ (x ++ m) = sym p.parts ∙ ap (λ (y : List ℕ). y ++ m) a.parts ∙ append_assoc a.header x m in
    let h = same_headers p.header a.header p.body (x ++ m) p.says a.says long in
    let all = ap length h.3 ∙ length-append x m in
    omega (arith, p.lacks, h.1)

past_not_last : (size : ℕ) (f x m : List ℕ) → PassesLimit size (f ++ m) → IsFragment true f x → size + length x ≤ record_limit → ⊥
past_not_last size f x m p a within =
    let long : p.header ++ p.behind ≡ a.header ++ (x ++ m) = sym p.parts ∙ ap (λ (y : List ℕ). y ++ m) a.parts ∙ append_assoc a.header x m in
    let h = same_headers p.header a.header p.behind (x ++ m) p.says a.says long in
    omega (arith, p.past, h.1)

-- no front of a record that is begun is a whole record
pub unfinished_no_record : (bytes : List ℕ) → IsUnfinished bytes → (f c m : List ℕ) → IsRecord f c → bytes ≡ f ++ m → ⊥
unfinished_no_record bytes b = no_record part_stops part_not_last b.2

pub too_long_no_record : (bytes : List ℕ) → IsTooLong bytes → (f c m : List ℕ) → IsRecord f c → bytes ≡ f ++ m → ⊥
too_long_no_record bytes b = no_record past_stops past_not_last b.2

-- a record that is begun has no header past the limit
pub not_both : (bytes : List ℕ) → IsUnfinished bytes → IsTooLong bytes → ⊥
not_both bytes a b =
    let p = a.2 in
    let q = b.2 in
    let s = same_begin 0 p.contents q.contents p.front q.front p.back q.back p.fragments q.fragments (begun_limit p) (begun_limit q)
    (begun_stops part_stops p) (begun_stops past_stops q) (sym p.parts ∙ q.parts) in
    let same_size : a.1 ≡ b.1 = sym p.size_is ∙ ap (λ (xs : List (List ℕ)). length (concat xs)) s.0 ∙ q.size_is in
    let n = q.next in
    elim p.next [
      | inl short ↦ let all = ap length (s.2 ∙ n.parts) ∙ length-append n.header n.behind in omega (arith, n.says.word.four)
      | inr l ↦
          let h = same_headers l.header n.header l.body n.behind l.says n.says (sym l.parts ∙ s.2 ∙ n.parts) in
          omega (arith, l.within, n.past, h.1)
    ]

-- the same records are split from the same bytes, and the same rest
pub same_split : (Rest Rest' : List ℕ → Type 0) → ((bytes : List ℕ) → Rest bytes → (f c m : List ℕ) → IsRecord f c → bytes ≡ f ++ m → ⊥) → ((bytes : List ℕ) → Rest' bytes → (f c m : List ℕ) → IsRecord f c → bytes ≡ f ++ m → ⊥)
    → (bytes : List ℕ) (rs rs' : List (List ℕ)) (rest rest' : List ℕ) → IsSplit Rest bytes rs rest → IsSplit Rest' bytes rs' rest' → (rs ≡ rs') × (rest ≡ rest')
same_split Rest Rest' none none' bytes [] [] rest rest' a b =
    let p : rest ≡ bytes = sym (a.parts ∙ ap (λ (x : List ℕ). x ++ rest) a.whole) in
    let q : rest' ≡ bytes = sym (b.parts ∙ ap (λ (x : List ℕ). x ++ rest') b.whole) in
    (refl, p ∙ sym q)
same_split Rest Rest' none none' bytes [] (r ∷ rs) rest rest' a b =
    let p : rest ≡ bytes = sym (a.parts ∙ ap (λ (x : List ℕ). x ++ rest) a.whole) in
    let w = b.whole in
    absurd (none rest a.left w.front r (w.back ++ rest') w.first (p ∙ b.parts ∙ ap (λ (x : List ℕ). x ++ rest') w.parts ∙ append_assoc w.front w.back rest'))
same_split Rest Rest' none none' bytes (r ∷ rs) [] rest rest' a b =
    let q : rest' ≡ bytes = sym (b.parts ∙ ap (λ (x : List ℕ). x ++ rest') b.whole) in
    let w = a.whole in
    absurd (none' rest' b.left w.front r (w.back ++ rest) w.first (q ∙ a.parts ∙ ap (λ (x : List ℕ). x ++ rest) w.parts ∙ append_assoc w.front w.back rest))
same_split Rest Rest' none none' bytes (r ∷ rs) (r' ∷ rs') rest rest' a b =
    let v = a.whole in
    let w = b.whole in
    let long : v.front ++ (v.back ++ rest) ≡ w.front ++ (w.back ++ rest') =
    sym (append_assoc v.front v.back rest) ∙ ap (λ (x : List ℕ). x ++ rest) (sym v.parts) ∙ sym a.parts ∙ b.parts ∙ ap (λ (x : List ℕ). x ++ rest') w.parts ∙ append_assoc w.front w.back rest' in
    let s = same_record v.front w.front r r' (v.back ++ rest) (w.back ++ rest') v.first w.first long in
    let more = same_split Rest Rest' none none' (v.back ++ rest) rs rs' rest rest'
    (record { front = v.back; parts = refl; whole = v.others; left = a.left })
    (record { front = w.back; parts = s.2; whole = w.others; left = b.left }) in
    (ap (λ (x : List ℕ). x ∷ rs) s.0 ∙ ap (λ (xs : List (List ℕ)). r' ∷ xs) more.0, more.1)

-- records, and records behind them
pub records_join : (rs rs' : List (List ℕ)) (front back : List ℕ) → AreRecords rs front → AreRecords rs' back → AreRecords (rs ++ rs') (front ++ back)
records_join [] rs' front back a b = subst (λ (x : List ℕ). AreRecords rs' x) (ap (λ (x : List ℕ). x ++ back) (sym a)) b
records_join (r ∷ rs) rs' front back a b =
    record {
      front = a.front;
      back = a.back ++ back;
      parts = ap (λ (x : List ℕ). x ++ back) a.parts ∙ append_assoc a.front a.back back;
      first = a.first;
      others = records_join rs rs' a.back back a.others b;
    }

-- bytes that go on behind whole records
pub split_join : (Rest Rest' : List ℕ → Type 0) (bytes piece rest rest' : List ℕ) (rs rs' : List (List ℕ)) → IsSplit Rest bytes rs rest → IsSplit Rest' (rest ++ piece) rs' rest' → IsSplit Rest' (bytes ++ piece) (rs ++ rs') rest'
split_join Rest Rest' bytes piece rest rest' rs rs' a b =
    record {
      front = a.front ++ b.front;
      parts = ap (λ (x : List ℕ). x ++ piece) a.parts ∙ append_assoc a.front rest piece ∙ ap (λ (x : List ℕ). a.front ++ x) b.parts ∙ sym (append_assoc a.front b.front rest');
      whole = records_join rs rs' a.front b.front a.whole b.whole;
      left = b.left;
    }

-- ---- one fragment

pub framed : (content : List ℕ) → length content ≤ record_limit → IsRecord (record_text content) content
framed content fits =
    let header : IsHeader true (length content) (word_text (2147483648 + length content)) =
    record { word = word_spelled (2147483648 + length content) (omega arith); small = omega arith } in
    record {
      contents = [];
      last = content;
      spelled = record { front = []; back = record_text content; parts = refl; first = refl; others = record { header = word_text (2147483648 + length content); parts = refl; says = header } };
      joined = refl;
      limit = fits;
    }

pub framed_split : (content : List ℕ) → length content ≤ record_limit → IsSplit IsUnfinished (record_text content) (content ∷ []) []
framed_split content fits =
    record {
      front = record_text content;
      parts = sym (append-nil (record_text content));
      whole = record { front = record_text content; back = []; parts = sym (append-nil (record_text content)); first = framed content fits; others = refl };
      left = (0, 0, unfinished_none);
    }
