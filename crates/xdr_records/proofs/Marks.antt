-- Headers and fragments: each is what it is in one way, and how the code meets them.
use Rattle.std.proofs.Common.{◌≡◌, ◌<◌, ◌≤◌, inl, inr, ℕ, ◌+◌, Bool, true, false, List, [], ◌∷◌, ◌++◌, length, take, drop, refl, sym, ap, subst, ◌∙◌, append_assoc, arith}
use Rattle.std.specs.List.{concat}
use Rattle.std.proofs.lemmas.List.{append-nil, length-append, length-take-le, length-drop, take_at, drop_at, append_cancel_left}
use Rattle.std.proofs.Math.Seq.{take-add}
use Rattle.xdr_records.specs.Record.{mark, IsHeader, IsFragment, AreFragments, IsPart, PassesLimit, record_limit}

-- two parts of equal length on either side
pub same_parts : (a b c d : List ℕ) → length a ≡ length c → a ++ b ≡ c ++ d → (a ≡ c) × (b ≡ d)
same_parts a b c d long e =
    let front : a ≡ c = sym (take_at a b (length a) refl) ∙ ap (take (length a)) e ∙ take_at c d (length a) (sym long) in
    let back : b ≡ d = sym (drop_at a b (length a) refl) ∙ ap (drop (length a)) e ∙ drop_at c d (length a) (sym long) in
    (front, back)

-- a word is one header
pub same_marks : (l l' : Bool) (n n' : ℕ) → n < 2147483648 → n' < 2147483648 → mark l + n ≡ mark l' + n' → (l ≡ l') × (n ≡ n')
same_marks false false n n' s s' e = (refl, omega arith)
same_marks true true n n' s s' e = (refl, omega arith)
same_marks false true n n' s s' e = absurd (omega arith)
same_marks true false n n' s s' e = absurd (omega arith)

pub same_header : {l l' : Bool} {n n' : ℕ} {h : List ℕ} → IsHeader l n h → IsHeader l' n' h → (l ≡ l') × (n ≡ n')
same_header {l = l} {l' = l'} {n = n} {n' = n'} a b = same_marks l l' n n' a.small b.small (sym a.word.value ∙ b.word.value)

-- two headers at the front of the same bytes
pub same_headers : {l l' : Bool} {n n' : ℕ} (h h' m m' : List ℕ) → IsHeader l n h → IsHeader l' n' h' → h ++ m ≡ h' ++ m' → (l ≡ l') × (n ≡ n') × (h ≡ h') × (m ≡ m')
same_headers {l = l} {l' = l'} {n = n} {n' = n'} h h' m m' a b e =
    let parts = same_parts h m h' m' (a.word.four ∙ sym b.word.four) e in
    let b' : IsHeader l' n' h = subst (λ (x : List ℕ). IsHeader l' n' x) (sym parts.0) b in
    let says = same_header a b' in
    (says.0, says.1, parts.0, parts.1)

-- two fragments at the front of the same bytes
pub same_fragments : {l l' : Bool} (f f' x x' m m' : List ℕ) → IsFragment l f x → IsFragment l' f' x' → f ++ m ≡ f' ++ m' → (l ≡ l') × (x ≡ x') × (f ≡ f') × (m ≡ m')
same_fragments f f' x x' m m' a b e =
    let long : a.header ++ (x ++ m) ≡ b.header ++ (x' ++ m') =
    sym (append_assoc a.header x m) ∙ ap (λ (y : List ℕ). y ++ m) (sym a.parts) ∙ e ∙ ap (λ (y : List ℕ). y ++ m') b.parts ∙ append_assoc b.header x' m' in
    let h = same_headers a.header b.header (x ++ m) (x' ++ m') a.says b.says long in
    let c = same_parts x m x' m' h.1 h.3 in
    (h.0, c.0, a.parts ∙ ap (λ (y : List ℕ). y ++ x) h.2 ∙ ap (λ (y : List ℕ). b.header ++ y) c.0 ∙ sym b.parts, c.1)

-- what a header and the bytes behind it are
pub fragment_at : (l : Bool) (n : ℕ) (back : List ℕ) → IsHeader l n (take 4 back) → 4 + n ≤ length back → IsFragment l (take (4 + n) back) (take n (drop 4 back))
fragment_at l n back says long =
    let size : length (take n (drop 4 back)) ≡ n = length-take-le n (drop 4 back) (let e = length-drop 4 back in omega arith) in
    record {
      header = take 4 back;
      parts = take-add 4 n back;
      says = subst (λ (k : ℕ). IsHeader l k (take 4 back)) (sym size) says;
    }

pub length-fragment : {l : Bool} {f x : List ℕ} → IsFragment l f x → length f ≡ 4 + length x
length-fragment {x = x} a = let e = ap length a.parts ∙ length-append a.header x in omega (arith, a.says.word.four)

pub length-concat-push : (xs : List (List ℕ)) (x : List ℕ) → concat (xs ++ x ∷ []) ≡ concat xs ++ x
length-concat-push [] x = append-nil x
length-concat-push (y ∷ ys) x = ap (λ (z : List ℕ). y ++ z) (length-concat-push ys x) ∙ sym (append_assoc y (concat ys) x)

-- one fragment more
pub fragments_push : (xs : List (List ℕ)) (x front f : List ℕ) → AreFragments xs front → IsFragment false f x → AreFragments (xs ++ x ∷ []) (front ++ f)
fragments_push [] x front f a b =
    record { front = f; back = []; parts = ap (λ (y : List ℕ). y ++ f) a ∙ sym (append-nil f); first = b; others = refl }
fragments_push (y ∷ ys) x front f a b =
    record {
      front = a.front;
      back = a.back ++ f;
      parts = ap (λ (z : List ℕ). z ++ f) a.parts ∙ append_assoc a.front a.back f;
      first = a.first;
      others = fragments_push ys x a.back f a.others b;
    }

-- ---- what can stand behind the fragments of a record that is begun

-- no fragment that goes on within the limit
abbrev pub Stops : ℕ → List ℕ → Type 0
Stops size bytes = (f x more : List ℕ) → bytes ≡ f ++ more → IsFragment false f x → size + length x ≤ record_limit → ⊥

pub last_stops : (size : ℕ) (f x more : List ℕ) → IsFragment true f x → Stops size (f ++ more)
last_stops size f x more a f' x' more' e b within =
    let h = same_fragments f f' x x' more more' a b e in absurd cc

pub part_stops : (size : ℕ) (bytes : List ℕ) → IsPart size bytes → Stops size bytes
part_stops size bytes (inl short) f x more e b within =
    let all = ap length e ∙ length-append f more in let f_long = length-fragment b in omega arith
part_stops size bytes (inr a) f x more e b within =
    let long : a.header ++ a.body ≡ b.header ++ (x ++ more) = sym a.parts ∙ e ∙ ap (λ (y : List ℕ). y ++ more) b.parts ∙ append_assoc b.header x more in
    let h = same_headers a.header b.header a.body (x ++ more) a.says b.says long in
    let all = ap length h.3 ∙ length-append x more in
    omega (arith, a.lacks, h.1)

pub past_stops : (size : ℕ) (bytes : List ℕ) → PassesLimit size bytes → Stops size bytes
past_stops size bytes a f x more e b within =
    let long : a.header ++ a.behind ≡ b.header ++ (x ++ more) = sym a.parts ∙ e ∙ ap (λ (y : List ℕ). y ++ more) b.parts ∙ append_assoc b.header x more in
    let h = same_headers a.header b.header a.behind (x ++ more) a.says b.says long in
    omega (arith, a.past, h.1)

-- the fragments of a record that is begun are what they are in one way
pub same_begin : (size : ℕ) (xs ys : List (List ℕ)) (front front' back back' : List ℕ) → AreFragments xs front → AreFragments ys front'
    → size + length (concat xs) ≤ record_limit → size + length (concat ys) ≤ record_limit
    → Stops (size + length (concat xs)) back → Stops (size + length (concat ys)) back' → front ++ back ≡ front' ++ back' → (xs ≡ ys) × (front ≡ front') × (back ≡ back')
same_begin size [] [] front front' back back' a b w w' s s' e =
    let f : front ≡ front' = a ∙ sym b in
    (refl, f, append_cancel_left front' back back' (ap (λ (y : List ℕ). y ++ back) (sym f) ∙ e))
same_begin size [] (y ∷ ys) front front' back back' a b w w' s s' e =
    let stands : back ≡ b.front ++ (b.back ++ back') =
    ap (λ (z : List ℕ). z ++ back) (sym a) ∙ e ∙ ap (λ (z : List ℕ). z ++ back') b.parts ∙ append_assoc b.front b.back back' in
    let sum = length-append y (concat ys) in
    absurd (s b.front y (b.back ++ back') stands b.first (omega arith))
same_begin size (x ∷ xs) [] front front' back back' a b w w' s s' e =
    let stands : back' ≡ a.front ++ (a.back ++ back) =
    ap (λ (z : List ℕ). z ++ back') (sym b) ∙ sym e ∙ ap (λ (z : List ℕ). z ++ back) a.parts ∙ append_assoc a.front a.back back in
    let sum = length-append x (concat xs) in
    absurd (s' a.front x (a.back ++ back) stands a.first (omega arith))
same_begin size (x ∷ xs) (y ∷ ys) front front' back back' a b w w' s s' e =
    let long : a.front ++ (a.back ++ back) ≡ b.front ++ (b.back ++ back') =
    sym (append_assoc a.front a.back back) ∙ ap (λ (z : List ℕ). z ++ back) (sym a.parts) ∙ e ∙ ap (λ (z : List ℕ). z ++ back') b.parts ∙ append_assoc b.front b.back back' in
    let f = same_fragments a.front b.front x y (a.back ++ back) (b.back ++ back') a.first b.first long in
    let sum = length-append x (concat xs) in
    let sum' = length-append y (concat ys) in
    let same_x : length x ≡ length y = ap length f.1 in
    let up : size + length (x ++ concat xs) ≡ (size + length x) + length (concat xs) = omega arith in
    let up' : size + length (y ++ concat ys) ≡ (size + length x) + length (concat ys) = omega arith in
    let r = same_begin (size + length x) xs ys a.back b.back back back' a.others b.others (omega arith) (omega arith)
    (subst (λ (k : ℕ). Stops k back) up s) (subst (λ (k : ℕ). Stops k back') up' s') f.3 in (
      ap (λ (z : List ℕ). z ∷ xs) f.1 ∙ ap (λ (zs : List (List ℕ)). y ∷ zs) r.0,
      a.parts ∙ ap (λ (z : List ℕ). z ++ a.back) f.2 ∙ ap (λ (z : List ℕ). b.front ++ z) r.1 ∙ sym b.parts,
      r.2,
    )
