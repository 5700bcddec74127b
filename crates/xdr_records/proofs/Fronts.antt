-- What stands at the front, split and joined, and steps that did or did not fail.
use Rattle.std.proofs.Common.{◌≡◌, ℕ, ◌+◌, ◌⊎◌, inl, inr, ◌≤◌, Bool, true, false, cond, List, [], ◌∷◌, ◌++◌, length, take, drop, Result, Ok, Err, refl, sym, ap, ◌∙◌, append_assoc, arith}
use Rattle.std.proofs.lemmas.List.{take-append-drop, length-append, length-take, drop_at}
use Rattle.xdr_records.specs.declared.fault.XdrFault.{XdrFault}
use Rattle.xdr_records.specs.Unread.{Unread, At, behind}
use Rattle.xdr_records.specs.Spelling.{Joined}
use Rattle.xdr_records.specs.Faults.{Stands}
use Rattle.xdr_records.specs.Reading.{bound, item_here, name_here, with_first}

abbrev pub left_at : ℕ → List ℕ → Unread
left_at at rest = record { at = at; rest = rest }

abbrev pub fine : {A : Type 0} (F : Type 0) → A → Result A F
fine F x = Ok x

pub fine_is : {A F : Type 0} (x y : A) → fine F x ≡ fine F y → x ≡ y
fine_is x y e = cc

-- the two parts of a value and what is left
pub pair_is : {A B F : Type 0} (x y : A) (a b : B) → fine {A = A × B} F (x, a) ≡ fine {A = A × B} F (y, b) → (x ≡ y) × (a ≡ b)
pair_is {A = A} {B = B} {F = F} x y a b e =
    let same = fine_is {A = A × B} {F = F} (x, a) (y, b) e in
    (ap (λ (p : A × B). p.0) same, ap (λ (p : A × B). p.1) same)

-- ---- steps

-- which way a test went
pub chosen : {X : Type 0} (b : Bool) (x y z : X) → cond b x y ≡ z → ((b ≡ true) × (x ≡ z)) ⊎ ((b ≡ false) × (y ≡ z))
chosen true x y z e = inl (refl, e)
chosen false x y z e = inr (refl, e)

-- a test that did not fail
pub guard_ok : {A F : Type 0} (b : Bool) (d : F) (x y : A) → cond b (Err d) (Ok x) ≡ Ok y → (b ≡ false) × (x ≡ y)
guard_ok true d x y e = absurd cc
guard_ok false d x y e = (refl, cc)

-- a test that failed
pub guard_err : {A F : Type 0} (b : Bool) (d f : F) (x : A) → cond b (Err d) (Ok x) ≡ Err f → (b ≡ true) × (f ≡ d)
guard_err true d f x e = (refl, cc)
guard_err false d f x e = absurd cc

-- the value of a step that did not fail
pub bound_ok : {A B F : Type 0} (r : Result A F) (f : A → Result B F) (y : B) → bound r f ≡ Ok y → (x : A) × (r ≡ Ok x) × (f x ≡ Ok y)
bound_ok (Ok x) f y e = (x, refl, e)
bound_ok (Err d) f y e = absurd cc

-- a step failed, or the one behind it
pub bound_err : {A B F : Type 0} (r : Result A F) (f : A → Result B F) (d : F) → bound r f ≡ Err d → (r ≡ Err d) ⊎ (x : A) × (r ≡ Ok x) × (f x ≡ Err d)
bound_err (Ok x) f d e = inr (x, refl, e)
bound_err (Err d') f d e = inl cc

pub here_ok : {A K : Type 0} (kind_of : XdrFault → K) (here : ℕ) (r : Result A XdrFault) (x : A) → item_here kind_of here r ≡ Ok x → r ≡ Ok x
here_ok kind_of here (Ok y) x e = cc
here_ok kind_of here (Err d) x e = absurd cc

abbrev pub fault_at : {K : Type 0} → ℕ → K → At K
fault_at at kind = record { at = at; kind = kind }

pub here_err : {A K : Type 0} (kind_of : XdrFault → K) (here : ℕ) (r : Result A XdrFault) (f : At K) → item_here kind_of here r ≡ Err f → (name : XdrFault) × (r ≡ Err name) × (f ≡ fault_at here (kind_of name))
here_err kind_of here (Ok y) f e = absurd cc
here_err kind_of here (Err d) f e = (d, refl, cc)

pub name_ok : {A K : Type 0} (here : ℕ) (r : Result A K) (after new : Unread) (x : A) → name_here here r after ≡ Ok (x, new) → (r ≡ Ok x) × (after ≡ new)
name_ok {A = A} {K = K} here (Ok y) after new x e =
    let same = pair_is {F = At K} y x after new e in
    (ap (fine K) same.0, same.1)
name_ok here (Err d) after new x e = absurd cc

pub name_err : {A K : Type 0} (here : ℕ) (r : Result A K) (after : Unread) (f : At K) → name_here here r after ≡ Err f → (kind : K) × (r ≡ Err kind) × (f ≡ fault_at here kind)
name_err here (Ok y) after f e = absurd cc
name_err here (Err d) after f e = (d, refl, cc)

pub first_ok : {A F : Type 0} (x : A) (r : Result (List A × Unread) F) (ys : List A) (new : Unread) → with_first x r ≡ Ok (ys, new) → (xs : List A) × (r ≡ Ok (xs, new)) × (x ∷ xs ≡ ys)
first_ok {A = A} {F = F} x (Ok others) ys new e =
    let same = pair_is {F = F} (x ∷ others.0) ys others.1 new e in
    (others.0, ap (λ (u : Unread). fine F (others.0, u)) same.1, same.0)
first_ok x (Err d) ys new e = absurd cc

pub first_err : {A F : Type 0} (x : A) (r : Result (List A × Unread) F) (f : F) → with_first x r ≡ Err f → r ≡ Err f
first_err x (Ok others) f e = absurd cc
first_err x (Err d) f e = cc

-- ---- fronts

-- the first n bytes stand at the front
pub taken : (Item : List ℕ → Type 0) (n : ℕ) (old : Unread) → n ≤ length old.rest → Item (take n old.rest) → Stands Item old (behind n old)
taken Item n old long item =
    record {
      front = take n old.rest;
      parts = sym (take-append-drop n old.rest);
      at = let e = length-take n old.rest in omega arith;
      item = item;
    }

-- a reader that stands behind a front of n bytes
pub behind_is : {Item : List ℕ → Type 0} (old new : Unread) (n : ℕ) (s : Stands Item old new) → length s.front ≡ n → behind n old ≡ new
behind_is old new n s e =
    let at : old.at + n ≡ new.at = sym (s.at ∙ ap (λ (k : ℕ). old.at + k) e) in
    let rest : drop n old.rest ≡ new.rest = ap (λ (xs : List ℕ). drop n xs) s.parts ∙ drop_at s.front new.rest n e in
    ap (λ (k : ℕ). left_at k (drop n old.rest)) at ∙ ap (λ (xs : List ℕ). left_at new.at xs) rest

-- how much was left
pub length_before : {Item : List ℕ → Type 0} (old new : Unread) (s : Stands Item old new) → length old.rest ≡ length s.front + length new.rest
length_before old new s = ap length s.parts ∙ length-append s.front new.rest

-- nothing stands at every place
pub stands_nowhere : (Item : List ℕ → Type 0) (unread : Unread) → Item [] → Stands Item unread unread
stands_nowhere Item unread item = record { front = []; parts = refl; at = omega arith; item = item }

-- two items, one behind the other
pub joined : {First Others : List ℕ → Type 0} {old between new : Unread} → Stands First old between → Stands Others between new → Stands (Joined First Others) old new
joined {old = old} {between = between} {new = new} first others =
    record {
      front = first.front ++ others.front;
      parts = first.parts ∙ ap (λ (xs : List ℕ). first.front ++ xs) others.parts ∙ sym (append_assoc first.front others.front new.rest);
      at = let e = length-append first.front others.front in omega (arith, first.at, others.at);
      item = record { front = first.front; back = others.front; parts = refl; first = first.item; others = others.item };
    }

-- where the second of two items begins
pub split : {First Others : List ℕ → Type 0} (old new : Unread) → Stands (Joined First Others) old new → (between : Unread) × Stands First old between × Stands Others between new
split old new s =
    let i = s.item in (
      left_at (old.at + length i.front) (i.back ++ new.rest),
      record {
        front = i.front;
        parts = s.parts ∙ ap (λ (xs : List ℕ). xs ++ new.rest) i.parts ∙ append_assoc i.front i.back new.rest;
        at = refl;
        item = i.first;
      },
      record {
        front = i.back;
        parts = refl;
        at = let e = length-append i.front i.back in let all = ap length i.parts in omega (arith, s.at);
        item = i.others;
      },
    )

-- the same front, seen as another item
pub seen_as : {Item Other : List ℕ → Type 0} {old new : Unread} (s : Stands Item old new) → Other s.front → Stands Other old new
seen_as s other = record { front = s.front; parts = s.parts; at = s.at; item = other }
