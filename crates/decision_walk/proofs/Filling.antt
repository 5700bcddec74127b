-- what open WRITEs fill, and lists of them
use Rattle.std.proofs.Common.{◌≡◌, ℕ, zero, suc, ◌≤◌, Bool, true, false, cond, List, [], ◌∷◌, ◌++◌, take, drop, Some, None, refl, sym, ap, ◌∙◌, subst, eq-eqb}
use Rattle.std.specs.Prelude.{◌==◌, not, map}
use Rattle.std.specs.List.{AllByRecursion}
use Rattle.std.proofs.lemmas.Bool.{eqb-true, ne_eqb, or_parts, true≢false}
use Rattle.nfs3_types.specs.declared.calls.WriteArguments.{WriteArguments}
use Rattle.nfs_history.specs.declared.knowing.KnownCalls.{KnownCalls}
use Rattle.tree_handles.specs.Binding.{Bindings}
use Rattle.alike_calls.specs.Writes.{with_write}
use Rattle.decision_walk.specs.declared.open_writes.OpenWrite.{OpenWrite}
use Rattle.decision_walk.specs.Opening.{write_of, held_with, filled, IsOpen, is_open, open_at, of_others, IsInserted, narrowed_write}

-- ---- the open WRITE of an object

some_is : {X : Type 0} (a b : X) → Some a ≡ Some b → a ≡ b
some_is a b e = cc

none_is_some : {X : Type 0} (x : X) → None ≡ Some x → ⊥
none_is_some x e = cc

-- what is found is one of the list, and of the object
pub at_found : (P : OpenWrite → Type 0) (writes : List OpenWrite) (object : ℕ) (one : OpenWrite) → AllByRecursion P writes → open_at writes object ≡ Some one → P one × (one.object ≡ object)
at_found P [] object one each found = absurd (none_is_some one found)
at_found P (w ∷ writes) object one each found = go (w.object == object) refl found (at_found P writes object one each.1) where
  go : (b : Bool) → (w.object == object) ≡ b → cond b (Some w) (open_at writes object) ≡ Some one → (open_at writes object ≡ Some one → P one × (one.object ≡ object)) → P one × (one.object ≡ object)
  go true same is rest = let it = some_is w one is in (subst P it each.0, sym (ap (λ (x : OpenWrite). x.object) it) ∙ eqb-true w.object object same)
  go false apart is rest = rest is

-- none is of the object once those are left out
pub none_of_others : (writes : List OpenWrite) (object : ℕ) → open_at (of_others writes object) object ≡ None
none_of_others [] object = refl
none_of_others (w ∷ writes) object = go (w.object == object) refl (none_of_others writes object) where
  go : (b : Bool) → (w.object == object) ≡ b → open_at (of_others writes object) object ≡ None → open_at (cond (not b) (w ∷ of_others writes object) (of_others writes object)) object ≡ None
  go true same rest = rest
  go false apart rest = ap (λ b. cond b (Some w) (open_at (of_others writes object) object)) apart ∙ rest

-- what all are is so of those that are left
pub each_other : (P : OpenWrite → Type 0) (writes : List OpenWrite) (object : ℕ) → AllByRecursion P writes → AllByRecursion P (of_others writes object)
each_other P [] object each = each
each_other P (w ∷ writes) object each = go (w.object == object) (each_other P writes object each.1) where
  go : (b : Bool) → AllByRecursion P (of_others writes object) → AllByRecursion P (cond (not b) (w ∷ of_others writes object) (of_others writes object))
  go true rest = rest
  go false rest = (each.0, rest)

pub each_of : (P Q : OpenWrite → Type 0) (writes : List OpenWrite) → ((w : OpenWrite) → P w → Q w) → AllByRecursion P writes → AllByRecursion Q writes
each_of P Q [] f each = tt
each_of P Q (w ∷ writes) f each = (f w each.0, each_of P Q writes f each.1)

each_inserted : (P : OpenWrite → Type 0) (writes : List OpenWrite) (at : ℕ) (one : OpenWrite) → P one → AllByRecursion P writes → AllByRecursion P (take at writes ++ one ∷ drop at writes)
each_inserted P writes zero one is each = (is, each)
each_inserted P [] (suc at) one is each = (is, each)
each_inserted P (w ∷ writes) (suc at) one is each = (each.0, each_inserted P writes at one is each.1)

pub each_more : (P : OpenWrite → Type 0) (writes more : List OpenWrite) (one : OpenWrite) → P one → AllByRecursion P writes → IsInserted one writes more → AllByRecursion P more
each_more P writes more one is each inserted = subst (AllByRecursion P) (sym inserted.1) (each_inserted P writes inserted.0 one is each)

pub each_mapped : (P Q : OpenWrite → Type 0) (f : OpenWrite → OpenWrite) (writes : List OpenWrite) → ((w : OpenWrite) → P w → Q (f w)) → AllByRecursion P writes → AllByRecursion Q (map f writes)
each_mapped P Q f [] g each = tt
each_mapped P Q f (w ∷ writes) g each = (g w each.0, each_mapped P Q f writes g each.1)

-- ---- what is filled

module _ (known : KnownCalls) where
  -- nothing of an object that no open WRITE is of
  pub filled_none : (counts : ℕ → ℕ) (writes : List OpenWrite) (object : ℕ) → open_at writes object ≡ None → (held : List ℕ) → filled known counts writes object held ≡ held
  filled_none counts [] object none held = refl
  filled_none counts (w ∷ writes) object none held = go (w.object == object) refl none (λ is. filled_none counts writes object is held) where
    go : (b : Bool) → (w.object == object) ≡ b → cond b (Some w) (open_at writes object) ≡ None → (open_at writes object ≡ None → filled known counts writes object held ≡ held)
        → cond (object == w.object) (held_with (write_of known w.call) (counts w.call) held) (filled known counts writes object held) ≡ held
    go true same is rest = absurd (none_is_some w (sym is))
    go false apart is rest =
        ap (λ b. cond b (held_with (write_of known w.call) (counts w.call) held) (filled known counts writes object held))
        (ne_eqb object w.object (λ same. true≢false (sym (eq-eqb w.object object (sym same)) ∙ apart)))
        ∙ rest is

  -- those of an object may be left out for another object
  left_out : (counts : ℕ → ℕ) (writes : List OpenWrite) (object o : ℕ) → (o ≡ object → ⊥) → (held : List ℕ) → filled known counts writes o held ≡ filled known counts (of_others writes object) o held
  left_out counts [] object o other held = refl
  left_out counts (w ∷ writes) object o other held = go (w.object == object) refl (left_out counts writes object o other held) where
    go : (b : Bool) → (w.object == object) ≡ b → filled known counts writes o held ≡ filled known counts (of_others writes object) o held
        → cond (o == w.object) (held_with (write_of known w.call) (counts w.call) held) (filled known counts writes o held)
        ≡ filled known counts (cond (not b) (w ∷ of_others writes object) (of_others writes object)) o held
    go true same rest =
        ap (λ b. cond b (held_with (write_of known w.call) (counts w.call) held) (filled known counts writes o held))
        (ne_eqb o w.object (λ it. other (it ∙ eqb-true w.object object same))) ∙ rest
    go false apart rest = ap (cond (o == w.object) (held_with (write_of known w.call) (counts w.call) held)) rest

  -- the first of an object is the one that counts
  first_counts : (counts : ℕ → ℕ) (writes : List OpenWrite) (object : ℕ) (one : OpenWrite) → open_at writes object ≡ Some one → (held : List ℕ)
      → filled known counts writes object held ≡ held_with (write_of known one.call) (counts one.call) held
  first_counts counts [] object one found held = absurd (none_is_some one found)
  first_counts counts (w ∷ writes) object one found held = go (w.object == object) refl found (λ is. first_counts counts writes object one is held) where
    go : (b : Bool) → (w.object == object) ≡ b → cond b (Some w) (open_at writes object) ≡ Some one
        → (open_at writes object ≡ Some one → filled known counts writes object held ≡ held_with (write_of known one.call) (counts one.call) held)
        → cond (object == w.object) (held_with (write_of known w.call) (counts w.call) held) (filled known counts writes object held) ≡ held_with (write_of known one.call) (counts one.call) held
    go true same is rest =
        ap (λ b. cond b (held_with (write_of known w.call) (counts w.call) held) (filled known counts writes object held)) (eq-eqb object w.object (sym (eqb-true w.object object same)))
        ∙ ap (λ (x : OpenWrite). held_with (write_of known x.call) (counts x.call) held) (some_is w one is)
    go false apart is rest =
        ap (λ b. cond b (held_with (write_of known w.call) (counts w.call) held) (filled known counts writes object held))
        (ne_eqb object w.object (λ same. true≢false (sym (eq-eqb w.object object (sym same)) ∙ apart)))
        ∙ rest is

  -- what is filled is what this WRITE wrote of its object, and what is filled else
  pub filled_one : (counts : ℕ → ℕ) (writes : List OpenWrite) (object : ℕ) (one : OpenWrite) (write : WriteArguments) → open_at writes object ≡ Some one → write_of known one.call ≡ Some write
      → (o : ℕ) (held : List ℕ) → filled known counts writes o held ≡ with_write (filled known counts (of_others writes object)) object write (counts one.call) o held
  filled_one counts writes object one write found is o held = go (o == object) refl where
    go : (b : Bool) → (o == object) ≡ b → filled known counts writes o held ≡ cond b (held_with (Some write) (counts one.call) held) (filled known counts (of_others writes object) o held)
    go true same =
        ap (λ x. filled known counts writes x held) (eqb-true o object same) ∙ first_counts counts writes object one found held
        ∙ ap (λ w. held_with w (counts one.call) held) is
    go false apart = left_out counts writes object o (λ same. true≢false (sym (eq-eqb o object same) ∙ apart)) held

  inserted_fills : (counts : ℕ → ℕ) (writes : List OpenWrite) (at : ℕ) (one : OpenWrite) → open_at writes one.object ≡ None → (o : ℕ) (held : List ℕ)
      → cond (o == one.object) (held_with (write_of known one.call) (counts one.call) held) (filled known counts writes o held) ≡ filled known counts (take at writes ++ one ∷ drop at writes) o held
  inserted_fills counts writes zero one none o held = refl
  inserted_fills counts [] (suc at) one none o held = refl
  inserted_fills counts (w ∷ writes) (suc at) one none o held = go (w.object == one.object) refl none (λ is. inserted_fills counts writes at one is o held) where
    step : (p q : Bool) → (p ≡ true → q ≡ true → ⊥) → (x y z : List ℕ) → cond p x (cond q y z) ≡ cond q y (cond p x z)
    step true true apart x y z = absurd (apart refl refl)
    step true false apart x y z = refl
    step false true apart x y z = refl
    step false false apart x y z = refl

    go : (b : Bool) → (w.object == one.object) ≡ b → cond b (Some w) (open_at writes one.object) ≡ None
        → (open_at writes one.object ≡ None → cond (o == one.object) (held_with (write_of known one.call) (counts one.call) held) (filled known counts writes o held)
        ≡ filled known counts (take at writes ++ one ∷ drop at writes) o held)
        → cond (o == one.object) (held_with (write_of known one.call) (counts one.call) held)
        (cond (o == w.object) (held_with (write_of known w.call) (counts w.call) held) (filled known counts writes o held))
        ≡ cond (o == w.object) (held_with (write_of known w.call) (counts w.call) held) (filled known counts (take at writes ++ one ∷ drop at writes) o held)
    go true same is rest = absurd (none_is_some w (sym is))
    go false apart is rest =
        step (o == one.object) (o == w.object)
        (λ a b. true≢false (sym (eq-eqb w.object one.object (sym (eqb-true o w.object b) ∙ eqb-true o one.object a)) ∙ apart))
        (held_with (write_of known one.call) (counts one.call) held) (held_with (write_of known w.call) (counts w.call) held) (filled known counts writes o held)
        ∙ ap (cond (o == w.object) (held_with (write_of known w.call) (counts w.call) held)) (rest is)

  -- one more fills what it wrote besides
  pub filled_more : (counts : ℕ → ℕ) (writes more : List OpenWrite) (one : OpenWrite) (write : WriteArguments) → open_at writes one.object ≡ None → IsInserted one writes more
      → write_of known one.call ≡ Some write → (o : ℕ) (held : List ℕ) → with_write (filled known counts writes) one.object write (counts one.call) o held ≡ filled known counts more o held
  filled_more counts writes more one write none inserted is o held =
      ap (λ w. cond (o == one.object) (held_with w (counts one.call) held) (filled known counts writes o held)) (sym is)
      ∙ inserted_fills counts writes inserted.0 one none o held ∙ ap (λ ws. filled known counts ws o held) (sym inserted.1)

  -- ---- counts

  -- the counts, with this one for call n
  abbrev pub counted : (ℕ → ℕ) → ℕ → ℕ → ℕ → ℕ
  counted counts n count m = cond (m == n) count (counts m)

  pub counted_other : (counts : ℕ → ℕ) (n count : ℕ) (w : OpenWrite) → (w.call == n) ≡ false → counted counts n count w.call ≡ counts w.call
  counted_other counts n count w apart = ap (λ b. cond b count (counts w.call)) apart

  pub filled_counted : (counts : ℕ → ℕ) (n count : ℕ) (writes : List OpenWrite) → is_open writes n ≡ false → (o : ℕ) (held : List ℕ)
      → filled known counts writes o held ≡ filled known (counted counts n count) writes o held
  filled_counted counts n count [] none o held = refl
  filled_counted counts n count (w ∷ writes) none o held =
      let parts = or_parts (w.call == n) (is_open writes n) none in
      ap (λ c. cond (o == w.object) (held_with (write_of known w.call) c held) (filled known counts writes o held)) (sym (counted_other counts n count w parts.0))
      ∙ ap (cond (o == w.object) (held_with (write_of known w.call) (counted counts n count w.call) held)) (filled_counted counts n count writes parts.1 o held)

  pub filled_narrowed : (counts : ℕ → ℕ) (call least most : ℕ) (writes : List OpenWrite) (o : ℕ) (held : List ℕ)
      → filled known counts writes o held ≡ filled known counts (map (narrowed_write call least most) writes) o held
  filled_narrowed counts call least most [] o held = refl
  filled_narrowed counts call least most (w ∷ writes) o held =
      ap (cond (o == w.object) (held_with (write_of known w.call) (counts w.call) held)) (filled_narrowed counts call least most writes o held)
      ∙ go (w.call == call) where
        go : (b : Bool) → cond (o == w.object) (held_with (write_of known w.call) (counts w.call) held) (filled known counts (map (narrowed_write call least most) writes) o held)
            ≡ filled known counts (cond b (record { call = w.call; object = w.object; least = least; most = most }) w ∷ map (narrowed_write call least most) writes) o held
        go true = refl
        go false = refl

  module _ (binds : Bindings) where
    -- the WRITEs that stay open keep their counts
    pub open_counted : (counts : ℕ → ℕ) (n count : ℕ) (writes : List OpenWrite) → is_open writes n ≡ false → AllByRecursion (IsOpen known binds counts) writes
        → AllByRecursion (IsOpen known binds (counted counts n count)) writes
    open_counted counts n count [] none each = tt
    open_counted counts n count (w ∷ writes) none each =
        let parts = or_parts (w.call == n) (is_open writes n) none in
        let same = sym (counted_other counts n count w parts.0) in (
          record {
            plain = each.0.plain;
            write = each.0.write;
            «is» = each.0.«is»;
            named = each.0.named;
            least = subst (λ c. w.least ≤ c) same each.0.least;
            most = subst (λ c. c ≤ w.most) same each.0.most;
          },
          open_counted counts n count writes parts.1 each.1,
        )

    pub open_narrowed : (counts : ℕ → ℕ) (call least most : ℕ) → least ≤ counts call → counts call ≤ most → (w : OpenWrite) → IsOpen known binds counts w
        → IsOpen known binds counts (narrowed_write call least most w)
    open_narrowed counts call least most low high w is = go (w.call == call) refl where
      go : (b : Bool) → (w.call == call) ≡ b → IsOpen known binds counts (cond b (record { call = w.call; object = w.object; least = least; most = most }) w)
      go true same = record {
        plain = is.plain;
        write = is.write;
        «is» = is.«is»;
        named = is.named;
        least = subst (λ c. least ≤ counts c) (sym (eqb-true w.call call same)) low;
        most = subst (λ c. counts c ≤ most) (sym (eqb-true w.call call same)) high;
      }
      go false apart = is
