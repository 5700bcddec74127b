-- of a start each object may stand behind those ahead of it
use Rattle.std.proofs.Common.{◌≡◌, ◌≤◌, ◌+◌, ◌⊎◌, inl, inr, ℕ, zero, suc, Bool, true, false, cond, List, [], ◌∷◌, ◌++◌, length, map, Option, Some, None, refl, sym, ap, ◌∙◌, subst, arith, eq-eqb, append_assoc, append-nil}
use Rattle.std.specs.Prelude.{◌&&◌, ◌||◌, ◌==◌, not, nat_le, slice_get}
use Rattle.std.specs.Option.{option_or, option_map_or}
use Rattle.std.specs.List.{list_any}
use Rattle.std.proofs.lemmas.Bool.{leb-true}
use Rattle.std.proofs.lemmas.Cmp.{nat_list_eq_equiv}
use Rattle.std.proofs.lemmas.List.Folds.{list_any_at}
use Rattle.nfs3_types.specs.Limits.{file_limit}
use Rattle.tree_starts.specs.Names.{same_bytes, is_plain}
use Rattle.tree_starts.specs.Start.{Key, key_of, is_directory, is_parent, is_free, may_be_named, fits, object_fault, fault_from, IsStart, start_limit, text_limit}
use Rattle.tree_starts.specs.declared.object.StartObject.{StartObject}
use Rattle.tree_starts.specs.declared.object.StartNode.{StartNode}
use Rattle.tree_starts.specs.declared.object.StartNode.TheVariants as nodes
use Rattle.tree_starts.specs.declared.fault.StartFault.{StartFault}
use Rattle.tree_nodes.proofs.Chains.{both_pass, negated, differ}
use Rattle.file_tree.specs.Built.{Fits, IsFree, IsParent, MayStart}

-- ---- where there is no fault

neither : {X : Type 0} (a b : Option X) → option_or a b ≡ None → (a ≡ None) × (b ≡ None)
neither None b e = (refl, e)
neither (Some x) b e = absurd (cc)

right : {X : Type 0} (b : Bool) (x : X) (rest : Option X) → cond (not b) (Some x) rest ≡ None → (b ≡ true) × (rest ≡ None)
right true x rest e = (refl, e)
right false x rest e = absurd (cc)

abbrev NoFault : List Key → StartObject → Type 0
NoFault ahead o = (k : ℕ) × (object_fault ahead k o ≡ None)

one_from : (ahead : List Key) (k : ℕ) (o : StartObject) (objects : List StartObject) → fault_from ahead k (o ∷ objects) ≡ None
    → (object_fault ahead k o ≡ None) × (fault_from (ahead ++ key_of o ∷ []) (k + 1) objects ≡ None)
unfolding fault_from
one_from ahead k o objects e = neither (object_fault ahead k o) (fault_from (ahead ++ key_of o ∷ []) (k + 1) objects) e

at_split : (ahead : List Key) (k : ℕ) (front behind : List StartObject) (o : StartObject) → fault_from ahead k (front ++ o ∷ behind) ≡ None → NoFault (ahead ++ map key_of front) o
at_split ahead k [] behind o e = (k, subst (λ keys. object_fault keys k o ≡ None) (sym (append-nil ahead)) (one_from ahead k o behind e).0)
at_split ahead k (x ∷ front) behind o e =
    let rest = at_split (ahead ++ key_of x ∷ []) (k + 1) front behind o (one_from ahead k x (front ++ o ∷ behind) e).1 in
    subst (λ keys. NoFault keys o) (append_assoc ahead (key_of x ∷ []) (map key_of front)) rest

-- ---- the directory that an object lies in

key_at : (front : List StartObject) (k : ℕ) (key : Key) → slice_get (map key_of front) k ≡ Some key → (o : StartObject) × (slice_get front k ≡ Some o) × (key ≡ key_of o)
key_at [] k key e = absurd (cc)
key_at (x ∷ front) zero key e = (x, refl, cc)
key_at (x ∷ front) (suc k) key e = key_at front k key e

directory : (node : StartNode) → is_directory node ≡ true → node ≡ nodes.Directory
directory (nodes.File bytes) e = absurd (cc)
directory nodes.Directory e = refl
directory (nodes.Link text) e = absurd (cc)

found : (key : Option Key) → option_map_or (λ (k : Key). k.is_directory) key false ≡ true → (k : Key) × (key ≡ Some k) × (k.is_directory ≡ true)
found None e = absurd (cc)
found (Some k) e = (k, refl, e)

inside : (front : List StartObject) (number : ℕ) → is_parent (map key_of front) number ≡ true → (number ≡ 0) ⊎ IsParent front number
unfolding is_parent
inside front zero e = inl refl
inside front (suc index) e =
    let key = found (slice_get (map key_of front) index) e in
    let at = key_at front index key.0 key.1 in
    let is : is_directory at.0.node ≡ true = sym (ap (λ (k : Key). k.is_directory) at.2) ∙ key.2 in
    inr (index, at.0, at.1, omega (arith), directory at.0.node is)

-- ---- the name that is free there

same_self : (name : List ℕ) → same_bytes name name ≡ true
same_self = nat_list_eq_equiv.refl

of_keys : (test : Key → Bool) (front : List StartObject) → list_any test (map key_of front) ≡ list_any (λ o. test (key_of o)) front
of_keys test [] = refl
of_keys test (x ∷ front) = ap (λ b. test (key_of x) || b) (of_keys test front)

free : (front : List StartObject) (parent : ℕ) (name : List ℕ) → is_free (map key_of front) parent name ≡ true → IsFree front parent name
unfolding is_free
free front parent name e o listed in_it named =
    differ _ (list_any_at (λ x. test (key_of x)) front listed.0 o listed.1 (ap (λ x. test (key_of x)) listed.2 ∙ (λ i. (eq-eqb parent o.parent (sym in_it) i) && (ap (same_bytes name) named ∙ same_self name) i)))
    (sym (of_keys test front) ∙ negated _ e) where
      test : Key → Bool
      test key = (parent == key.parent) && same_bytes name key.name

-- ---- its bytes

fit : (node : StartNode) → fits node ≡ true → Fits node
fit (nodes.File bytes) e = leb-true (length bytes) file_limit e
fit nodes.Directory e = tt
fit (nodes.Link text) e = omega (arith, leb-true (length text) text_limit e)

-- ---- all of it

may_start : (front : List StartObject) (k : ℕ) (o : StartObject) → object_fault (map key_of front) k o ≡ None → MayStart front o
may_start front k o e =
    let a = right (is_parent (map key_of front) o.parent) _ _ e in
    let b = right (nat_le (length o.name) text_limit) _ _ a.1 in
    let c = right (may_be_named (map key_of front) o.parent o.name) _ _ b.1 in
    let d = right (fits o.node) _ _ c.1 in
    record {
      inside = inside front o.parent a.0;
      free = free front o.parent o.name (both_pass (is_plain o.name) _ c.0).1;
      short = omega (arith, leb-true (length o.name) text_limit b.0);
      fits = fit o.node d.0;
    }

limited : (within : Bool) (fault : StartFault) (rest : Option StartFault) → cond within rest (Some fault) ≡ None → (within ≡ true) × (rest ≡ None)
limited true fault rest e = (refl, e)
limited false fault rest e = absurd (cc)

-- a start has at most so many objects
pub few : (objects : List StartObject) → IsStart objects → length objects ≤ 1000000
few objects start = leb-true (length objects) start_limit (limited (nat_le (length objects) start_limit) _ (fault_from [] 1 objects) start).0

-- and each may stand behind those ahead of it
pub each_may_start : (objects front behind : List StartObject) (o : StartObject) → IsStart objects → objects ≡ front ++ o ∷ behind → MayStart front o
each_may_start objects front behind o start parts =
    let none : fault_from [] 1 (front ++ o ∷ behind) ≡ None = sym (ap (fault_from [] 1) parts) ∙ (limited (nat_le (length objects) start_limit) _ (fault_from [] 1 objects) start).1 in
    let there = at_split [] 1 front behind o none in
    may_start front there.0 o there.1

-- and none at all are a start
pub no_start : IsStart []
unfolding fault_from
no_start = refl
