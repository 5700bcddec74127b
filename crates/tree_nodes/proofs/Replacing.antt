-- an entry that is taken out and put again, changed or as it was
use Rattle.std.proofs.Common.{◌≡◌, ℕ, ◌+◌, ◌⊎◌, inl, inr, Bool, true, false, cond, List, Some, None, Result, Ok, Err, refl, sym, ap, subst, ◌∙◌}
use Rattle.std.specs.Prelude.{IsSome, IfOk, OnOk, OnErr, option_and_then, option_map}
use Rattle.std.specs.Ordering.{nat_cmp, eq_by_cmp}
use Rattle.std.specs.Cmp.{nat_cmp_total}
use Rattle.std.specs.FinMap as map
use Rattle.tree_nodes.specs.declared.node.Node.{Node}
use Rattle.tree_nodes.specs.declared.table.Entry.{Entry}
use Rattle.tree_nodes.specs.declared.table.Body.{Body}
use Rattle.tree_nodes.specs.Table.{Table, entry_at, name_in, named, child, placed, held}
use Rattle.tree_nodes.specs.Walk.{Held}
use Rattle.tree_nodes.specs.Changes.{Adds, Sets, Shifts}
use Rattle.tree_nodes.specs.TableChanges.{HasName, HasTwoNames}
use Rattle.tree_stores.proofs.SlotLemmas.{len_one_more, len_one_less}
use Rattle.tree_nodes.proofs.Chains.{same_some}
use Rattle.tree_nodes.proofs.Beside.{same_number}
use Rattle.tree_nodes.proofs.Tables.{Updates, same_key, other_key, put_in, taken_out, nothing_held, nameless, steps_but, held_but, held_now, name_put, name_gone, name_set, as_many, node_set_by}

same_table : (m n : Table) → ((q : ℕ) → map.get m q ≡ map.get n q) → m ≡ n
same_table m n same = map.same_map nat_cmp_total map.nat_cmp-IsAntisymmetric m n same

again : {A : Type 0} (b : Bool) (x y z : A) → cond b x (cond b y z) ≡ cond b x z
again true x y z = refl
again false x y z = refl

-- in place of an entry that was taken out comes another one
pub put_over : (m : Table) (o : ℕ) (f : Entry) → map.insert (map.remove m o) o f ≡ map.insert m o f
put_over m o f = same_table _ _ (λ q.
    map.get-insert nat_cmp_total (map.remove m o) o f q
    ∙ ap (cond (eq_by_cmp nat_cmp q o) (Some f)) (map.get-remove nat_cmp_total m o q)
    ∙ again (eq_by_cmp nat_cmp q o) (Some f) None (map.get m q)
    ∙ sym (map.get-insert nat_cmp_total m o f q))

put_same : (m : Table) (o : ℕ) (e : Entry) → entry_at m o ≡ Some e → map.insert m o e ≡ m
put_same m o e was = same_table _ _ (λ q. map.get-insert nat_cmp_total m o e q ∙ go q (same_number q o)) where
  go : (q : ℕ) → (q ≡ o) ⊎ (q ≡ o → ⊥) → cond (eq_by_cmp nat_cmp q o) (Some e) (map.get m q) ≡ map.get m q
  go q (inl is) =
      ap (λ z. cond (eq_by_cmp nat_cmp z o) (Some e) (map.get m z)) is ∙ ap (λ b. cond b (Some e) (map.get m o)) (same_key o) ∙ sym was ∙ sym (ap (map.get m) is)
  go q (inr ne) = ap (λ b. cond b (Some e) (map.get m q)) (other_key o q ne)

-- or the same one
pub put_again : (m : Table) (o : ℕ) (e : Entry) → entry_at m o ≡ Some e → map.insert (map.remove m o) o e ≡ m
put_again m o e was = put_over m o e ∙ put_same m o e was

-- ---- taken out, and put with another body

module _ (m k n : Table) (o : ℕ) (e : Entry) (body : Body) (was : entry_at m o ≡ Some e) (out : k ≡ map.remove m o) (put : n ≡ map.insert k o (record e { body = body })) where
  abbrev f : Entry
  f = record e { body = body }

  in_place : n ≡ map.insert m o (record e { body = body })
  in_place = put ∙ ap (λ (z : Table). map.insert z o f) out ∙ put_over m o f

  pub body_same : body ≡ e.body → n ≡ m
  body_same is = in_place ∙ ap (λ (z : Body). map.insert m o (record e { body = z })) is ∙ put_same m o e was

  pub name_put_in : (x : List ℕ) (a : ℕ) → body ≡ record e.body { names = map.insert e.body.names x a } → HasName o x (Some a) m n
  name_put_in x a is = subst (HasName o x (Some a) m) (sym in_place)
      (name_set m o e f was (ap (λ (z : Body). (e.parent, z.name, z.node)) is) x (Some a) (name_put e.body.names body.names x a (ap (λ (z : Body). z.names) is)))

  pub name_taken_out : (x : List ℕ) → body ≡ record e.body { names = map.remove e.body.names x } → HasName o x None m n
  name_taken_out x is = subst (HasName o x None m) (sym in_place)
      (name_set m o e f was (ap (λ (z : Body). (e.parent, z.name, z.node)) is) x None (name_gone e.body.names body.names x (ap (λ (z : Body). z.names) is)))

  pub node_put_in : (node : Node) → body ≡ record e.body { node = node } → Sets o node (child m) (child n) (held m) (held n)
  node_put_in node is = node_set_by m n o e node was (in_place ∙ ap (λ (z : Body). map.insert m o (record e { body = z })) is)

  pub len_put_in : map.len n ≡ map.len m
  len_put_in = ap map.len in_place ∙ as_many m o e f was

-- ---- an object more

module _ (m k n : Table) (o : ℕ) (e : Entry) (x : List ℕ) (name : HasName e.parent x (Some o) m k) (put : n ≡ map.insert k o e) (new : held m o ≡ None) where
  abbrev more : Updates o k n (Some e)
  more = put_in k n o e put

  none_yet : entry_at k o ≡ None
  none_yet = nothing_held k o (name.places o ∙ new)

  pub added_after : x ≡ e.body.name → e.body.names ≡ map.empty → Adds e.parent e.body.name o e.body.node (child m) (child n) (held m) (held n)
  added_after is empty = record {
    here = ap (child n e.parent) (sym is) ∙ steps e.parent x ∙ name.here;
    others = λ a y ne. steps a y ∙ name.others a y (λ s t. ne s (t ∙ is));
    place = held_now k n o (Some e) more;
    kept = λ a ne. held_but k n o (Some e) more a ne ∙ name.places a;
  } where
    steps : (a : ℕ) (y : List ℕ) → child n a y ≡ child k a y
    steps = steps_but k n o (Some e) more (λ y. nameless e y empty ∙ sym (ap (option_and_then (λ z. named z y)) none_yet))

  pub more_after : map.len n ≡ map.len m + 1
  more_after = ap map.len put ∙ len_one_more k o e none_yet ∙ ap (λ z. z + 1) name.len

-- ---- two names

pub two_names : (m k n : Table) (b a o : ℕ) (x y : List ℕ) → HasName a y (Some o) m k → HasName b x None k n → (a ≡ b → y ≡ x → ⊥) → HasTwoNames b x a y o m n
two_names m k n b a o x y set drops apart = record {
  left = drops.here;
  here = drops.others a y apart ∙ set.here;
  others = λ e f off on. drops.others e f off ∙ set.others e f on;
  places = λ e. drops.places e ∙ set.places e;
  len = drops.len ∙ set.len;
}

put_twice : (m : Table) (o : ℕ) (e f : Entry) → map.insert (map.insert m o e) o f ≡ map.insert m o f
put_twice m o e f = same_table _ _ (λ q.
    map.get-insert nat_cmp_total (map.insert m o e) o f q
    ∙ ap (cond (eq_by_cmp nat_cmp q o) (Some f)) (map.get-insert nat_cmp_total m o e q)
    ∙ again (eq_by_cmp nat_cmp q o) (Some f) (Some e) (map.get m q)
    ∙ sym (map.get-insert nat_cmp_total m o f q))

-- both in one directory
module _ (m k n : Table) (b o : ℕ) (e : Entry) (body : Body) (x y : List ℕ) (was : entry_at m b ≡ Some e) (out : k ≡ map.remove m b) (put : n ≡ map.insert k b (record e { body = body }))
    (is : body ≡ record e.body { names = map.remove (map.insert e.body.names y o) x }) where
  abbrev half : Entry
  half = record e { body = record e.body { names = map.insert e.body.names y o } }

  abbrev full : Entry
  full = record e { body = body }

  pub names_swapped : (y ≡ x → ⊥) → HasTwoNames b x b y o m n
  names_swapped apart = two_names m (map.insert m b half) n b b o x y first second (λ _ s. apart s) where
    first : HasName b y (Some o) m (map.insert m b half)
    first = name_set m b e half was refl y (Some o) (name_put e.body.names half.body.names y o refl)

    there_now : entry_at (map.insert m b half) b ≡ Some half
    there_now = (put_in m (map.insert m b half) b half refl).here

    at : n ≡ map.insert (map.insert m b half) b full
    at = put ∙ ap (λ (z : Table). map.insert z b full) out ∙ put_over m b full ∙ sym (put_twice m b half full)

    second : HasName b x None (map.insert m b half) n
    second = subst (HasName b x None (map.insert m b half)) (sym at)
        (name_set (map.insert m b half) b half full there_now (ap (λ (z : Body). (e.parent, z.name, z.node)) is) x None
        (name_gone half.body.names body.names x (ap (λ (z : Body). z.names) is)))

-- in two directories, of which one was taken out meanwhile
module _ (m k l n : Table) (b a o : ℕ) (e : Entry) (body : Body) (x y : List ℕ) (was : entry_at m b ≡ Some e) (out : k ≡ map.remove m b) (set : HasName a y (Some o) k l)
    (put : n ≡ map.insert l b (record e { body = body })) (is : body ≡ record e.body { names = map.remove e.body.names x }) (apart : a ≡ b → ⊥) where
  abbrev back : Table
  back = map.insert l b e

  abbrev gone : Updates b m k None
  gone = taken_out m k b out

  abbrev came : Updates b l back (Some e)
  came = put_in l back b e refl

  none_there : entry_at l b ≡ None
  none_there = nothing_held l b (set.places b ∙ held_now m k b None gone)

  first_set : HasName a y (Some o) m back
  first_set = record {
    here = ap (option_and_then (λ z. named z y)) (came.kept a apart) ∙ set.here;
    others = λ c z ne. beside c z ne (same_number c b);
    places = λ c. lies c (same_number c b);
    len = len_one_more l b e none_there ∙ ap (λ z. z + 1) (set.len ∙ ap map.len out) ∙ len_one_less m b e was;
  } where
    beside : (c : ℕ) (z : List ℕ) → (c ≡ a → z ≡ y → ⊥) → (c ≡ b) ⊎ (c ≡ b → ⊥) → child back c z ≡ child m c z
    beside c z ne (inl s) =
        ap (λ d. child back d z) s ∙ ap (option_and_then (λ f. named f z)) came.here ∙ sym (ap (option_and_then (λ f. named f z)) was) ∙ sym (ap (λ d. child m d z) s)
    beside c z ne (inr s) =
        ap (option_and_then (λ f. named f z)) (came.kept c s) ∙ set.others c z ne ∙ ap (option_and_then (λ f. named f z)) (gone.kept c s)

    lies : (c : ℕ) → (c ≡ b) ⊎ (c ≡ b → ⊥) → held back c ≡ held m c
    lies c (inl s) = ap (held back) s ∙ held_now l back b (Some e) came ∙ sym (ap (held m) s ∙ ap (option_map placed) was)
    lies c (inr s) = held_but l back b (Some e) came c s ∙ set.places c ∙ held_but m k b None gone c s

  pub names_traded : HasTwoNames b x a y o m n
  names_traded = two_names m back n b a o x y first_set second (λ s _. apart s) where
    second : HasName b x None back n
    second = subst (HasName b x None back) (sym (put ∙ sym (put_twice l b e (record e { body = body }))))
        (name_set back b e (record e { body = body }) came.here (ap (λ (z : Body). (e.parent, z.name, z.node)) is) x None (name_gone e.body.names body.names x (ap (λ (z : Body). z.names) is)))

-- what stands beside an entry that was taken out
pub stands_beside : (m k : Table) (o a : ℕ) → k ≡ map.remove m o → (a ≡ o → ⊥) → IsSome (held m a) → IsSome (held k a)
stands_beside m k o a out apart h = subst IsSome (sym (held_but m k o None (taken_out m k o out) a apart)) h

-- ---- an object elsewhere

module _ (m k l n : Table) (o b a : ℕ) (e f : Entry) (x y : List ℕ) (was : entry_at m o ≡ Some e) (out : k ≡ map.remove m o) (names : HasTwoNames b x a y o k l)
    (put : n ≡ map.insert l o f) where
  abbrev left : Updates o m k None
  left = taken_out m k o out

  abbrev here : Updates o l n (Some f)
  here = put_in l n o f put

  pub shifted_len : map.len n ≡ map.len m
  shifted_len =
      ap map.len put ∙ len_one_more l o f (nothing_held l o (names.places o ∙ held_now m k o None left)) ∙ ap (λ z. z + 1) (names.len ∙ ap map.len out)
      ∙ len_one_less m o e was

  pub shifted_entry : f.parent ≡ a → f.body ≡ record e.body { name = y } → (b ≡ o → ⊥) → (a ≡ o → ⊥) → Shifts o b x a y (child m) (child n) (held m) (held n)
  shifted_entry parent body isnt_b isnt_a = record {
    left = steps b x isnt_b ∙ names.left;
    here = steps a y isnt_a ∙ names.here;
    others = λ c z off on. beside c z off on (same_number c o);
    place = λ h is. held_now l n o (Some f) here ∙ ap Some (lies h (same_some (placed e) h (sym (ap (option_map placed) was) ∙ is)));
    kept = λ c ne. held_but l n o (Some f) here c ne ∙ names.places c ∙ held_but m k o None left c ne;
  } where
    steps : (c : ℕ) (z : List ℕ) → (c ≡ o → ⊥) → child n c z ≡ child l c z
    steps c z ne = ap (option_and_then (λ g. named g z)) (here.kept c ne)

    lies : (h : Held) → placed e ≡ h → placed f ≡ (a, y, h.2)
    lies h same = λ i. (parent i, (body i).name, ((ap (λ (z : Body). z.node) body ∙ ap (λ (z : Held). z.2) same) i))

    beside : (c : ℕ) (z : List ℕ) → (c ≡ b → z ≡ x → ⊥) → (c ≡ a → z ≡ y → ⊥) → (c ≡ o) ⊎ (c ≡ o → ⊥) → child n c z ≡ child m c z
    beside c z off on (inl s) =
        ap (λ d. child n d z) s ∙ ap (option_and_then (λ g. named g z)) here.here ∙ ap (λ (g : Body). name_in g.names z) body
        ∙ sym (ap (option_and_then (λ g. named g z)) was) ∙ sym (ap (λ d. child m d z) s)
    beside c z off on (inr s) = steps c z s ∙ names.others c z off on ∙ ap (option_and_then (λ g. named g z)) (left.kept c s)

-- ---- outcomes

pub all_of : {T E : Type 0} (r : Result T E) (P Q : T → Type 0) (A B : Type 0) → IfOk r P → OnOk r A → OnOk r B → ((x : T) → P x → A → B → Q x) → IfOk r Q
all_of (Ok x) P Q A B p a b f = f x p a b
all_of (Err e) P Q A B p a b f = tt

pub both_errs : {T E : Type 0} (r : Result T E) (A B X : Type 0) → OnErr r A → OnErr r B → (A → B → X) → OnErr r X
both_errs (Ok x) A B X a b f = tt
both_errs (Err e) A B X a b f = f a b

pub both_oks : {T E : Type 0} (r : Result T E) (A B X : Type 0) → OnOk r A → OnOk r B → (A → B → X) → OnOk r X
both_oks (Ok x) A B X a b f = f a b
both_oks (Err e) A B X a b f = tt

pub either_way : {T E X : Type 0} (r : Result T E) (A B C : Type 0) → OnOk r A → OnErr r B → OnErr r C → (A → X) → (B → C → X) → X
either_way (Ok x) A B C a b c f g = f a
either_way (Err e) A B C a b c f g = g b c
