-- what a change of one entry makes of the table
use Rattle.std.proofs.Common.{◌≡◌, ℕ, ◌+◌, ◌⊎◌, inl, inr, Bool, true, false, cond, List, [], ◌∷◌, length, Option, Some, None, refl, sym, ap, ◌∙◌, arith}
use Rattle.std.specs.Prelude.{IsSome, IsTrue, option_and_then, option_map}
use Rattle.std.proofs.lemmas.Cmp.{tied_itself, nat_list_cmp_total}
use Rattle.std.specs.declared.cmp.Ordering.{Ordering}
use Rattle.std.specs.declared.cmp.Ordering.TheVariants.{Less, Equal, Greater}
use Rattle.std.specs.Ordering.{nat_cmp, is_eq, eq_by_cmp}
use Rattle.std.specs.Cmp.Lexicographic.{slice_cmp}
use Rattle.std.specs.Cmp.{nat_cmp_total}
use Rattle.std.specs.FinMap as map
use Rattle.std.specs.FinMap.Entries as es
use Rattle.tree_stores.specs.Names.{Objects, name_cmp}
use Rattle.std.specs.Map.{lookup}
use Rattle.std.specs.BTreeMap.{is_at}
use Rattle.tree_nodes.specs.declared.node.Node.{Node}
use Rattle.tree_nodes.specs.declared.table.Entry.{Entry}
use Rattle.tree_nodes.specs.declared.node.Content.TheVariants.{Directory}
use Rattle.tree_nodes.specs.Openings.{IsOpening}
use Rattle.tree_nodes.specs.Table.{Table, entry_at, name_in, named, child, placed, held}
use Rattle.tree_nodes.specs.Walk.{Held}
use Rattle.tree_nodes.specs.Changes.{Cuts, Sets}
use Rattle.tree_nodes.specs.TableChanges.{HasName}
use Rattle.tree_stores.proofs.SlotLemmas.{len_stays, len_one_more, len_one_less}
use Rattle.tree_nodes.proofs.Entries.{find_lookup}
use Rattle.tree_nodes.proofs.Chains.{isnt, same_some}
use Rattle.tree_nodes.proofs.Beside.{same_number}

pub there : {A : Type 0} (o : Option A) (x : A) → o ≡ Some x → IsSome o
there None x e = absurd (cc)
there (Some y) x e = refl

pub is_equal : (o : Ordering) → is_eq o ≡ true → o ≡ Equal
is_equal Less e = absurd (cc)
is_equal Equal e = refl
is_equal Greater e = absurd (cc)

pub tie : (x y : List ℕ) → is_eq (slice_cmp nat_cmp x y) ≡ true → x ≡ y
tie x y e = map.slice_cmp-IsAntisymmetric map.nat_cmp-IsAntisymmetric x y (is_equal (slice_cmp nat_cmp x y) e)

-- an entry with another node
abbrev pub with_node : Entry → Node → Entry
with_node e node = record e { body = record e.body { node = node } }

-- a name has this object, or none, and each other one has what it had
pub record NameSet (a b : Objects) (x : List ℕ) (w : Option ℕ) : Type 0 where
  pub here : name_in b x ≡ w
  pub others : (y : List ℕ) → (y ≡ x → ⊥) → name_in b y ≡ name_in a y

same_name : (x : List ℕ) → eq_by_cmp name_cmp x x ≡ true
same_name x = ap is_eq (tied_itself nat_list_cmp_total x)

other_name : (x y : List ℕ) → (y ≡ x → ⊥) → eq_by_cmp name_cmp y x ≡ false
other_name x y ne = isnt (eq_by_cmp name_cmp y x) (λ e. ne (tie y x e))

pub name_put : (a b : Objects) (x : List ℕ) (o : ℕ) → b ≡ map.insert a x o → NameSet a b x (Some o)
name_put a b x o is = record {
  here = got x ∙ ap (λ t. cond t (Some o) (name_in a x)) (same_name x);
  others = λ y ne. got y ∙ ap (λ t. cond t (Some o) (name_in a y)) (other_name x y ne);
} where
  got : (y : List ℕ) → name_in b y ≡ cond (eq_by_cmp name_cmp y x) (Some o) (name_in a y)
  got y = ap (λ (z : Objects). map.get z y) is ∙ map.get-insert nat_list_cmp_total a x o y

pub name_gone : (a b : Objects) (x : List ℕ) → b ≡ map.remove a x → NameSet a b x None
name_gone a b x is = record {
  here = got x ∙ ap (λ t. cond t None (name_in a x)) (same_name x);
  others = λ y ne. got y ∙ ap (λ t. cond t None (name_in a y)) (other_name x y ne);
} where
  got : (y : List ℕ) → name_in b y ≡ cond (eq_by_cmp name_cmp y x) None (name_in a y)
  got y = ap (λ (z : Objects). map.get z y) is ∙ map.get-remove nat_list_cmp_total a x y

-- an object has this entry, or none, and each other one has what it had
pub record Updates (o : ℕ) (m n : Table) (w : Option Entry) : Type 0 where
  pub here : entry_at n o ≡ w
  pub kept : (a : ℕ) → (a ≡ o → ⊥) → entry_at n a ≡ entry_at m a

pub same_key : (o : ℕ) → eq_by_cmp nat_cmp o o ≡ true
same_key o = ap is_eq (tied_itself nat_cmp_total o)

pub other_key : (o a : ℕ) → (a ≡ o → ⊥) → eq_by_cmp nat_cmp a o ≡ false
other_key o a ne = isnt (eq_by_cmp nat_cmp a o) (λ e. ne (map.nat_cmp-IsAntisymmetric a o (is_equal (nat_cmp a o) e)))

pub put_in : (m n : Table) (o : ℕ) (e : Entry) → n ≡ map.insert m o e → Updates o m n (Some e)
put_in m n o e is = record {
  here = got o ∙ ap (λ b. cond b (Some e) (entry_at m o)) (same_key o);
  kept = λ a ne. got a ∙ ap (λ b. cond b (Some e) (entry_at m a)) (other_key o a ne);
} where
  got : (a : ℕ) → entry_at n a ≡ cond (eq_by_cmp nat_cmp a o) (Some e) (entry_at m a)
  got a = ap (λ (z : Table). map.get z a) is ∙ map.get-insert nat_cmp_total m o e a

pub taken_out : (m n : Table) (o : ℕ) → n ≡ map.remove m o → Updates o m n None
taken_out m n o is = record {
  here = got o ∙ ap (λ b. cond b None (entry_at m o)) (same_key o);
  kept = λ a ne. got a ∙ ap (λ b. cond b None (entry_at m a)) (other_key o a ne);
} where
  got : (a : ℕ) → entry_at n a ≡ cond (eq_by_cmp nat_cmp a o) None (entry_at m a)
  got a = ap (λ (z : Table). map.get z a) is ∙ map.get-remove nat_cmp_total m o a

-- a look-up finds what stands in the list of all
pub looked_up : (m : Table) (o : ℕ) → entry_at m o ≡ lookup (is_at (nat_cmp o)) (map.entries m)
looked_up m o = map.get-entries m o ∙ find_lookup nat_cmp o (map.entries m)

-- one entry of a table is another
module _ (m : Table) (o : ℕ) (e f : Entry) (was : entry_at m o ≡ Some e) where
  abbrev n : Table
  n = map.insert m o f

  now : Updates o m (map.insert m o f) (Some f)
  now = put_in m (map.insert m o f) o f refl

  pub same_places : placed f ≡ placed e → (a : ℕ) → held (map.insert m o f) a ≡ held m a
  same_places same a = go (same_number a o) where
    go : (a ≡ o) ⊎ (a ≡ o → ⊥) → held n a ≡ held m a
    go (inl is) = ap (held n) is ∙ ap (option_map placed) now.here ∙ ap Some same ∙ sym (ap (held m) is ∙ ap (option_map placed) was)
    go (inr ne) = ap (option_map placed) (now.kept a ne)

  pub same_steps : ((x : List ℕ) → named f x ≡ named e x) → (a : ℕ) (x : List ℕ) → child (map.insert m o f) a x ≡ child m a x
  same_steps same a x = go (same_number a o) where
    go : (a ≡ o) ⊎ (a ≡ o → ⊥) → child n a x ≡ child m a x
    go (inl is) =
        ap (λ z. child n z x) is ∙ ap (option_and_then (λ z. named z x)) now.here ∙ same x ∙ sym (ap (λ z. child m z x) is ∙ ap (option_and_then (λ z. named z x)) was)
    go (inr ne) = ap (option_and_then (λ z. named z x)) (now.kept a ne)

  pub as_many : map.len (map.insert m o f) ≡ map.len m
  as_many = len_stays m o f e was

  pub name_set : placed f ≡ placed e → (x : List ℕ) (w : Option ℕ) → NameSet e.body.names f.body.names x w → HasName o x w m (map.insert m o f)
  name_set same x w names = record {
    here = ap (option_and_then (λ z. named z x)) now.here ∙ names.here;
    others = λ a y ne. go a y ne (same_number a o);
    places = same_places same;
    len = as_many;
  } where
    go : (a : ℕ) (y : List ℕ) → (a ≡ o → y ≡ x → ⊥) → (a ≡ o) ⊎ (a ≡ o → ⊥) → child n a y ≡ child m a y
    go a y ne (inl is) =
        ap (λ z. child n z y) is ∙ ap (option_and_then (λ z. named z y)) now.here ∙ names.others y (ne is)
        ∙ sym (ap (λ z. child m z y) is ∙ ap (option_and_then (λ z. named z y)) was)
    go a y ne (inr apart) = ap (option_and_then (λ z. named z y)) (now.kept a apart)

-- what the key has is looked up
module _ (m n : Table) (o : ℕ) (w : Option Entry) (h : Updates o m n w) where
  pub steps_but : ((x : List ℕ) → option_and_then (λ e. named e x) w ≡ child m o x) → (a : ℕ) (x : List ℕ) → child n a x ≡ child m a x
  steps_but same a x = go (same_number a o) where
    go : (a ≡ o) ⊎ (a ≡ o → ⊥) → child n a x ≡ child m a x
    go (inl is) = ap (λ z. child n z x) is ∙ ap (option_and_then (λ z. named z x)) h.here ∙ same x ∙ sym (ap (λ z. child m z x) is)
    go (inr ne) = ap (option_and_then (λ z. named z x)) (h.kept a ne)

  pub held_but : (a : ℕ) → (a ≡ o → ⊥) → held n a ≡ held m a
  held_but a ne = ap (option_map placed) (h.kept a ne)

  pub held_now : held n o ≡ option_map placed w
  held_now = ap (option_map placed) h.here

pub nothing_held : (m : Table) (o : ℕ) → held m o ≡ None → entry_at m o ≡ None
nothing_held m o e = go (entry_at m o) refl where
  go : (s : Option Entry) → entry_at m o ≡ s → s ≡ None
  go None is = refl
  go (Some x) is = absurd (cc (sym e, ap (option_map placed) is))

pub entry_held : (m : Table) (o : ℕ) (h : Held) → held m o ≡ Some h → (e : Entry) × (entry_at m o ≡ Some e)
entry_held m o h e = go (entry_at m o) refl where
  go : (s : Option Entry) → entry_at m o ≡ s → (x : Entry) × (entry_at m o ≡ Some x)
  go None is = absurd (cc (e, ap (option_map placed) is))
  go (Some x) is = (x, is)

-- no names yet
pub nameless : (e : Entry) (x : List ℕ) → e.body.names ≡ map.empty → named e x ≡ None
nameless e x empty = ap (λ (z : Objects). map.get z x) empty ∙ map.get-empty name_cmp x

pub was_cut : (m k n : Table) (o : ℕ) (e : Entry) (x : List ℕ) → k ≡ map.remove m o → HasName e.parent x None k n → x ≡ e.body.name
    → ((y : List ℕ) → child m o y ≡ None) → Cuts e.parent e.body.name o (child m) (child n) (held m) (held n)
was_cut m k n o e x out name is bare = record {
  here = ap (child n e.parent) (sym is) ∙ name.here;
  others = λ a y ne. name.others a y (λ s t. ne s (t ∙ is)) ∙ steps a y;
  gone = name.places o ∙ held_now m k o None h;
  kept = λ a ne. name.places a ∙ held_but m k o None h a ne;
} where
  h : Updates o m k None
  h = taken_out m k o out

  steps : (a : ℕ) (y : List ℕ) → child k a y ≡ child m a y
  steps = steps_but m k o None h (λ y. sym (bare y))

pub one_less : (m k n : Table) (o : ℕ) (e : Entry) → k ≡ map.remove m o → entry_at m o ≡ Some e → map.len n ≡ map.len k → map.len n + 1 ≡ map.len m
one_less m k n o e out was len = ap (λ z. z + 1) (len ∙ ap map.len out) ∙ len_one_less m o e was

-- the first object
pub opening_alone : (m n : Table) (e : Entry) → m ≡ map.empty → n ≡ map.insert m 0 e → placed e ≡ (0, [], record { object = 0; content = Directory }) → e.body.names ≡ map.empty → IsOpening n
opening_alone m n e empty put place nameless_root = record { root = root; others = beside; bare = bare; len = len } where
  h : Updates 0 m n (Some e)
  h = put_in m n 0 e put

  none : (a : ℕ) → entry_at m a ≡ None
  none a = ap (λ (z : Table). map.get z a) empty ∙ map.get-empty nat_cmp a

  root : held n 0 ≡ Some (0, [], record { object = 0; content = Directory })
  root = held_now m n 0 (Some e) h ∙ ap Some place

  beside : (a : ℕ) → (a ≡ 0 → ⊥) → held n a ≡ None
  beside a ne = held_but m n 0 (Some e) h a ne ∙ ap (option_map placed) (none a)

  bare : (a : ℕ) (x : List ℕ) → child n a x ≡ None
  bare a x = steps_but m n 0 (Some e) h (λ y. nameless e y nameless_root ∙ sym (ap (option_and_then (λ z. named z y)) (none 0))) a x ∙ ap (option_and_then (λ z. named z x)) (none a)

  len : map.len n ≡ 1
  len = omega (arith, ap map.len put, len_one_more m 0 e (none 0), ap map.len empty, map.len-empty nat_cmp Entry)

-- an entry with another node
pub node_set_by : (m n : Table) (o : ℕ) (e : Entry) (node : Node) → entry_at m o ≡ Some e → n ≡ map.insert m o (with_node e node) → Sets o node (child m) (child n) (held m) (held n)
node_set_by m n o e node was is = record {
  same = steps_but m n o (Some (with_node e node)) h (λ x. sym (ap (option_and_then (λ z. named z x)) was));
  place = λ g at. held_now m n o (Some (with_node e node)) h ∙ ap (λ (z : Held). Some (z.0, z.1, node)) (same_some (placed e) g (sym (ap (option_map placed) was) ∙ at));
  kept = held_but m n o (Some (with_node e node)) h;
} where
  h : Updates o m n (Some (with_node e node))
  h = put_in m n o (with_node e node) is

-- where there are names, one of them leads on
first_name : (xs : List (List ℕ × ℕ)) → (length xs ≡ 0 → ⊥) → (x : List ℕ) × (k : ℕ) × (es.find name_cmp x xs ≡ Some k)
first_name [] h = absurd (h refl)
first_name (e ∷ xs) h = (e.0, e.1, ap (λ r. cond (is_eq r) (Some e.1) (es.find name_cmp e.0 xs)) (tied_itself nat_list_cmp_total e.0))

pub leads_on : (m : Table) (o : ℕ) (e : Entry) → entry_at m o ≡ Some e → (map.len e.body.names ≡ 0 → ⊥) → (x : List ℕ) × (k : ℕ) × (child m o x ≡ Some k)
leads_on m o e was h =
    let first = first_name (map.entries e.body.names) (λ none. h (map.len-entries e.body.names ∙ none)) in
    (first.0, first.1, ap (option_and_then (λ z. named z first.0)) was ∙ map.get-entries e.body.names first.0 ∙ first.2)

pub leads_nowhere : (m : Table) (o : ℕ) (e : Entry) → entry_at m o ≡ Some e → map.len e.body.names ≡ 0 → (x : List ℕ) → child m o x ≡ None
leads_nowhere m o e was none x = ap (option_and_then (λ z. named z x)) was ∙ nameless e x (map.empty_of_len e.body.names none)

pub isnt_true : (b : Bool) → b ≡ false → IsTrue b → ⊥
isnt_true true e h = absurd (cc)
isnt_true false e h = absurd (cc)
