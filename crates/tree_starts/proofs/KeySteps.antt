-- The directories and names of objects, looked up in a map.
use Rattle.std.proofs.Common.{◌≡◌, ◌==◌, ◌&&◌, nat_eq, ℕ, suc, Bool, true, false, ◌||◌, not, List, [], ◌∷◌, map, Option, Some, None, Bor, refl, sym, ap, ◌∙◌}
use Rattle.std.specs.Cmp.Lexicographic.{pointwise}
use Rattle.std.specs.Map.{lookup}
use Rattle.std.proofs.lemmas.Map.Made.{is_some-lookup}
use Rattle.std.specs.List.{list_any, slice_get}
use Rattle.std.specs.Option.{is_some, option_map, option_map_or}
use Rattle.std.specs.Map.{keys_of}
use Rattle.std.proofs.lemmas.Option.{slice_get-map}
use Rattle.tree_starts.specs.Start.{Key, is_parent, is_free}

-- a test of what is made of the keys of entries
pub any-keys : {K V : Type 0} (key : K × V → Key) (p : Key → Bool) (q : K → Bool) → ((e : K × V) → p (key e) ≡ q e.0) → (es : List (K × V)) → list_any p (map key es) ≡ list_any q (keys_of es)
any-keys key p q same [] = refl
any-keys key p q same (e ∷ es) = ap (λ b. b || list_any p (map key es)) (same e) ∙ ap (λ b. q e.0 || b) (any-keys key p q same es)

abbrev pub entry_key : (ℕ × Bor (List ℕ)) × Bool → Key
entry_key e = record { parent = e.0.0; name = e.0.1.now; is_directory = e.1 }

-- a directory and a name that aren't found are free
pub free-is : (parent : ℕ) (name : Bor (List ℕ)) (es : List ((ℕ × Bor (List ℕ)) × Bool))
    → not (is_some (lookup (λ k. (parent == k.0) && pointwise nat_eq name.now k.1.now) es)) ≡ is_free (map entry_key es) parent name.now
unfolding is_free
free-is parent name es =
    let test : ℕ × Bor (List ℕ) → Bool = λ k. (parent == k.0) && pointwise nat_eq name.now k.1.now in
    ap not (is_some-lookup test es ∙ sym (any-keys entry_key (λ key. (parent == key.parent) && pointwise nat_eq name.now key.name) test (λ e. refl) es))

pub parent-root : (keys : List Key) (parent : ℕ) → parent ≡ 0 → true ≡ is_parent keys parent
unfolding is_parent
parent-root keys parent is = rw is refl

or_map : {X Y : Type 0} (f : X → Y) (p : Y → Bool) (o : Option X) → option_map_or p (option_map f o) false ≡ option_map_or (λ x. p (f x)) o false
or_map f p None = refl
or_map f p (Some x) = refl

pub parent-at : {E : Type 0} (key : E → Key) (es : List E) (parent index : ℕ) → parent ≡ suc index → is_parent (map key es) parent ≡ option_map_or (λ e. (key e).is_directory) (slice_get es index) false
unfolding is_parent
parent-at key es parent index is = rw is (ap (λ o. option_map_or (λ k. k.is_directory) o false) (slice_get-map key es index) ∙ or_map key (λ k. k.is_directory) (slice_get es index))

pub none_of : {X : Type 0} (o : Option X) → not (is_some o) ≡ true → o ≡ None
none_of None no_one = refl
none_of (Some x) no_one = cc
