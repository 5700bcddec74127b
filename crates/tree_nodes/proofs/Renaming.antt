-- the table after a rename
use Rattle.std.proofs.Common.{◌≡◌, ℕ, ◌+◌, ◌⊎◌, inl, inr, List, Option, Some, None, refl, sym, ap, ◌∙◌, arith}
use Rattle.std.specs.Prelude.{IsSome, option_and_then, option_map}
use Rattle.std.specs.FinMap as map
use Rattle.tree_nodes.specs.declared.table.Entry.{Entry}
use Rattle.tree_nodes.specs.declared.table.Place.{Place}
use Rattle.tree_nodes.specs.Walk.{Held}
use Rattle.tree_nodes.specs.Changes.{Shifts}
use Rattle.tree_nodes.specs.Table.{Table, entry_at, child, held, placed}
use Rattle.tree_nodes.specs.Renames.{IsRenamed}
use Rattle.tree_nodes.proofs.Chains.{same_some, value_of}
use Rattle.tree_nodes.proofs.Beside.{same_place}
use Rattle.tree_nodes.proofs.Tables.{Updates, taken_out, one_less, entry_held, steps_but, held_but, held_now}

abbrev pub Lay : Table → ℕ → Place → Type 0
Lay m o place = (h : Held) → held m o ≡ Some h → (place.parent ≡ h.0) × (place.name ≡ h.1)

-- to a name that leads nowhere
pub renamed_free : (m n : Table) (o a : ℕ) (y : List ℕ) (place : Place) → Lay m o place → Shifts o place.parent place.name a y (child m) (child n) (held m) (held n)
    → child m a y ≡ None → map.len n ≡ map.len m → IsRenamed o a y (record { object = o; place = place; displaced = None }) m n
renamed_free m n o a y place lay shifts free len = record {
  object_is = refl;
  lay = lay;
  left = shifts.left;
  here = shifts.here;
  others = shifts.others;
  place = shifts.place;
  kept = λ e ne _. shifts.kept e ne;
  gone = λ e is. absurd (cc (is, free));
  displaced = sym (ap (option_and_then (held m)) free);
  fewer = λ e is. absurd (cc (is, free));
  len = omega arith;
}

-- over an object with no names in it
pub renamed_over : (m k n : Table) (o a t : ℕ) (y : List ℕ) (place : Place) (displaced : Option Entry) → Lay m o place
    → Shifts o place.parent place.name a y (child m) (child k) (held m) (held k) → child m a y ≡ Some t → ((z : List ℕ) → child m t z ≡ None) → IsSome (held m t) → (t ≡ o → ⊥) → (t ≡ a → ⊥)
    → n ≡ map.remove k t → displaced ≡ entry_at k t → map.len k ≡ map.len m
    → IsRenamed o a y (record { object = o; place = place; displaced = displaced }) m n
renamed_over m k n o a t y place displaced lay shifts there bare stands isnt_o isnt_a out is same = record {
  object_is = refl;
  lay = lay;
  left = steps place.parent place.name ∙ shifts.left;
  here = steps a y ∙ shifts.here;
  others = λ e z off on. steps e z ∙ shifts.others e z off on;
  place = λ g at. held_but k n t None h o (λ s. isnt_o (sym s)) ∙ shifts.place g at;
  kept = λ e ne off. held_but k n t None h e (λ s. off (there ∙ ap Some (sym s))) ∙ shifts.kept e ne;
  gone = λ e at. ap (held n) (same_some e t (sym at ∙ there)) ∙ held_now k n t None h;
  displaced = ap (option_map placed) is ∙ shifts.kept t isnt_o ∙ sym (ap (option_and_then (held m)) there);
  fewer = λ e at. omega (arith, same, one);
  len = omega (arith, same, one);
} where
  h : Updates t k n None
  h = taken_out k n t out

  steps : (e : ℕ) (z : List ℕ) → child n e z ≡ child k e z
  steps = steps_but k n t None h (λ z. sym (go z (same_place t place.parent z place.name) (same_place t a z y))) where
    go : (z : List ℕ) → ((t ≡ place.parent) × (z ≡ place.name)) ⊎ (t ≡ place.parent → z ≡ place.name → ⊥) → ((t ≡ a) × (z ≡ y)) ⊎ (t ≡ a → z ≡ y → ⊥) → child k t z ≡ None
    go z (inl at) s = (λ i. child k (at.0 i) (at.1 i)) ∙ shifts.left
    go z (inr off) (inl at) = absurd (isnt_a at.0)
    go z (inr off) (inr on) = shifts.others t z off on ∙ bare z

  one : map.len n + 1 ≡ map.len k
  one =
      let lay = value_of _ stands in
      let entry = entry_held k t lay.0 (shifts.kept t isnt_o ∙ lay.1) in
      one_less k n n t entry.0 out entry.1 refl
