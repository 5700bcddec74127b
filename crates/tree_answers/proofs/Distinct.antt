-- one name more in a list of names
use Rattle.std.proofs.Common.{◌≡◌, ℕ, Bool, true, false, cond, List, [], ◌∷◌, ◌++◌, refl, sym, ap, ◌∙◌}
use Rattle.std.specs.Prelude.{not, ◌&&◌, ◌||◌}
use Rattle.std.specs.Ordering.{nat_cmp}
use Rattle.std.specs.Cmp.Lexicographic.{slice_cmp, texts_ties}
use Rattle.std.specs.BTreeSet.{BTreeSet, contains}
use Rattle.std.specs.BTreeMap.{is_at}
use Rattle.std.proofs.lemmas.List.Folds.{list_any-append}
use Rattle.std.proofs.lemmas.Cmp.{nat_list_eq_equiv}
use Rattle.tree_handles.specs.Binding.{same_bytes}
use Rattle.tree_answers.specs.Listing.{is_among, are_distinct}
use Rattle.tree_answers.specs.Held.{HasNames}

or_false : (b : Bool) → (b || false) ≡ b
or_false true = refl
or_false false = refl

either : (a b : Bool) → cond a true b ≡ (b || a)
either true true = refl
either true false = refl
either false true = refl
either false false = refl

pub among_more : (names : List (List ℕ)) (name q : List ℕ) → is_among (names ++ name ∷ []) q ≡ (is_among names q || same_bytes name q)
among_more names name q =
    list_any-append (λ other. same_bytes other q) names (name ∷ []) ∙ ap (λ b. is_among names q || b) (or_false (same_bytes name q))

-- the set with one name more has the list's names with it
pub has_more : (old new : BTreeSet (List ℕ)) (names : List (List ℕ)) (name : List ℕ) → HasNames old names
    → ((q : List ℕ) → contains (slice_cmp nat_cmp) new q ≡ cond (is_at (slice_cmp nat_cmp name) q) true (contains (slice_cmp nat_cmp) old q)) → HasNames new (names ++ name ∷ [])
has_more old new names name has updates q =
    updates q ∙ either (is_at (slice_cmp nat_cmp name) q) (contains (slice_cmp nat_cmp) old q) ∙ ap (λ b. b || is_at (slice_cmp nat_cmp name) q) (has q)
    ∙ ap (λ b. is_among names q || b) (sym (texts_ties name q)) ∙ sym (among_more names name q)

-- neither of two, and a third, one after the other
parted : (a b c d : Bool) → (not (a || b) && (c && not d)) ≡ ((not a && c) && not (b || d))
parted true b c d = refl
parted false true true d = refl
parted false true false d = refl
parted false false c d = refl

-- no name stands twice with one name more, where none does without it and it isn't there
pub distinct_more : (names : List (List ℕ)) (name : List ℕ) → are_distinct (names ++ name ∷ []) ≡ (are_distinct names && not (is_among names name))
distinct_more [] name = refl
distinct_more (n ∷ names) name =
    ap (λ b. not b && are_distinct (names ++ name ∷ [])) (among_more names name n)
    ∙ ap (λ b. not (is_among names n || same_bytes name n) && b) (distinct_more names name)
    ∙ ap (λ b. not (is_among names n || b) && (are_distinct names && not (is_among names name))) (nat_list_eq_equiv.symm name n)
    ∙ parted (is_among names n) (same_bytes n name) (are_distinct names) (is_among names name)
