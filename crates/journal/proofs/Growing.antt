-- changes that are made one after the other, each with the handles of the objects up to its own, are a run with the handles of all
use Rattle.std.proofs.Common.{◌≡◌, ◌<◌, ◌≤◌, ◌+◌, ◌⊎◌, inl, inr, ℕ, zero, suc, List, [], ◌∷◌, ◌++◌, length, map, Option, Some, None, refl, sym, ap, ◌∙◌, subst, append-nil, arith}
use Rattle.std.specs.Prelude.{IsSome, option_and_then}
use Rattle.std.specs.List.{range_with_len}
use Rattle.std.proofs.lemmas.Bool.{cases_lt}
use Rattle.std.proofs.lemmas.List.{append_assoc}
use Rattle.nfs3_types.specs.declared.replies.Outcome.TheVariants.{Received}
use Rattle.replay_law.specs.Run.{state_after}
use Rattle.journal.specs.declared.change.Change.{Change}
use Rattle.tree_starts.specs.Start.{IsStart}
use Rattle.tree_starts.specs.declared.object.StartObject.{StartObject}
use Rattle.tree_starts.specs.declared.profile.Profile.{Profile}
use Rattle.tree_nodes.specs.Tree.{Tree, entry_of}
use Rattle.file_tree.specs.Setting.{next_in}
use Rattle.file_tree.specs.StartTree.{start_tree}
use Rattle.file_tree.proofs.Profiles.{comes_out_plain}
use Rattle.tree_laws.proofs.Judged.{others_dont_matter_under}
use Rattle.tree_laws.proofs.Newcomers.{only_its_own_is_new}
use Rattle.tree_laws.proofs.Starting.{none_further}
use Rattle.journal.specs.Rebuilding.{bindings_made, step_in, object_in, objects_named}
use Rattle.journal.specs.Taking.{tree_behind, grown}
use Rattle.journal.proofs.Numbers.{Among, among_more, among_last, bound_front}

-- each object of the tree is the root or has one of these numbers
abbrev pub AreKnown : List ℕ → Tree → Type 0
AreKnown numbers tree = (object : ℕ) → IsSome (entry_of tree object) → (object ≡ 0) ⊎ Among numbers object

-- ---- what stood at first

pub among_range : (n a object : ℕ) → a ≤ object → object < a + n → Among (range_with_len a n) object
among_range zero a object from below = absurd (omega (arith, from, below))
among_range (suc n) a object from below = elim (cases_lt a object) [
  | inl lt ↦ inr (among_range n (a + 1) object (omega (arith, lt)) (omega (arith, below)))
  | inr le ↦ inl (omega (arith, from, le))
]

-- at first there are the root and the starting objects
pub known_start : (start : List StartObject) → IsStart start → AreKnown (range_with_len 1 (length start)) (start_tree start)
known_start start is zero stands = inl refl
known_start start is (suc object) stands = elim (cases_lt (length start) (suc object)) [
  | inl past ↦ absurd (gone (none_further start (suc object) is past) stands)
  | inr within ↦ inr (among_range (length start) 1 (suc object) (omega arith) (omega (arith, within)))
] where
  gone : {X : Type 0} {o : Option X} → o ≡ None → IsSome o → ⊥
  gone e s = cc

-- ---- a run

module _ (profile : Profile) (first : ℕ) (before : List ℕ) (tree : Tree) (change : Change) (known : AreKnown before tree) where
  abbrev own : ℕ
  own = object_in first change

  abbrev so_far : List ℕ
  so_far = before ++ own ∷ []

  known_now : (object : ℕ) → IsSome (entry_of tree object) ⊎ (object ≡ own) → (object ≡ 0) ⊎ Among so_far object
  known_now object (inl stands) = go (known object stands) where
    go : (object ≡ 0) ⊎ Among before object → (object ≡ 0) ⊎ Among so_far object
    go (inl root) = inl root
    go (inr among) = inr (among_more before (own ∷ []) object among)
  known_now object (inr is) = inr (subst (Among so_far) (sym is) (among_last before own))

  pub known_after : (after : Tree) → tree_behind profile first (bindings_made so_far) tree change ≡ Some after → AreKnown so_far after
  known_after after next object stands =
      known_now object
      (only_its_own_is_new (bindings_made so_far) tree after own change.call (Received change.reply) object
      (comes_out_plain profile (bindings_made so_far) tree after own change.call (Received change.reply) next) stands)

  pub same_behind : (rest : List ℕ) → tree_behind profile first (bindings_made (so_far ++ rest)) tree change ≡ tree_behind profile first (bindings_made so_far) tree change
  same_behind rest =
      others_dont_matter_under profile (bindings_made (so_far ++ rest)) (bindings_made so_far) tree own change.call (Received change.reply)
      (λ handle object agreed. bound_front so_far rest handle object (known_now object agreed))

module _ (profile : Profile) (first : ℕ) where
  -- the objects up to that of a change
  abbrev with_own : List ℕ → Change → List ℕ
  with_own before change = before ++ object_in first change ∷ []

  -- the run of changes with the handles of these objects
  abbrev run_with : List ℕ → Tree → List Change → Option Tree
  run_with numbers tree changes = state_after (next_in profile first (bindings_made numbers)) tree (map step_in changes)

  -- changes behind a tree, if there is one, each with the handles of the objects up to its own
  abbrev grown_behind : List ℕ → List Change → Option Tree → Option Tree
  grown_behind before changes tree = option_and_then (λ after. grown profile first before after changes) tree

  pub all_is_grown : (before : List ℕ) (tree : Tree) (changes : List Change) → AreKnown before tree
      → state_after (next_in profile first (bindings_made (before ++ map (object_in first) changes))) tree (map step_in changes) ≡ grown profile first before tree changes
  all_is_grown before tree [] known = refl
  all_is_grown before tree (change ∷ changes) known =
      subst (λ (numbers : List ℕ). run_with numbers tree (change ∷ changes) ≡ grown profile first before tree (change ∷ changes))
      (append_assoc before (object_in first change ∷ []) (map (object_in first) changes))
      (whole (λ after more. all_is_grown (with_own before change) after changes more)) where
        whole : ((after : Tree) → AreKnown (with_own before change) after
            → run_with (with_own before change ++ map (object_in first) changes) after changes ≡ grown profile first (with_own before change) after changes)
            → run_with (with_own before change ++ map (object_in first) changes) tree (change ∷ changes) ≡ grown profile first before tree (change ∷ changes)
        whole later =
            ap (option_and_then (λ after. run_with (with_own before change ++ map (object_in first) changes) after changes))
            (same_behind profile first before tree change known (map (object_in first) changes))
            ∙ go (tree_behind profile first (bindings_made (with_own before change)) tree change) refl where
              go : (o : Option Tree) → tree_behind profile first (bindings_made (with_own before change)) tree change ≡ o
                  → option_and_then (λ after. run_with (with_own before change ++ map (object_in first) changes) after changes) o ≡ grown_behind (with_own before change) changes o
              go None is = refl
              go (Some after) is = later after (known_after profile first before tree change known after is)

  -- changes behind others
  pub grown-append : (before : List ℕ) (tree : Tree) (changes more : List Change)
      → grown profile first before tree (changes ++ more)
      ≡ option_and_then (λ after. grown profile first (before ++ map (object_in first) changes) after more) (grown profile first before tree changes)
  grown-append before tree [] more = ap (λ numbers. grown profile first numbers tree more) (sym (append-nil before))
  grown-append before tree (change ∷ changes) more =
      go (tree_behind profile first (bindings_made (with_own before change)) tree change) (λ after. grown-append (with_own before change) after changes more) where
        go : (o : Option Tree)
            → ((after : Tree) → grown profile first (with_own before change) after (changes ++ more)
            ≡ grown_behind (with_own before change ++ map (object_in first) changes) more (grown profile first (with_own before change) after changes))
            → grown_behind (with_own before change) (changes ++ more) o
            ≡ grown_behind (before ++ map (object_in first) (change ∷ changes)) more (grown_behind (with_own before change) changes o)
        go None later = refl
        go (Some after) later =
            later after
            ∙ ap (λ numbers. grown_behind numbers more (grown profile first (with_own before change) after changes))
            (append_assoc before (object_in first change ∷ []) (map (object_in first) changes))

-- from what stood at first
pub all_leads : (profile : Profile) (start : List StartObject) (changes : List Change) → IsStart start
    → state_after (next_in profile (length start) (bindings_made (objects_named (length start) changes))) (start_tree start) (map step_in changes)
    ≡ grown profile (length start) (range_with_len 1 (length start)) (start_tree start) changes
all_leads profile start changes is = all_is_grown profile (length start) (range_with_len 1 (length start)) (start_tree start) changes (known_start start is)
