-- what a plan of the whole history does is what the handles bound so far do, with those bound that the reply gives
use Rattle.std.proofs.Common.{◌≡◌, ℕ, Bool, true, false, cond, List, [], ◌∷◌, ◌++◌, Option, Some, None, refl, sym, ap, ◌∙◌, eq-eqb}
use Rattle.std.proofs.lemmas.Bool.{eqb-true}
use Rattle.std.specs.Prelude.{◌==◌, ◌&&◌, is_some, option_and_then}
use Rattle.std.specs.Option.{option_map_or}
use Rattle.std.specs.Map.{lookup}
use Rattle.std.specs.Cmp.Lexicographic.{bytes_decides}
use Rattle.nfs3_types.specs.declared.calls.NfsCall.{NfsCall}
use Rattle.nfs3_types.specs.declared.replies.Outcome.{Outcome}
use Rattle.tree_starts.specs.declared.profile.Profile.{Profile}
use Rattle.tree_nodes.specs.Tree.{Tree, entry_of}
use Rattle.tree_handles.specs.Binding.{Bindings, same_bytes, object_of, is_bound}
use Rattle.tree_handles.specs.Finding.{first_of}
use Rattle.tree_handles.specs.Live.{live_entry}
use Rattle.tree_answers.specs.Asked.{first_handle, second_handle}
use Rattle.file_tree.specs.Setting.{under}
use Rattle.decision_steps.specs.Known.{AgreesWith, is_known, knows_handles}
use Rattle.decision_steps.specs.Given.{given}
use Rattle.decision_steps.specs.Bound.{bound_behind, bound_where, with_handle, with_handles, are_bound}
use Rattle.decision_steps.proofs.Parts.{first_passes, second_passes}
use Rattle.decision_steps.proofs.Replies.{given_same}
use Rattle.decision_steps.proofs.Steps.{SeeAlike, under_same, under_heeds}
use Rattle.tree_handles.proofs.HandleOf.{object_is}

-- ---- one pair more

-- of a handle that names this object already
pub bound_is : (o : Option ℕ) (object : ℕ) → option_map_or (λ named. named == object) o false ≡ true → o ≡ Some object
bound_is None object e = absurd (cc)
bound_is (Some named) object e = ap Some (eqb-true named object e)

lookup-behind : (other handle : List ℕ) (object : ℕ) (pairs : List (List ℕ × ℕ))
    → lookup (same_bytes other) (pairs ++ (handle, object) ∷ []) ≡ first_of (lookup (same_bytes other) pairs) (cond (same_bytes other handle) (Some object) None)
lookup-behind other handle object [] = refl
lookup-behind other handle object (pair ∷ pairs) = go (same_bytes other pair.0) (lookup-behind other handle object pairs) where
  go : (b : Bool) → lookup (same_bytes other) (pairs ++ (handle, object) ∷ []) ≡ first_of (lookup (same_bytes other) pairs) (cond (same_bytes other handle) (Some object) None)
      → cond b (Some pair.1) (lookup (same_bytes other) (pairs ++ (handle, object) ∷ []))
      ≡ first_of (cond b (Some pair.1) (lookup (same_bytes other) pairs)) (cond (same_bytes other handle) (Some object) None)
  go true later = refl
  go false later = later

-- what a handle names once another one is bound behind
pub object_of-behind : (known : Bindings) (handle : List ℕ) (object : ℕ) (other : List ℕ)
    → object_of (bound_behind known ((handle, object) ∷ [])) other ≡ first_of (object_of known other) (cond (same_bytes other handle) (Some object) None)
object_of-behind known handle object other = go (same_bytes other known.root) where
  go : (b : Bool) → cond b (Some 0) (lookup (same_bytes other) (known.pairs ++ (handle, object) ∷ []))
      ≡ first_of (cond b (Some 0) (lookup (same_bytes other) known.pairs)) (cond (same_bytes other handle) (Some object) None)
  go true = refl
  go false = lookup-behind other handle object known.pairs

module _ (known : Bindings) (handle : List ℕ) (object : ℕ) where
  abbrev pub more : Bindings
  more = bound_behind known ((handle, object) ∷ [])

  pub names_more : AgreesWith known more
  names_more other named e = object_of-behind known handle object other ∙ ap (λ o. first_of o (cond (same_bytes other handle) (Some object) None)) e

  pub names_it : object_of known handle ≡ None → object_of more handle ≡ Some object
  names_it new =
      object_of-behind known handle object handle ∙ ap (λ o. first_of o (cond (same_bytes handle handle) (Some object) None)) new
      ∙ ap (λ (b : Bool). cond b (Some object) None) ((bytes_decides handle handle).1 refl)

  pub stays_agreed : (plan : Bindings) → AgreesWith known plan → object_of plan handle ≡ Some object → AgreesWith more plan
  stays_agreed plan agrees there other named e = go (object_of known other) (same_bytes other handle) refl refl (sym (object_of-behind known handle object other) ∙ e) where
    go : (o : Option ℕ) (b : Bool) → object_of known other ≡ o → same_bytes other handle ≡ b → first_of o (cond b (Some object) None) ≡ Some named → object_of plan other ≡ Some named
    go (Some x) b is same e = agrees other named (is ∙ e)
    go None true is same e = ap (object_of plan) ((bytes_decides other handle).0 same) ∙ there ∙ e
    go None false is same e = absurd (cc)

-- ---- pairs that a plan has

-- what comes of binding them, which the plan agrees with
pub record Taken (known plan : Bindings) (pairs : List (List ℕ × ℕ)) (taken : Option Bindings) : Type 0 where
  pub more : Bindings
  pub is : taken ≡ Some more
  pub agrees : AgreesWith more plan
  pub grows : AgreesWith known more
  pub bound : are_bound more pairs ≡ true

one_taken : (known plan : Bindings) (pair : List ℕ × ℕ) → AgreesWith known plan → is_bound plan pair.0 pair.1 ≡ true
    → (more : Bindings) × (with_handle known pair ≡ Some more) × AgreesWith more plan × AgreesWith known more × (object_of more pair.0 ≡ Some pair.1)
one_taken known plan pair agrees bound = go (object_of known pair.0) refl where
  there : object_of plan pair.0 ≡ Some pair.1
  there = bound_is (object_of plan pair.0) pair.1 bound

  go : (o : Option ℕ) → object_of known pair.0 ≡ o
      → (more : Bindings) × (bound_where known pair o ≡ Some more) × AgreesWith more plan × AgreesWith known more × (object_of more pair.0 ≡ Some pair.1)
  go None new =
      (bound_behind known (pair ∷ []), refl, stays_agreed known pair.0 pair.1 plan agrees there, names_more known pair.0 pair.1, names_it known pair.0 pair.1 new)
  go (Some object) is =
      let same : object ≡ pair.1 = same_value object pair.1 (sym (agrees pair.0 object is) ∙ there) in
      (known, ap (λ (b : Bool). cond b (Some known) None) (eq-eqb object pair.1 same), agrees, (λ other named e. e), is ∙ ap Some same) where
        same_value : (a b : ℕ) → Some a ≡ Some b → a ≡ b
        same_value a b e = cc

pub all_taken : (known plan : Bindings) (pairs : List (List ℕ × ℕ)) → AgreesWith known plan → are_bound plan pairs ≡ true → Taken known plan pairs (with_handles known pairs)
all_taken known plan [] agrees bound = record { more = known; is = refl; agrees = agrees; grows = λ other named e. e; bound = refl }
all_taken known plan (pair ∷ pairs) agrees bound =
    let one = one_taken known plan pair agrees (first_passes (is_bound plan pair.0 pair.1) (are_bound plan pairs) bound) in
    let rest = all_taken one.0 plan pairs one.2 (second_passes (is_bound plan pair.0 pair.1) (are_bound plan pairs) bound) in
    record {
      more = rest.more;
      is = ap (option_and_then (λ more. with_handles more pairs)) one.1 ∙ rest.is;
      agrees = rest.agrees;
      grows = λ other named e. rest.grows other named (one.3 other named e);
      bound = ap (λ b. b && are_bound rest.more pairs) (object_is rest.more pair.0 pair.1 (rest.grows pair.0 pair.1 one.4)) ∙ rest.bound;
    }

-- ---- a call that a plan goes on by

-- a known handle names the same in all that agree
known_same : (known plan more : Bindings) (handle : List ℕ) → AgreesWith known plan → AgreesWith known more → is_known known handle ≡ true → object_of plan handle ≡ object_of more handle
known_same known plan more handle agrees grows there = go (object_of known handle) refl there where
  go : (o : Option ℕ) → object_of known handle ≡ o → is_some o ≡ true → object_of plan handle ≡ object_of more handle
  go None is e = absurd (cc)
  go (Some object) is e = agrees handle object is ∙ sym (grows handle object is)

seconds_known : (known : Bindings) (o : Option (List ℕ)) (handle : List ℕ) → option_map_or (is_known known) o true ≡ true → o ≡ Some handle → is_known known handle ≡ true
seconds_known known None handle there e = absurd (cc)
seconds_known known (Some other) handle there e = ap (is_known known) (same_value handle other (sym e)) ∙ there where
  same_value : (a b : List ℕ) → Some a ≡ Some b → a ≡ b
  same_value a b e = cc

live_same : (binds other : Bindings) (tree : Tree) (handle : List ℕ) → object_of binds handle ≡ object_of other handle → live_entry binds tree handle ≡ live_entry other tree handle
live_same binds other tree handle same = ap (option_and_then (entry_of tree)) same

-- where all handles of a call are known, all that agree see it alike in every tree
pub all_alike : (known plan more : Bindings) (call : NfsCall) → AgreesWith known plan → AgreesWith known more → knows_handles known call ≡ true → (tree : Tree) → SeeAlike plan more tree call
all_alike known plan more call agrees grows knows tree =
    let first = first_passes (is_known known (first_handle call)) (option_map_or (is_known known) (second_handle call) true) knows in
    let second = second_passes (is_known known (first_handle call)) (option_map_or (is_known known) (second_handle call) true) knows in
    record {
      first = live_same plan more tree (first_handle call) (known_same known plan more (first_handle call) agrees grows first);
      second = λ handle is. live_same plan more tree handle (known_same known plan more handle agrees grows (seconds_known known (second_handle call) handle second is));
    }

-- the handles bound with those of the reply, by which the call leads to the plan's tree
pub record Follows (profile : Profile) (known plan : Bindings) (tree after : Tree) (number : ℕ) (call : NfsCall) (outcome : Outcome) : Type 0 where
  pub more : Bindings
  pub is : with_handles known (given known tree number call outcome) ≡ Some more
  pub agrees : AgreesWith more plan
  pub leads : under profile more tree number call outcome ≡ Some after

pub follows : (profile : Profile) (known plan : Bindings) (tree after : Tree) (number : ℕ) (call : NfsCall) (outcome : Outcome) → AgreesWith known plan → knows_handles known call ≡ true
    → under profile plan tree number call outcome ≡ Some after → Follows profile known plan tree after number call outcome
follows profile known plan tree after number call outcome agrees knows leads =
    let first = first_passes (is_known known (first_handle call)) (option_map_or (is_known known) (second_handle call) true) knows in
    let self : AgreesWith known known = λ other named e. e in
    let pairs : given plan tree number call outcome ≡ given known tree number call outcome =
    given_same plan known tree number call outcome (live_same plan known tree (first_handle call) (known_same known plan known (first_handle call) agrees self first)) in
    let heeded = under_heeds profile plan tree after number call outcome leads in
    let taken = all_taken known plan (given known tree number call outcome) agrees (ap (are_bound plan) (sym pairs) ∙ heeded) in
    record {
      more = taken.more;
      is = taken.is;
      agrees = taken.agrees;
      leads = sym (under_same plan taken.more tree number call outcome (all_alike known plan taken.more call agrees taken.grows knows tree) profile
          (λ then_too is. all_alike known plan taken.more call agrees taken.grows knows then_too) (heeded, ap (are_bound taken.more) pairs ∙ taken.bound)) ∙ leads;
    }
