-- what a profile changes
use Rattle.std.proofs.Common.{◌≡◌, ◌⊎◌, inl, inr, ℕ, Bool, true, false, cond, List, Option, Some, None, refl, sym, ap, ◌∙◌, subst}
use Rattle.std.specs.Prelude.{option_and_then, option_map}
use Rattle.nfs3_types.specs.declared.calls.NfsCall.{NfsCall}
use Rattle.nfs3_types.specs.declared.replies.NfsReply.{NfsReply}
use Rattle.nfs3_types.specs.declared.replies.Outcome.{Outcome}
use Rattle.nfs3_types.specs.declared.replies.Outcome.TheVariants.{Received, Taken}
use Rattle.tree_starts.specs.declared.profile.Profile.{Profile}
use Rattle.tree_starts.specs.declared.profile.Profile.TheVariants.{Plain, Strict}
use Rattle.tree_nodes.specs.Tree.{Tree}
use Rattle.tree_nodes.proofs.Chains.{chained}
use Rattle.tree_answers.specs.tree_handles_specs.Binding.{Bindings}
use Rattle.tree_answers.specs.tree_handles_specs.Live.{live_entry}
use Rattle.file_tree.specs.Change.{Change}
use Rattle.file_tree.specs.Judging.{lets, kept_if, change_under}
use Rattle.file_tree.specs.Setting.{under, next_in}
use Rattle.file_tree.specs.Strict.{agrees, judged}
use Rattle.file_tree.specs.Success.{changed, change_of, next_tree}
use Rattle.file_tree.proofs.SameAgreement.{judged_is, same_agreement}

-- under the plain profile, where nothing stood at first, all is as the plain rules say
as_it_was : (binds : Bindings) → next_in Plain 0 binds ≡ next_tree binds
as_it_was binds = refl

-- ---- what comes out

tested : (right : Bool) (t : Tree) → (cond right (Some t) None ≡ Some t) ⊎ (cond right (Some t) None ≡ None)
tested true t = inl refl
tested false t = inr refl

-- a tree that is judged stays, or isn't let be
pub kept_or_not : (binds : Bindings) (before : Tree) (call : NfsCall) (outcome : Outcome) (t : Tree) → (judged binds before call outcome t ≡ Some t) ⊎ (judged binds before call outcome t ≡ None)
kept_or_not binds before call (Received reply) t = tested (agrees binds before t call reply) t
kept_or_not binds before call (Taken count) t = inl refl

-- what comes out under any profile comes out under the plain one, with the same tree
pub comes_out_plain : (profile : Profile) (binds : Bindings) (tree after : Tree) (number : ℕ) (call : NfsCall) (outcome : Outcome) → under profile binds tree number call outcome ≡ Some after
    → next_tree binds tree number call outcome ≡ Some after
comes_out_plain Plain binds tree after number call outcome e = e
comes_out_plain Strict binds tree after number call outcome e =
    let found = chained (judged binds tree call outcome) (next_tree binds tree number call outcome) after e in
    found.1 ∙ ap Some (judged_is binds tree call outcome found.0 after found.2)

-- what doesn't come out under the plain one doesn't come out
pub doesnt_come_out : (profile : Profile) (binds : Bindings) (tree : Tree) (number : ℕ) (call : NfsCall) (outcome : Outcome) → next_tree binds tree number call outcome ≡ None
    → under profile binds tree number call outcome ≡ None
doesnt_come_out Plain binds tree number call outcome e = e
doesnt_come_out Strict binds tree number call outcome e = ap (option_and_then (judged binds tree call outcome)) e

-- a call that was taken has no reply to judge
pub taken_alike : (profile : Profile) (binds : Bindings) (tree : Tree) (number : ℕ) (call : NfsCall) (count : Option ℕ)
    → under profile binds tree number call (Taken count) ≡ next_tree binds tree number call (Taken count)
taken_alike Plain binds tree number call count = refl
taken_alike Strict binds tree number call count = itself (next_tree binds tree number call (Taken count)) where
  itself : (o : Option Tree) → option_and_then (λ (t : Tree). Some t) o ≡ o
  itself None = refl
  itself (Some t) = refl

passes : (right : Bool) (t after : Tree) → cond right (Some t) None ≡ Some after → right ≡ true
passes true t after e = refl
passes false t after e = absurd (cc)

-- under the strict one the reply agrees with both trees
pub agrees_strictly : (binds : Bindings) (tree after : Tree) (number : ℕ) (call : NfsCall) (reply : NfsReply) → under Strict binds tree number call (Received reply) ≡ Some after
    → agrees binds tree after call reply ≡ true
agrees_strictly binds tree after number call reply e =
    let found = chained (judged binds tree call (Received reply)) (next_tree binds tree number call (Received reply)) after e in
    subst (λ (t : Tree). agrees binds tree t call reply ≡ true) (judged_is binds tree call (Received reply) found.0 after found.2) (passes (agrees binds tree found.0 call reply) found.0 after found.2)

-- ---- the change that a profile lets be

left_so : (tree : Tree) (change : Change) (left : Option Tree) → (left ≡ Some (changed tree change)) ⊎ (left ≡ None) → left ≡ option_map (changed tree) (kept_if change left)
left_so tree change left (inl kept) = kept ∙ sym (ap (λ (o : Option Tree). option_map (changed tree) (kept_if change o)) kept)
left_so tree change left (inr not_kept) = not_kept ∙ sym (ap (λ (o : Option Tree). option_map (changed tree) (kept_if change o)) not_kept)

judged_change : (binds : Bindings) (tree : Tree) (call : NfsCall) (outcome : Outcome) (change : Change)
    → judged binds tree call outcome (changed tree change) ≡ option_map (changed tree) (kept_if change (judged binds tree call outcome (changed tree change)))
judged_change binds tree call outcome change = left_so tree change (judged binds tree call outcome (changed tree change)) (kept_or_not binds tree call outcome (changed tree change))

strictly : (binds : Bindings) (tree : Tree) (call : NfsCall) (outcome : Outcome) (change : Option Change)
    → option_and_then (judged binds tree call outcome) (option_map (changed tree) change)
    ≡ option_map (changed tree) (option_and_then (λ c. kept_if c (judged binds tree call outcome (changed tree c))) change)
strictly binds tree call outcome None = refl
strictly binds tree call outcome (Some change) = judged_change binds tree call outcome change

pub under_changes : (profile : Profile) (binds : Bindings) (tree : Tree) (number : ℕ) (call : NfsCall) (outcome : Outcome)
    → under profile binds tree number call outcome ≡ option_map (changed tree) (change_under profile binds tree number call outcome)
under_changes Plain binds tree number call outcome = refl
under_changes Strict binds tree number call outcome = strictly binds tree call outcome (change_of binds tree number call outcome)

-- what the code finds of a plan
judged_lets : (binds : Bindings) (before after : Tree) (call : NfsCall) (outcome : Outcome) → judged binds before call outcome after ≡ cond (lets binds before call outcome after) (Some after) None
judged_lets binds before after call (Received reply) = refl
judged_lets binds before after call (Taken count) = refl

module _ (binds : Bindings) (tree : Tree) (number : ℕ) (call : NfsCall) (outcome : Outcome) (change : Change) (is : change_of binds tree number call outcome ≡ Some change) where
  strictly_is : change_under Strict binds tree number call outcome ≡ kept_if change (cond (lets binds tree call outcome (changed tree change)) (Some (changed tree change)) None)
  strictly_is =
      ap (option_and_then (λ c. kept_if c (judged binds tree call outcome (changed tree c)))) is ∙ ap (kept_if change) (judged_lets binds tree (changed tree change) call outcome)

  pub is_kept : lets binds tree call outcome (changed tree change) ≡ true → change_under Strict binds tree number call outcome ≡ Some change
  is_kept let_be = strictly_is ∙ ap (λ b. kept_if change (cond b (Some (changed tree change)) None)) let_be

  pub isnt_kept : lets binds tree call outcome (changed tree change) ≡ false → change_under Strict binds tree number call outcome ≡ None
  isnt_kept not_let = strictly_is ∙ ap (λ b. kept_if change (cond b (Some (changed tree change)) None)) not_let

pub none_kept : (binds : Bindings) (tree : Tree) (number : ℕ) (call : NfsCall) (outcome : Outcome) → change_of binds tree number call outcome ≡ None → change_under Strict binds tree number call outcome ≡ None
none_kept binds tree number call outcome is = ap (option_and_then (λ c. kept_if c (judged binds tree call outcome (changed tree c)))) is

-- ---- bindings of which the same handles are live

module _ (binds other : Bindings) (before after : Tree) (live_before : (handle : List ℕ) → live_entry binds before handle ≡ live_entry other before handle)
    (live_after : (handle : List ℕ) → live_entry binds after handle ≡ live_entry other after handle) where
  pub same_judgement : (call : NfsCall) (outcome : Outcome) → judged binds before call outcome after ≡ judged other before call outcome after
  same_judgement call (Received reply) = ap (λ b. cond b (Some after) None) (same_agreement binds other before after live_before live_after call reply)
  same_judgement call (Taken count) = refl
