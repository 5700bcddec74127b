-- the parts of a step that a call takes
use Rattle.std.proofs.Common.{◌≡◌, ◌⊎◌, inl, inr, ℕ, Bool, true, false, Option, Some, None, refl, sym, ap, ◌∙◌, subst}
use Rattle.std.specs.Prelude.{is_some, option_map}
use Rattle.std.specs.Option.{option_copied}
use Rattle.std.specs.Borrow.{Bor}
use Rattle.nfs3_types.specs.declared.calls.NfsCall.{NfsCall}
use Rattle.nfs3_types.specs.declared.replies.NfsReply.{NfsReply}
use Rattle.nfs3_types.specs.declared.replies.Outcome.{Outcome}
use Rattle.nfs3_types.specs.declared.replies.Outcome.TheVariants as outcomes
use Rattle.tree_nodes.specs.declared.node.Node.{Node}
use Rattle.tree_nodes.specs.Tree.{Names, Tree, entry_of}
use Rattle.tree_nodes.specs.Undo.{TakesBack}
use Rattle.tree_handles.specs.Binding.{Bindings, object_of}
use Rattle.tree_starts.specs.declared.profile.Profile.{Profile}
use Rattle.file_tree.specs.Setting.{under}
use Rattle.book_laws.specs.Book.{handle_of}
use Rattle.book_laws.specs.Served.{IsServed}
use Rattle.book_ledger.specs.Serving.{IsAllowed}
use Rattle.book_ledger.specs.Recordable.{may_make}
use Rattle.book_ledger.specs.declared.placing.TreeStep.{TreeStep}
use Rattle.book_ledger.specs.declared.ledger.Ledger.{Ledger}
use Rattle.book_ledger.specs.Inside.{object_in, asked_by}
use Rattle.book_ledger.specs.PlaceSteps.{with_own, without_own, bound_if, NameAlike, TakesStep, HasStepped, HasNoStep, IsNumbered, ShowsNow, MayGive, GivesAllowed}
use Rattle.book_ledger.proofs.Naming.{forgotten}

some_mapped : {A B : Type 0} (f : A → B) (o : Option A) → is_some (option_map f o) ≡ is_some o
some_mapped f None = refl
some_mapped f (Some x) = refl

some_copied : {A : Type 0} (o : Option (Bor A)) → is_some (option_copied o) ≡ is_some o
some_copied None = refl
some_copied (Some x) = refl

-- whether a node was found
pub stands_so : (tree : Tree) (object : ℕ) (found : Option (Bor Node)) (b : Bool) → option_copied found ≡ option_map (λ (e : Names × Node). e.1) (entry_of tree object) → b ≡ is_some found → b ≡ is_some (entry_of tree object)
stands_so tree object found b is at = at ∙ sym (some_copied found) ∙ ap is_some is ∙ some_mapped (λ (e : Names × Node). e.1) (entry_of tree object)

-- ---- a step with its own handle bound

pub took : (profile : Profile) (binds bound final : Bindings) (before after : Tree) (number : ℕ) (call : NfsCall) (outcome : Outcome) (step : TreeStep) → bound ≡ with_own number binds → object_of binds (handle_of number) ≡ None
    → under profile bound before number call outcome ≡ Some after → TakesBack step.undo after before → step.made ≡ is_some (entry_of after number)
    → ((step.made ≡ true) × (final ≡ bound)) ⊎ ((step.made ≡ false) × (final ≡ without_own number bound)) → TakesStep profile true binds before number call outcome final after step
took profile binds bound final before after number call outcome step is free next back made either = record {
  next = ap (λ (b : Bindings). under profile b before number call outcome) (sym is) ∙ next;
  back = back;
  made = made;
  names = names either;
} where
  names : ((step.made ≡ true) × (final ≡ bound)) ⊎ ((step.made ≡ false) × (final ≡ without_own number bound)) → NameAlike final (bound_if step.made number binds)
  names (inl e) = λ handle. ap (λ (b : Bindings). object_of b handle) (e.1 ∙ is) ∙ ap (λ (b : Bool). object_of (bound_if b number binds) handle) (sym e.0)
  names (inr e) = λ handle.
      ap (λ (b : Bindings). object_of b handle) (e.1 ∙ ap (without_own number) is) ∙ forgotten number binds free handle ∙ ap (λ (b : Bool). object_of (bound_if b number binds) handle) (sym e.0)

-- what was bound for nothing is let go
pub let_go : (binds bound final : Bindings) (number : ℕ) → bound ≡ with_own number binds → object_of binds (handle_of number) ≡ None → final ≡ without_own number bound → NameAlike final binds
let_go binds bound final number is free gone handle = ap (λ (b : Bindings). object_of b handle) (gone ∙ ap (without_own number) is) ∙ forgotten number binds free handle

pub alike_by : (binds other : Bindings) → binds ≡ other → NameAlike binds other
alike_by binds other is handle = ap (λ (b : Bindings). object_of b handle) is

-- ---- a step of the book's own tree

pub has_stepped : (old : Ledger) (number : ℕ) (outcome : Outcome) (call : NfsCall) (before after : Tree) (bound : Bindings) (step : TreeStep) → call ≡ asked_by old.history.known.calls number → old.tree ≡ Some before
    → TakesStep old.history.known.head.profile (may_make call) old.binds before (object_in old number) call outcome bound after step → HasStepped old number outcome step (record old { binds = bound; tree = Some after })
has_stepped old number outcome call before after bound step is stood takes = record {
  before = before;
  after = after;
  stood = stood;
  parts = refl;
  takes = subst (λ (c : NfsCall). TakesStep old.history.known.head.profile (may_make c) old.binds before (object_in old number) c outcome bound after step) is takes;
}

pub has_no_step : (old : Ledger) (number : ℕ) (outcome : Outcome) (call : NfsCall) (before : Tree) → call ≡ asked_by old.history.known.calls number → old.tree ≡ Some before
    → under old.history.known.head.profile (bound_if (may_make call) (object_in old number) old.binds) before (object_in old number) call outcome ≡ None → HasNoStep old number outcome
has_no_step old number outcome call before is stood none tree at =
    subst (λ (t : Tree). under old.history.known.head.profile (bound_if (may_make (asked_by old.history.known.calls number)) (object_in old number) old.binds) t (object_in old number) (asked_by old.history.known.calls number) outcome ≡ None) (one (sym stood ∙ at))
    (subst (λ (c : NfsCall). under old.history.known.head.profile (bound_if (may_make c) (object_in old number) old.binds) before (object_in old number) c outcome ≡ None) is none) where
      one : {a b : Tree} → Some a ≡ Some b → a ≡ b
      one e = cc

-- ---- the reply

pub fits_so : (ledger : Ledger) (number : ℕ) (outcome : Outcome) (call : NfsCall) (tree : Tree) (reply : NfsReply) → call ≡ asked_by ledger.history.known.calls number → ledger.tree ≡ Some tree
    → outcome ≡ outcomes.Received reply → (IsAllowed ledger.binds tree call reply → IsServed ledger.binds tree (object_in ledger number) call reply) → GivesAllowed ledger number outcome
fits_so ledger number outcome call tree reply same stood is gives one other stood' is' =
    subst (λ (c : NfsCall). IsAllowed ledger.binds one c other → IsServed ledger.binds one (object_in ledger number) c other) same
    (subst (λ (r : NfsReply). IsAllowed ledger.binds one call r → IsServed ledger.binds one (object_in ledger number) call r) (same_reply (sym is ∙ is'))
    (subst (λ (t : Tree). IsAllowed ledger.binds t call reply → IsServed ledger.binds t (object_in ledger number) call reply) (same_tree (sym stood ∙ stood')) gives)) where
      same_reply : outcomes.Received reply ≡ outcomes.Received other → reply ≡ other
      same_reply e = cc

      same_tree : Some tree ≡ Some one → tree ≡ one
      same_tree e = cc

pub not_fit : (ledger : Ledger) (number : ℕ) (outcome : Outcome) (call : NfsCall) (tree : Tree) (reply : NfsReply) → call ≡ asked_by ledger.history.known.calls number → ledger.tree ≡ Some tree
    → outcome ≡ outcomes.Received reply → (IsServed ledger.binds tree (object_in ledger number) call reply → ⊥) → IsNumbered ledger number × ShowsNow ledger number outcome × MayGive ledger number outcome → ⊥
not_fit ledger number outcome call tree reply same stood is never all =
    never (subst (λ (c : NfsCall). IsServed ledger.binds tree (object_in ledger number) c reply) (sym same) (all.2 tree reply stood is))
