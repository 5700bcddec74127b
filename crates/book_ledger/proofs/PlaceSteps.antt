-- the place of a call: the step of the book, and how its parts belong together afterwards
use Rattle.std.proofs.Common.{◌≡◌, ◌≢◌, inl, inr, ℕ, ◌<◌, ◌^◌, Bool, true, false, cond, List, Option, Some, None, refl, sym, ap, ◌∙◌, subst}
use Rattle.std.specs.Prelude.{IsSome, ◌==◌, is_some, if◌then◌else◌, option_and_then}
use Rattle.std.specs.Option.{option_map_or}
use Rattle.std.specs.List.{AllByRecursion}
use Rattle.std.proofs.lemmas.Bool.{ne_eqb}
use Rattle.nfs3_types.specs.declared.calls.NfsCall.{NfsCall}
use Rattle.nfs3_types.specs.declared.calls.NfsCall.TheVariants as calls
use Rattle.nfs3_types.specs.declared.replies.Answer.TheVariants.{Done}
use Rattle.nfs3_types.specs.declared.replies.NfsReply.{NfsReply}
use Rattle.nfs3_types.specs.declared.replies.NfsReply.TheVariants as replies
use Rattle.nfs3_types.specs.declared.replies.Outcome.{Outcome}
use Rattle.nfs3_types.specs.declared.replies.Outcome.TheVariants as outcomes
use Rattle.nfs3_types.specs.declared.status.Failure.{Failure}
use Rattle.nfs3_types.specs.Procedures.{failure_in}
use Rattle.tree_nodes.specs.declared.node.Node.{Node}
use Rattle.tree_nodes.specs.Tree.{Names, Tree, entry_of}
use Rattle.tree_handles.specs.Binding.{Bindings, object_of, is_bound}
use Rattle.tree_handles.specs.Live.{as_file, file_of}
use Rattle.file_tree.specs.Allows.{AllowsSuccess}
use Rattle.tree_starts.specs.declared.profile.Profile.{Profile}
use Rattle.file_tree.specs.Setting.{under}
use Rattle.file_tree.specs.Success.{next_tree}
use Rattle.file_tree.proofs.Profiles.{comes_out_plain}
use Rattle.tree_laws.proofs.Kept.{failure_leaves}
use Rattle.book_laws.specs.Book.{bindings_made}
use Rattle.book_laws.specs.Served.{IsFull, serves, IsServed}
use Rattle.book_laws.specs.Steps.{with_object, with_made}
use Rattle.book_ledger.specs.Recordable.{may_make}
use Rattle.book_ledger.specs.Serving.{IsAllowed}
use Rattle.book_ledger.specs.PlaceSteps.{with_own, bound_if, NameAlike}
use Rattle.book_ledger.proofs.Naming.{own_is, first_of, own_next, alike_next, alike_under}
use Rattle.book_ledger.proofs.Making.{none_made, stays_so, stays_under}

pub nothing : {X : Type 0} (o : Option X) → is_some o ≡ false → o ≡ None
nothing None e = refl
nothing (Some x) e = absurd (cc)

-- ---- what is served, whatever order handles are bound in

file_alike : (one other : Bindings) (tree : Tree) → NameAlike one other → (handle : List ℕ) → file_of one tree handle ≡ file_of other tree handle
file_alike one other tree alike handle =
    ap (λ (o : Option ℕ). option_and_then (λ (e : Names × Node). as_file e.0 e.1.object e.1.content) (option_and_then (entry_of tree) o)) (alike handle)

full_alike : (one other : Bindings) (tree : Tree) (call : NfsCall) (reply : NfsReply) → NameAlike one other → IsFull one tree call reply → IsFull other tree call reply
full_alike one other tree (calls.Write call) (replies.Write (Done success)) alike full = full
full_alike one other tree (calls.Read call) (replies.Read (Done success)) alike full = λ entry is. full entry (file_alike one other tree alike call.file ∙ is)
full_alike one other tree _ _ alike full = tt

allows_alike : (one other : Bindings) (tree : Tree) (n : ℕ) (call : NfsCall) → next_tree one ≡ next_tree other → AllowsSuccess one tree n call → AllowsSuccess other tree n call
allows_alike one other tree n call same a = record {
  reply = a.reply;
  answers = a.answers;
  succeeds = a.succeeds;
  leads = subst (λ (next : Tree → ℕ → NfsCall → Outcome → Option Tree). IsSome (next tree n call (outcomes.Received a.reply))) same a.leads;
}

pub served_alike : (one other : Bindings) (tree : Tree) (n : ℕ) (call : NfsCall) (reply : NfsReply) → NameAlike one other → next_tree one ≡ next_tree other → IsServed one tree n call reply → IsServed other tree n call reply
served_alike one other tree n call reply alike same = go (failure_in reply) where
  go : (o : Option Failure) → serves one tree n call reply o → serves other tree n call reply o
  go None full = full_alike one other tree call reply alike full
  go (Some failure) (inl never) = inl (λ allows. never (allows_alike other one tree n call (sym same) allows))
  go (Some failure) (inr free) = inr free

-- a success of a call that makes an object is full
full_making : (binds : Bindings) (tree : Tree) (call : NfsCall) (reply : NfsReply) → may_make call ≡ true → IsFull binds tree call reply
full_making binds tree (calls.Create call) reply makes = tt
full_making binds tree (calls.MkDir call) reply makes = tt
full_making binds tree (calls.SymLink call) reply makes = tt
full_making binds tree _ reply makes = absurd (cc)

-- ---- one handle more

apart_same : (n : ℕ) (binds : Bindings) (handle : List ℕ) (object : ℕ) → object ≢ n → is_bound (with_own n binds) handle object ≡ is_bound binds handle object
apart_same n binds handle object differs = ap (λ (o : Option ℕ). option_map_or (λ named. named == object) o false) (own_is n binds handle) ∙ go (object_of binds handle) _ where
  go : (o : Option ℕ) (b : Bool) → option_map_or (λ named. named == object) (first_of o (cond b (Some n) None)) false ≡ option_map_or (λ named. named == object) o false
  go (Some m) b = refl
  go None true = ne_eqb n object (λ same. differs (sym same))
  go None false = refl

-- the step of a call whose object wasn't there, in the book's own bindings
module _ (profile : Profile) (binds : Bindings) (made : List ℕ) (alike : NameAlike binds (bindings_made made)) (number : ℕ) (lt : number < 2 ^ 64) (others : AllByRecursion (λ other. (other ≢ number) × (other < 2 ^ 64)) made)
    (before : Tree) (absent : entry_of before number ≡ None) (call : NfsCall) (reply : NfsReply) where
  abbrev makes_it : Tree → List ℕ
  makes_it after = with_made number after made

  -- what the step leads to
  pub step_made : (own : Bool) (after : Tree) → may_make call ≡ own → under profile (bound_if own number binds) before number call (outcomes.Received reply) ≡ Some after
      → (there : Bool) → is_some (entry_of after number) ≡ there
      → under profile (bindings_made (if there then with_object number made else made)) before number call (outcomes.Received reply) ≡ Some after
  step_made true after makes next true is = ap (λ (f : Tree → ℕ → NfsCall → Outcome → Option Tree). f before number call (outcomes.Received reply)) (sym (own_next number made lt others profile binds alike)) ∙ next
  step_made true after makes next false is =
      ap (λ (f : Tree → ℕ → NfsCall → Outcome → Option Tree). f before number call (outcomes.Received reply)) (sym (alike_under profile binds made alike))
      ∙ stays_under profile (with_own number binds) binds before after number call reply makes absent (apart_same number binds) next (nothing (entry_of after number) is)
  step_made false after makes next true is = absurd (none_there (none_made binds before after number call reply makes absent (comes_out_plain profile binds before after number call (outcomes.Received reply) next)) is) where
    none_there : {X : Type 0} {o : Option X} → o ≡ None → is_some o ≡ true → ⊥
    none_there e f = cc
  step_made false after makes next false is = ap (λ (f : Tree → ℕ → NfsCall → Outcome → Option Tree). f before number call (outcomes.Received reply)) (sym (alike_under profile binds made alike)) ∙ next

  -- and back
  pub made_step : (own : Bool) (after : Tree) → may_make call ≡ own → (there : Bool) → is_some (entry_of after number) ≡ there
      → under profile (bindings_made (if there then with_object number made else made)) before number call (outcomes.Received reply) ≡ Some after
      → under profile (bound_if own number binds) before number call (outcomes.Received reply) ≡ Some after
  made_step true after makes true is next = ap (λ (f : Tree → ℕ → NfsCall → Outcome → Option Tree). f before number call (outcomes.Received reply)) (own_next number made lt others profile binds alike) ∙ next
  made_step true after makes false is next =
      stays_under profile binds (with_own number binds) before after number call reply makes absent (λ handle object differs. sym (apart_same number binds handle object differs))
      (ap (λ (f : Tree → ℕ → NfsCall → Outcome → Option Tree). f before number call (outcomes.Received reply)) (alike_under profile binds made alike) ∙ next) (nothing (entry_of after number) is)
  made_step false after makes true is next = absurd (none_there (none_made (bindings_made (with_object number made)) before after number call reply makes absent
      (comes_out_plain profile (bindings_made (with_object number made)) before after number call (outcomes.Received reply) next)) is) where
        none_there : {X : Type 0} {o : Option X} → o ≡ None → is_some o ≡ true → ⊥
        none_there e f = cc
  made_step false after makes false is next = ap (λ (f : Tree → ℕ → NfsCall → Outcome → Option Tree). f before number call (outcomes.Received reply)) (alike_under profile binds made alike) ∙ next

-- what the tree allows the server may give
module _ (binds : Bindings) (made : List ℕ) (alike : NameAlike binds (bindings_made made)) (number : ℕ) (before : Tree) (absent : entry_of before number ≡ None) (call : NfsCall) (reply : NfsReply) where
  pub given : (own : Bool) (after : Tree) → may_make call ≡ own → next_tree (bound_if own number binds) before number call (outcomes.Received reply) ≡ Some after
      → (IsAllowed binds before call reply → IsServed binds before number call reply) → IsServed (bindings_made made) before number call reply
  given own after makes next gives = served_alike binds (bindings_made made) before number call reply alike (alike_next binds made alike) (go own makes next) where
    made_there : (there : Bool) → is_some (entry_of after number) ≡ there → may_make call ≡ true → next_tree (with_own number binds) before number call (outcomes.Received reply) ≡ Some after → IsServed binds before number call reply
    made_there false is makes next =
        gives (number, after, stays_so (with_own number binds) binds before after number call reply makes absent (apart_same number binds) next (nothing (entry_of after number) is))
    made_there true is makes next = succeeds (failure_in reply) refl where
      none_there : {X : Type 0} {o : Option X} → o ≡ None → is_some o ≡ true → ⊥
      none_there e f = cc

      succeeds : (o : Option Failure) → failure_in reply ≡ o → serves binds before number call reply (failure_in reply)
      succeeds None no_failure = subst (serves binds before number call reply) (sym no_failure) (full_making binds before call reply makes)
      succeeds (Some failure) fails =
          absurd (none_there (ap (λ (t : Tree). entry_of t number) (failure_leaves (with_own number binds) before after number call reply failure fails next) ∙ absent) is)

    go : (own : Bool) → may_make call ≡ own → next_tree (bound_if own number binds) before number call (outcomes.Received reply) ≡ Some after → IsServed binds before number call reply
    go true makes next = made_there (is_some (entry_of after number)) refl makes next
    go false makes next = gives (number, after, next)
