-- two bindings that agree on what stands serve alike
use Rattle.std.proofs.Common.{◌≡◌, inl, inr, ℕ, true, false, List, Option, Some, None, refl, sym, ap, ◌∙◌, subst, eq-eqb}
use Rattle.std.proofs.lemmas.Bool.{eqb-true}
use Rattle.std.specs.Prelude.{IsSome, ◌==◌, option_and_then}
use Rattle.std.specs.Option.{option_map_or}
use Rattle.nfs3_types.specs.declared.calls.NfsCall.{NfsCall}
use Rattle.nfs3_types.specs.declared.calls.NfsCall.TheVariants as calls
use Rattle.nfs3_types.specs.declared.replies.Answer.TheVariants.{Done}
use Rattle.nfs3_types.specs.declared.replies.NfsReply.{NfsReply}
use Rattle.nfs3_types.specs.declared.replies.NfsReply.TheVariants as replies
use Rattle.nfs3_types.specs.declared.replies.Outcome.TheVariants.{Received}
use Rattle.nfs3_types.specs.declared.status.Failure.{Failure}
use Rattle.nfs3_types.specs.Procedures.{failure_in}
use Rattle.tree_nodes.specs.declared.node.Node.{Node}
use Rattle.tree_nodes.specs.Tree.{Names, Tree, entry_of}
use Rattle.tree_nodes.proofs.Chains.{chained}
use Rattle.tree_handles.specs.Binding.{Bindings, object_of, is_bound}
use Rattle.tree_handles.specs.Live.{FileEntry, live_entry, as_file, file_of}
use Rattle.tree_laws.specs.Agreeing.{AgreeOn}
use Rattle.tree_laws.proofs.Agreeing.{others_dont_matter}
use Rattle.book_laws.specs.Served.{IsFull, IsFailed, serves, IsServed}

-- what is named so is this object
named_is : (o : Option ℕ) (object : ℕ) → option_map_or (λ n. n == object) o false ≡ true → o ≡ Some object
named_is None object e = absurd (cc)
named_is (Some n) object e = ap Some (eqb-true n object e)

-- what a handle names that is live, it names by both
live_too : (binds other : Bindings) (tree : Tree) (number : ℕ) → AgreeOn binds other tree number → (handle : List ℕ) (e : Names × Node) → live_entry other tree handle ≡ Some e
    → live_entry binds tree handle ≡ Some e
live_too binds other tree number agree handle e live =
    let found = chained (entry_of tree) (object_of other handle) e live in
    let stands : IsSome (entry_of tree found.0) = subst IsSome (sym found.2) refl in
    let bound : is_bound binds handle found.0 ≡ true =
    agree handle found.0 (inl stands) ∙ ap (λ (o : Option ℕ). option_map_or (λ n. n == found.0) o false) found.1 ∙ eq-eqb found.0 found.0 refl in
    ap (option_and_then (entry_of tree)) (named_is (object_of binds handle) found.0 bound) ∙ found.2

file_too : (binds other : Bindings) (tree : Tree) (number : ℕ) → AgreeOn binds other tree number → (handle : List ℕ) (entry : FileEntry) → file_of other tree handle ≡ Some entry
    → file_of binds tree handle ≡ Some entry
file_too binds other tree number agree handle entry at =
    let as_its_file = λ (e : Names × Node). as_file e.0 e.1.object e.1.content in
    let found = chained as_its_file (live_entry other tree handle) entry at in
    ap (option_and_then as_its_file) (live_too binds other tree number agree handle found.0 found.1) ∙ found.2

-- a full success is full by both, whatever handles name the call's own object
pub full_too : (binds other : Bindings) (tree : Tree) (number : ℕ) → AgreeOn binds other tree number → (call : NfsCall) (reply : NfsReply) → IsFull binds tree call reply → IsFull other tree call reply
full_too binds other tree number agree (calls.Write call) (replies.Write (Done success)) full = full
full_too binds other tree number agree (calls.Read call) (replies.Read (Done success)) full = λ entry at. full entry (file_too binds other tree number agree call.file entry at)
full_too binds other tree number agree call reply full = tt

failed_too : (binds other : Bindings) (tree : Tree) (number : ℕ) → AgreeOn binds other tree number → (call : NfsCall) (failure : Failure) → IsFailed binds tree number call failure
    → IsFailed other tree number call failure
failed_too binds other tree number agree call failure (inl cannot) =
    inl (λ allows. cannot (record {
      reply = allows.reply;
      answers = allows.answers;
      succeeds = allows.succeeds;
      leads = subst IsSome (sym (others_dont_matter binds other tree number call (Received allows.reply) agree)) allows.leads;
    }))
failed_too binds other tree number agree call failure (inr other_cause) = inr other_cause

-- a reply that may be given by the one may be given by the other
pub served_too : (binds other : Bindings) (tree : Tree) (number : ℕ) → AgreeOn binds other tree number → (call : NfsCall) (reply : NfsReply) → IsServed binds tree number call reply
    → IsServed other tree number call reply
served_too binds other tree number agree call reply served = go (failure_in reply) served where
  go : (o : Option Failure) → serves binds tree number call reply o → serves other tree number call reply o
  go None full = full_too binds other tree number agree call reply full
  go (Some failure) failed = failed_too binds other tree number agree call failure failed
