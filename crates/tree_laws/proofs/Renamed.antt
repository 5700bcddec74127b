-- a RENAME that succeeds
use Rattle.std.proofs.Common.{◌≡◌, ℕ, Bool, true, false, cond, [], ◌∷◌, ◌++◌, Option, Some, None, refl, sym, ap, ◌∙◌, subst}
use Rattle.std.specs.Prelude.{not, ◌&&◌, IsSome, option_map}
use Rattle.std.specs.FinMap as map
use Rattle.nfs3_types.specs.declared.calls.RenameArguments.{RenameArguments}
use Rattle.nfs3_types.specs.declared.calls.NfsCall.TheVariants as calls
use Rattle.nfs3_types.specs.declared.replies.Answer.TheVariants.{Done}
use Rattle.nfs3_types.specs.declared.replies.NfsReply.{NfsReply}
use Rattle.nfs3_types.specs.declared.replies.NfsReply.TheVariants as replies
use Rattle.nfs3_types.specs.declared.replies.Outcome.TheVariants.{Received, Taken}
use Rattle.nfs3_types.specs.declared.status.Failure.{Failure}
use Rattle.file_tree.specs.Change.Change.{Keep, Move}
use Rattle.tree_nodes.specs.Tree.{Names, Tree, same_path, is_bare}
use Rattle.tree_nodes.specs.Moved.{is_from, moved}
use Rattle.tree_nodes.proofs.Soundness.{same_names}
use Rattle.tree_handles.specs.Binding.{Bindings}
use Rattle.tree_handles.specs.Live.{directory_of}
use Rattle.tree_starts.specs.Names.{is_plain}
use Rattle.tree_handles.specs.Entry.{named}
use Rattle.nfs3_types.specs.Procedures.{failure_in}
use Rattle.file_tree.specs.Success.{changed, change_renamed, change_answered}
use Rattle.file_tree.specs.Removed.{may_replace, rename}
use Rattle.tree_laws.specs.Renaming.{HasMoved, IsRenamed, RenameMoves}
use Rattle.tree_nodes.proofs.Chains.{chained, mapped, passed, same_some, both_pass, negated, differ}
use Rattle.tree_nodes.proofs.Found.{same_lists}
use Rattle.tree_laws.proofs.Moved.{has_moved}
use Rattle.tree_laws.proofs.Removing.{named_stands}

-- the two places, and what becomes of the tree
record Places (p q : Names) (before after : Tree) : Type 0 where
  onto_itself : p ≡ q → after ≡ before
  elsewhere : (p ≡ q → ⊥) → HasMoved p q before after

placed : (tree after : Tree) (p q : Names) (may : Bool) (b : Bool) → IsSome (map.get tree p) → same_path p q ≡ b
    → option_map (changed tree) (cond b (Some Keep) (cond (not (is_from q p) && may && is_bare tree q) (Some (Move p q)) None)) ≡ Some after → Places p q tree after
placed tree after p q may true stood is e = record { onto_itself = λ _. sym (same_some tree after e); elsewhere = λ other. absurd (other (same_lists p q is)) }
placed tree after p q may false stood is e =
    let change = mapped (changed tree) (cond (not (is_from q p) && may && is_bare tree q) (Some (Move p q)) None) after e in
    let tests = passed (not (is_from q p) && may && is_bare tree q) (Some (Move p q)) change.0 change.1 in
    let first = both_pass (not (is_from q p) && may) (is_bare tree q) tests.0 in
    let second = both_pass (not (is_from q p)) may first.0 in
    let now : moved tree p q ≡ after = ap (changed tree) (same_some (Move p q) change.0 tests.1) ∙ change.2 in
    record {
      onto_itself = λ same. absurd (differ (same_path p q) (ap (λ (z : Names). same_path z q) same ∙ same_names q) is);
      elsewhere = λ other. subst (HasMoved p q tree) now (has_moved tree p q stood (negated (is_from q p) second.0) first.1);
    }

moves : (binds : Bindings) (before after : Tree) (call : RenameArguments) → option_map (changed before) (rename binds before call) ≡ Some after → IsRenamed binds call before after
moves binds before after call h =
    let change = mapped (changed before) (rename binds before call) after h in
    let source = chained _ (named binds before call.from) change.0 change.1 in
    let target = chained _ (directory_of binds before call.to.directory) change.0 source.2 in
    let is = (passed (is_plain call.to.name) _ change.0 target.2).1 in
    let q = target.0 ++ call.to.name ∷ [] in
    let stood = (named_stands binds before call.from source.0 source.1).3 in
    let places = placed before after source.0.0 q (may_replace source.0.1.content (map.get before q)) (same_path source.0.0 q) (subst IsSome (sym stood) refl) refl
    (ap (option_map (changed before)) is ∙ ap Some change.2) in
    record {
      source = source.0.0;
      node = source.0.1;
      target = q;
      was_named = source.1;
      stood = stood;
      goes_to = ap (option_map (λ d. d ++ call.to.name ∷ [])) target.1;
      onto_itself = places.onto_itself;
      elsewhere = places.elsewhere;
    }

no_rename : (binds : Bindings) (before after : Tree) (call : RenameArguments) → option_map (changed before) None ≡ Some after → IsRenamed binds call before after
no_rename binds before after call e = absurd (cc)

rename_done : (binds : Bindings) (before after : Tree) (call : RenameArguments) (reply : NfsReply) → option_map (changed before) (change_renamed binds before call reply) ≡ Some after
    → IsRenamed binds call before after
rename_done binds before after call (replies.Rename (Done _)) e = moves binds before after call e
rename_done binds before after call _ e = no_rename binds before after call e

rename_answered : (binds : Bindings) (before after : Tree) (number : ℕ) (call : RenameArguments) (reply : NfsReply) (o : Option Failure) → o ≡ None
    → option_map (changed before) (change_answered binds before number (calls.Rename call) reply o) ≡ Some after → IsRenamed binds call before after
rename_answered binds before after number call reply None is e = rename_done binds before after call reply e
rename_answered binds before after number call reply (Some failure) is e = absurd (cc)

pub rename_moves : RenameMoves
rename_moves binds before after number call (Received reply) success e = rename_answered binds before after number call reply (failure_in reply) success e
rename_moves binds before after number call (Taken None) success e = moves binds before after call e
rename_moves binds before after number call (Taken (Some count)) success e = no_rename binds before after call e
