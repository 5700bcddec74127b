-- a path that calls spare has the node that it had
use Rattle.std.proofs.Common.{◌≡◌, ◌⊎◌, inl, inr, ℕ, ◌+◌, List, [], ◌∷◌, ◌++◌, length, Option, Some, None, refl, sym, ap, ◌∙◌}
use Rattle.std.specs.Prelude.{◌==◌, option_map}
use Rattle.std.specs.FinMap as map
use Rattle.nfs3_types.specs.declared.calls.DirectoryName.{DirectoryName}
use Rattle.nfs3_types.specs.declared.calls.RenameArguments.{RenameArguments}
use Rattle.nfs3_types.specs.declared.calls.NfsCall.{NfsCall}
use Rattle.nfs3_types.specs.declared.calls.NfsCall.TheVariants as calls
use Rattle.nfs3_types.specs.declared.replies.Outcome.{Outcome}
use Rattle.nfs3_types.specs.declared.replies.Outcome.TheVariants.{Received, Taken}
use Rattle.nfs3_types.specs.declared.status.Failure.{Failure}
use Rattle.nfs3_types.specs.Procedures.{failure_in}
use Rattle.replay_law.specs.Run.{TakenStep, state_after}
use Rattle.tree_starts.specs.Start.{object_made}
use Rattle.tree_starts.specs.declared.profile.Profile.{Profile}
use Rattle.tree_nodes.specs.declared.node.Node.{Node}
use Rattle.tree_nodes.specs.Tree.{Names, Tree}
use Rattle.tree_nodes.proofs.Chains.{chained, mapped, same_some}
use Rattle.tree_nodes.proofs.Found.{found_stands}
use Rattle.tree_handles.specs.Binding.{Bindings}
use Rattle.tree_handles.specs.Live.{directory_of}
use Rattle.tree_handles.specs.Entry.{entry_at, named}
use Rattle.file_tree.specs.Setting.{next_in}
use Rattle.file_tree.specs.StartTree.{start_node, start_tree, Sits}
use Rattle.file_tree.specs.Success.{next_tree}
use Rattle.file_tree.proofs.Profiles.{comes_out_plain}
use Rattle.tree_laws.specs.OnePath.{path_of}
use Rattle.tree_laws.specs.Outcomes.{IsSuccess}
use Rattle.tree_laws.specs.Renaming.{IsRenamed}
use Rattle.tree_laws.specs.StandsOn.{Spares, AllSpare, WhatStoodStays}
use Rattle.tree_laws.proofs.Kept.{failure_leaves}
use Rattle.tree_laws.proofs.Renamed.{rename_moves}
use Rattle.tree_laws.proofs.Starting.{each_stands}
use Rattle.tree_laws.proofs.Staying.{others_stay}
use Rattle.file_tree.proofs.StartStep.{is_or_isnt}

-- the path of an entry that is named is that of its name
named_path : (binds : Bindings) (tree : Tree) (place : DirectoryName) (path : Names) (node : Node) → named binds tree place ≡ Some (path, node) → path_of binds tree place ≡ Some path
named_path binds tree place path node e =
    let in_directory = chained (λ d. option_map {U = Names × Node} (λ n. (d ++ place.name ∷ [], n)) (entry_at tree d place.name)) (directory_of binds tree place.directory) (path, node) e in
    let at = mapped {B = Names × Node} (λ n. (in_directory.0 ++ place.name ∷ [], n)) (entry_at tree in_directory.0 place.name) (path, node) in_directory.2 in
    ap (option_map (λ d. d ++ place.name ∷ [])) in_directory.1 ∙ ap Some (ap (λ (x : Names × Node). x.0) at.2)

left_alone : (before after : Tree) (path : Names) → after ≡ before → map.get after path ≡ map.get before path
left_alone before after path same = ap (λ (t : Tree). map.get t path) same

module _ (binds : Bindings) (before after : Tree) (number : ℕ) (path : Names) where
  renamed : (call : RenameArguments) → Spares binds before path (calls.Rename call) → IsRenamed binds call before after → map.get after path ≡ map.get before path
  renamed call spares is = go (is_or_isnt is.source is.target) where
    go : (is.source ≡ is.target) ⊎ (is.source ≡ is.target → ⊥) → map.get after path ≡ map.get before path
    go (inl same) = left_alone before after path (is.onto_itself same)
    go (inr other) = (is.elsewhere other).others path (spares.0 is.source (named_path binds before call.from is.source is.node is.was_named)) (spares.1 is.target is.goes_to)

  done : (call : RenameArguments) (outcome : Outcome) → IsSuccess outcome → Spares binds before path (calls.Rename call) → next_tree binds before number (calls.Rename call) outcome ≡ Some after
      → map.get after path ≡ map.get before path
  done call outcome success spares e = renamed call spares (rename_moves binds before after number call outcome success e)

  of_rename : (call : RenameArguments) (outcome : Outcome) → Spares binds before path (calls.Rename call) → next_tree binds before number (calls.Rename call) outcome ≡ Some after
      → map.get after path ≡ map.get before path
  of_rename call (Received reply) spares e = go (failure_in reply) refl where
    go : (failure : Option Failure) → failure_in reply ≡ failure → map.get after path ≡ map.get before path
    go None is = done call (Received reply) is spares e
    go (Some failure) is = left_alone before after path (failure_leaves binds before after number (calls.Rename call) reply failure is e)
  of_rename call (Taken count) spares e = done call (Taken count) tt spares e

  pub stays : (call : NfsCall) (outcome : Outcome) → Spares binds before path call → next_tree binds before number call outcome ≡ Some after → map.get after path ≡ map.get before path
  stays (calls.Rename call) outcome spares e = of_rename call outcome spares e
  stays (calls.GetAttr object) outcome spares e = others_stay binds before after number (calls.GetAttr object) outcome path refl e spares
  stays (calls.SetAttr call) outcome spares e = others_stay binds before after number (calls.SetAttr call) outcome path refl e spares
  stays (calls.Lookup place) outcome spares e = others_stay binds before after number (calls.Lookup place) outcome path refl e spares
  stays (calls.ReadLink link) outcome spares e = others_stay binds before after number (calls.ReadLink link) outcome path refl e spares
  stays (calls.Read call) outcome spares e = others_stay binds before after number (calls.Read call) outcome path refl e spares
  stays (calls.Write call) outcome spares e = others_stay binds before after number (calls.Write call) outcome path refl e spares
  stays (calls.Create call) outcome spares e = others_stay binds before after number (calls.Create call) outcome path refl e spares
  stays (calls.MkDir call) outcome spares e = others_stay binds before after number (calls.MkDir call) outcome path refl e spares
  stays (calls.SymLink call) outcome spares e = others_stay binds before after number (calls.SymLink call) outcome path refl e spares
  stays (calls.Remove place) outcome spares e = others_stay binds before after number (calls.Remove place) outcome path refl e spares
  stays (calls.RmDir place) outcome spares e = others_stay binds before after number (calls.RmDir place) outcome path refl e spares
  stays (calls.ReadDir call) outcome spares e = others_stay binds before after number (calls.ReadDir call) outcome path refl e spares
  stays (calls.ReadDirPlus call) outcome spares e = others_stay binds before after number (calls.ReadDirPlus call) outcome path refl e spares
  stays (calls.Commit call) outcome spares e = others_stay binds before after number (calls.Commit call) outcome path refl e spares

run_stays : (profile : Profile) (first : ℕ) (binds : Bindings) (path : Names) (start last : Tree) (steps : List (TakenStep NfsCall Outcome)) → state_after (next_in profile first binds) start steps ≡ Some last
    → AllSpare profile first binds path start steps → map.get last path ≡ map.get start path
run_stays profile first binds path start last [] e spared = ap (λ (t : Tree). map.get t path) (sym (same_some start last e))
run_stays profile first binds path start last (one ∷ steps) e spared =
    let next = chained (λ after. state_after (next_in profile first binds) after steps) (next_in profile first binds start one.number one.call one.outcome) last e in
    run_stays profile first binds path next.0 last steps next.2 (spared.1 next.0 next.1)
    ∙ stays binds start next.0 (object_made first one.number) path one.call one.outcome spared.0 (comes_out_plain profile binds start next.0 (object_made first one.number) one.call one.outcome next.1)

pub what_stood_stays : WhatStoodStays
what_stood_stays profile start binds steps last k o path is listed at runs spared =
    let sits : Sits (start_tree start) (k + 1) o = each_stands start k o is listed in
    let same : sits.path ++ o.name ∷ [] ≡ path = same_some _ path (sym (ap (option_map (λ (e : Names × Node). e.0)) sits.here) ∙ at) in
    run_stays profile (length start) binds path (start_tree start) last steps runs spared
    ∙ sym (ap (map.get (start_tree start)) same) ∙ found_stands (start_tree start) (λ e. e.1.object == k + 1) (sits.path ++ o.name ∷ [], start_node (k + 1) o) sits.here
