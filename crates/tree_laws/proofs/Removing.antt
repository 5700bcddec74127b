-- a node that is taken away
use Rattle.std.proofs.Common.{◌≡◌, ℕ, ◌+◌, ◌-◌, Bool, true, false, cond, [], ◌∷◌, ◌++◌, Option, Some, None, refl, sym, ap, ◌∙◌, subst, arith}
use Rattle.std.specs.Prelude.{◌&&◌, IsSome, option_and_then, option_map}
use Rattle.std.specs.FinMap as map
use Rattle.nfs3_types.specs.declared.calls.DirectoryName.{DirectoryName}
use Rattle.nfs3_types.specs.declared.replies.Answer.TheVariants.{Done}
use Rattle.nfs3_types.specs.declared.replies.NfsReply.{NfsReply}
use Rattle.nfs3_types.specs.declared.replies.NfsReply.TheVariants as replies
use Rattle.nfs3_types.specs.declared.replies.Outcome.TheVariants.{Received, Taken}
use Rattle.nfs3_types.specs.declared.calls.NfsCall.TheVariants as calls
use Rattle.nfs3_types.specs.declared.status.Failure.{Failure}
use Rattle.file_tree.specs.Change.Change.{Remove}
use Rattle.tree_nodes.specs.declared.node.Node.{Node}
use Rattle.tree_nodes.specs.declared.node.Content.{Content}
use Rattle.tree_nodes.specs.Tree.{Names, Tree, path_cmp, is_bare}
use Rattle.tree_nodes.proofs.Entries.{path_total}
use Rattle.tree_handles.specs.Binding.{Bindings}
use Rattle.tree_handles.specs.Live.{directory_of}
use Rattle.tree_starts.specs.Names.{is_plain}
use Rattle.tree_handles.specs.Entry.{entry_at, named}
use Rattle.tree_handles.specs.Kind.{is_directory}
use Rattle.nfs3_types.specs.Procedures.{failure_in}
use Rattle.file_tree.specs.Success.{changed, change_removed, change_directory_removed, change_answered}
use Rattle.file_tree.specs.Made.{only_if}
use Rattle.tree_laws.specs.OneGone.{TakesOneAway, is_no_directory, RemoveTakesOne, RmDirTakesOne}
use Rattle.tree_nodes.proofs.Chains.{chained, mapped, passed, same_some, both_pass}
use Rattle.tree_nodes.proofs.Found.{tied, untied, bare_below}

-- an entry that a call names stands at its path
pub named_stands : (binds : Bindings) (tree : Tree) (place : DirectoryName) (e : Names × Node) → named binds tree place ≡ Some e
    → (directory : Names) × (directory_of binds tree place.directory ≡ Some directory) × (e.0 ≡ directory ++ place.name ∷ []) × (map.get tree e.0 ≡ Some e.1)
named_stands binds tree place e h =
    let found = chained (λ directory. option_map (λ node. (directory ++ place.name ∷ [], node)) (entry_at tree directory place.name)) (directory_of binds tree place.directory) e h in
    let node = mapped (λ node. (found.0 ++ place.name ∷ [], node)) (entry_at tree found.0 place.name) e found.2 in
    let stands = (passed (is_plain place.name) (map.get tree (found.0 ++ place.name ∷ [])) node.0 node.1).1 in
    (found.0, found.1, ap (λ x. x.0) (sym node.2), subst (λ (x : Names × Node). map.get tree x.0 ≡ Some x.1) node.2 stands)

less_than : (n m : ℕ) (b : Bool) → b ≡ true → (n ≡ 0 → ⊥) → m ≡ cond b (n - 1) n → m + 1 ≡ n
less_than n m true e some is = omega (arith, some)
less_than n m false e some is = absurd (cc)

one_fewer : (tree : Tree) (path : Names) (node : Node) → map.get tree path ≡ Some node → map.len (map.remove tree path) + 1 ≡ map.len tree
one_fewer tree path node stood = less_than (map.len tree) (map.len (map.remove tree path)) (map.contains_key tree path) (subst IsSome (sym stood) refl)
    (λ none. empty_has path (subst (λ (t : Tree). map.get t path ≡ Some node) (map.empty_of_len tree none) stood)) (map.len-remove path_total tree path) where
      empty_has : (p : Names) → map.get (map.empty {R = path_cmp}) p ≡ Some node → ⊥
      empty_has p h = let none : map.get (map.empty {X = Node} {R = path_cmp}) p ≡ None = map.get-empty path_cmp p in absurd (cc)

takes : (binds : Bindings) (place : DirectoryName) (kind : Content → Bool) (before after : Tree) → option_map (changed before) (option_and_then (λ e. only_if (kind e.1.content && is_bare before e.0) (Remove e.0)) (named binds before place)) ≡ Some after
    → TakesOneAway binds place kind before after
takes binds place kind before after h =
    let change = mapped (changed before) _ after h in
    let found = chained _ (named binds before place) change.0 change.1 in
    let e = found.0 in
    let tests = passed (kind e.1.content && is_bare before e.0) (Some (Remove e.0)) change.0 found.2 in
    let both = both_pass (kind e.1.content) (is_bare before e.0) tests.0 in
    let stands = (named_stands binds before place e found.1).3 in
    let is : map.remove before e.0 ≡ after = ap (changed before) (same_some (Remove e.0) change.0 tests.1) ∙ change.2 in
    record {
      path = e.0;
      node = e.1;
      was_named = found.1;
      stood = stands;
      was_kind = both.0;
      gone = ap (λ (t : Tree). map.get t e.0) (sym is) ∙ map.get-remove path_total before e.0 e.0 ∙ ap (λ b. cond b None (map.get before e.0)) (tied e.0 e.0 refl);
      alone = bare_below before e.0 both.1;
      others = λ other isnt. ap (λ (t : Tree). map.get t other) (sym is) ∙ map.get-remove path_total before e.0 other
          ∙ ap (λ b. cond b None (map.get before other)) (untied other e.0 isnt);
      fewer = ap (λ (t : Tree). map.len t + 1) (sym is) ∙ one_fewer before e.0 e.1 stands;
    }

no_removal : (binds : Bindings) (place : DirectoryName) (kind : Content → Bool) (before after : Tree) → option_map (changed before) None ≡ Some after → TakesOneAway binds place kind before after
no_removal binds place kind before after e = absurd (cc)

remove_done : (binds : Bindings) (before after : Tree) (place : DirectoryName) (reply : NfsReply) → option_map (changed before) (change_removed binds before place reply) ≡ Some after
    → TakesOneAway binds place is_no_directory before after
remove_done binds before after place (replies.Remove (Done _)) e = takes binds place is_no_directory before after e
remove_done binds before after place _ e = no_removal binds place is_no_directory before after e

rmdir_done : (binds : Bindings) (before after : Tree) (place : DirectoryName) (reply : NfsReply) → option_map (changed before) (change_directory_removed binds before place reply) ≡ Some after
    → TakesOneAway binds place is_directory before after
rmdir_done binds before after place (replies.RmDir (Done _)) e = takes binds place is_directory before after e
rmdir_done binds before after place _ e = no_removal binds place is_directory before after e

remove_answered : (binds : Bindings) (before after : Tree) (number : ℕ) (place : DirectoryName) (reply : NfsReply) (o : Option Failure) → o ≡ None
    → option_map (changed before) (change_answered binds before number (calls.Remove place) reply o) ≡ Some after → TakesOneAway binds place is_no_directory before after
remove_answered binds before after number place reply None is e = remove_done binds before after place reply e
remove_answered binds before after number place reply (Some failure) is e = absurd (cc)

rmdir_answered : (binds : Bindings) (before after : Tree) (number : ℕ) (place : DirectoryName) (reply : NfsReply) (o : Option Failure) → o ≡ None
    → option_map (changed before) (change_answered binds before number (calls.RmDir place) reply o) ≡ Some after → TakesOneAway binds place is_directory before after
rmdir_answered binds before after number place reply None is e = rmdir_done binds before after place reply e
rmdir_answered binds before after number place reply (Some failure) is e = absurd (cc)

pub remove_takes_one : RemoveTakesOne
remove_takes_one binds before after number place (Received reply) success e = remove_answered binds before after number place reply (failure_in reply) success e
remove_takes_one binds before after number place (Taken None) success e = takes binds place is_no_directory before after e
remove_takes_one binds before after number place (Taken (Some count)) success e = no_removal binds place is_no_directory before after e

pub rmdir_takes_one : RmDirTakesOne
rmdir_takes_one binds before after number place (Received reply) success e = rmdir_answered binds before after number place reply (failure_in reply) success e
rmdir_takes_one binds before after number place (Taken None) success e = takes binds place is_directory before after e
rmdir_takes_one binds before after number place (Taken (Some count)) success e = no_removal binds place is_directory before after e
