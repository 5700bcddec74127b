-- successes without their replies
use Rattle.std.proofs.Common.{◌≡◌, ℕ, Bool, true, false, List, ◌∷◌, [], ◌++◌, length, Option, Some, None, ap, ◌∙◌}
use Rattle.std.specs.Prelude.{◌&&◌, if◌then◌else◌, is_none, nat_le, nat_lt, replicate, take, option_and_then, option_map}
use Rattle.std.specs.FinMap as map
use Rattle.nfs3_types.specs.Limits.{file_limit}
use Rattle.nfs3_types.specs.declared.calls.CreateMode.{CreateMode}
use Rattle.nfs3_types.specs.declared.calls.CreateArguments.{CreateArguments}
use Rattle.nfs3_types.specs.declared.calls.DirectoryName.{DirectoryName}
use Rattle.nfs3_types.specs.declared.calls.WriteArguments.{WriteArguments}
use Rattle.nfs3_types.specs.declared.calls.StableHow.{StableHow}
use Rattle.nfs3_types.specs.declared.calls.NfsCall.{NfsCall}
use Rattle.nfs3_types.specs.declared.calls.NfsCall.TheVariants as calls
use Rattle.nfs3_types.specs.declared.replies.Answer.TheVariants.{Done}
use Rattle.nfs3_types.specs.declared.replies.NfsReply.{NfsReply}
use Rattle.nfs3_types.specs.declared.replies.NfsReply.TheVariants as replies
use Rattle.nfs3_types.specs.declared.status.Failure.{Failure}
use Rattle.nfs3_types.specs.Procedures.{failure_in}
use Rattle.tree_nodes.specs.declared.node.Node.{Node}
use Rattle.tree_nodes.specs.declared.node.Content.{Content}
use Rattle.tree_nodes.specs.declared.node.Content.TheVariants as contents
use Rattle.tree_nodes.specs.Files.{node_limit, file_node}
use Rattle.tree_nodes.specs.Tree.{Names, Tree, entry_of}
use Rattle.tree_nodes.proofs.Chains.{mapped}
use Rattle.tree_handles.specs.Binding.{Bindings, gives_object}
use Rattle.tree_handles.specs.Live.{directory_of, file_of}
use Rattle.tree_starts.specs.Names.{is_plain}
use Rattle.file_tree.specs.Change.{Change}
use Rattle.file_tree.specs.Change.Change.{Put}
use Rattle.file_tree.specs.Made.{only_if, first_size, first_verifier, create_absent, create_present, create_over, create_at, create_change, make_entry}
use Rattle.file_tree.specs.Written.{reaches, write_at, write_change}
use Rattle.file_tree.specs.Success.{changed, change_done, change_taken, change_answered}
use Rattle.tree_laws.specs.Leaving.{only_looks}
use Rattle.nfs3_types.specs.declared.replies.Outcome.TheVariants.{Received}
use Rattle.tree_laws.specs.Outcomes.{count_written}
use Rattle.tree_laws.specs.Taking.{TakenAsReceived}

-- what passes with one more test passes without it
last_test : {A : Type 0} (a b : Bool) (x : A) (y : A) → only_if (a && b) x ≡ Some y → only_if (a && true) x ≡ Some y
last_test true true x y e = e
last_test true false x y e = absurd (cc)
last_test false b x y e = absurd (cc)

wrote : (a b c : Bool) (o : Option Change) (y : Change) → (if a && b && c then o else None) ≡ Some y → (if a && b && true then o else None) ≡ Some y
wrote true true true o y e = e
wrote true true false o y e = absurd (cc)
wrote true false c o y e = absurd (cc)
wrote false b c o y e = absurd (cc)

then_some : {X Y : Type 0} (f g : X → Option Y) (o : Option X) (y : Y) → ((x : X) → f x ≡ Some y → g x ≡ Some y) → option_and_then f o ≡ Some y → option_and_then g o ≡ Some y
then_some f g None y goes e = absurd (cc)
then_some f g (Some x) y goes e = goes x e

if_some : {Y : Type 0} (b : Bool) (o p : Option Y) (y : Y) → (o ≡ Some y → p ≡ Some y) → (if b then o else None) ≡ Some y → (if b then p else None) ≡ Some y
if_some true o p y goes e = goes e
if_some false o p y goes e = absurd (cc)

module _ (binds : Bindings) (tree : Tree) (number : ℕ) (c : Change) where
  written : (call : WriteArguments) (count : ℕ) (level : Option StableHow) → write_change binds tree call count level ≡ Some c → write_change binds tree call count None ≡ Some c
  written call count level e =
      then_some _ _ (file_of binds tree call.file) c
      (λ entry. wrote (nat_le count call.count) (nat_le count (length call.bytes)) (reaches call.level level) (write_at entry call.offset (take count call.bytes)) c) e

  absent : (mode : CreateMode) (handle : Option (List ℕ)) (path : Names) → create_absent binds tree number mode handle path ≡ Some c → create_absent binds tree number mode None path ≡ Some c
  absent mode handle path e = four (is_none (entry_of tree number)) (nat_lt (map.len tree) node_limit) (nat_le (first_size mode) file_limit) (gives_object binds handle number) e where
    four : (p q r s : Bool) → only_if (p && q && r && s) (Put path (file_node number (replicate (first_size mode) 0) (first_verifier mode))) ≡ Some c
        → only_if (p && q && r && true) (Put path (file_node number (replicate (first_size mode) 0) (first_verifier mode))) ≡ Some c
    four true true true true e = e
    four true true true false e = absurd (cc)
    four true true false s e = absurd (cc)
    four true false r s e = absurd (cc)
    four false q r s e = absurd (cc)

  present : (mode : CreateMode) (handle : Option (List ℕ)) (path : Names) (object : ℕ) (content : Content) → create_present binds mode handle path object content ≡ Some c
      → create_present binds mode None path object content ≡ Some c
  present mode handle path object contents.Directory e = absurd (cc)
  present mode handle path object (contents.File file) e = go (gives_object binds handle object) e where
    go : (b : Bool) → (if b then create_over mode path object file else None) ≡ Some c → create_over mode path object file ≡ Some c
    go true e = e
    go false e = absurd (cc)
  present mode handle path object (contents.Link _) e = absurd (cc)

  created_at : (mode : CreateMode) (handle : Option (List ℕ)) (path : Names) (node : Option Node) → create_at binds tree number mode handle path node ≡ Some c
      → create_at binds tree number mode None path node ≡ Some c
  created_at mode handle path None e = absent mode handle path e
  created_at mode handle path (Some node) e = present mode handle path node.object node.content e

  created : (call : CreateArguments) (handle : Option (List ℕ)) → create_change binds tree number call handle ≡ Some c → create_change binds tree number call None ≡ Some c
  created call handle e =
      then_some _ _ (directory_of binds tree call.place.directory) c
      (λ directory. let path = directory ++ call.place.name ∷ [] in
      if_some (is_plain call.place.name) _ _ c (created_at call.mode handle path (map.get tree path))) e

  made : (place : DirectoryName) (handle : Option (List ℕ)) (content : Content) → make_entry binds tree number place handle content ≡ Some c → make_entry binds tree number place None content ≡ Some c
  made place handle content e = then_some _ _ (directory_of binds tree place.directory) c at e where
    at : (directory : Names) → only_if (is_plain place.name && is_none (map.get tree (directory ++ place.name ∷ [])) && is_none (entry_of tree number)
        && nat_lt (map.len tree) node_limit && gives_object binds handle number) (Put (directory ++ place.name ∷ []) (record { object = number; content = content })) ≡ Some c
        → only_if (is_plain place.name && is_none (map.get tree (directory ++ place.name ∷ [])) && is_none (entry_of tree number)
        && nat_lt (map.len tree) node_limit && true) (Put (directory ++ place.name ∷ []) (record { object = number; content = content })) ≡ Some c
    at directory e = five (is_plain place.name) (is_none (map.get tree (directory ++ place.name ∷ []))) (is_none (entry_of tree number)) (nat_lt (map.len tree) node_limit) (gives_object binds handle number) e where
      five : (p q r s t : Bool) → only_if (p && q && r && s && t) (Put (directory ++ place.name ∷ []) (record { object = number; content = content })) ≡ Some c
          → only_if (p && q && r && s && true) (Put (directory ++ place.name ∷ []) (record { object = number; content = content })) ≡ Some c
      five true true true true true e = e
      five true true true true false e = absurd (cc)
      five true true true false t e = absurd (cc)
      five true true false s t e = absurd (cc)
      five true false r s t e = absurd (cc)
      five false q r s t e = absurd (cc)

  taken : (call : NfsCall) (reply : NfsReply) → only_looks call ≡ false → change_done binds tree number call reply ≡ Some c → change_taken binds tree number call (count_written (Received reply)) ≡ Some c
  taken (calls.Write call) (replies.Write (Done success)) looks e = written call success.count (Some success.level) e
  taken (calls.Write call) _ looks e = absurd (cc)
  taken (calls.Create call) (replies.Create (Done success)) looks e = created call success.object e
  taken (calls.Create call) _ looks e = absurd (cc)
  taken (calls.SetAttr call) (replies.SetAttr (Done _)) looks e = e
  taken (calls.SetAttr call) _ looks e = absurd (cc)
  taken (calls.MkDir call) (replies.MkDir (Done success)) looks e = made call.place success.object contents.Directory e
  taken (calls.MkDir call) _ looks e = absurd (cc)
  taken (calls.SymLink call) (replies.SymLink (Done success)) looks e = made call.place success.object (contents.Link call.target) e
  taken (calls.SymLink call) _ looks e = absurd (cc)
  taken (calls.Remove place) (replies.Remove (Done _)) looks e = e
  taken (calls.Remove place) _ looks e = absurd (cc)
  taken (calls.RmDir place) (replies.RmDir (Done _)) looks e = e
  taken (calls.RmDir place) _ looks e = absurd (cc)
  taken (calls.Rename call) (replies.Rename (Done _)) looks e = e
  taken (calls.Rename call) _ looks e = absurd (cc)
  taken _ reply looks e = absurd (cc)

  answered : (call : NfsCall) (reply : NfsReply) (failure : Option Failure) → failure ≡ None → change_answered binds tree number call reply failure ≡ Some c → change_done binds tree number call reply ≡ Some c
  answered call reply None none e = e
  answered call reply (Some f) none e = absurd (cc)

pub taken_as_received : TakenAsReceived
taken_as_received binds before after number call reply looks success next =
    let change = mapped (changed before) (change_answered binds before number call reply (failure_in reply)) after next in
    let done = answered binds before number change.0 call reply (failure_in reply) success change.1 in
    ap (option_map (changed before)) (taken binds before number change.0 call reply looks done) ∙ ap Some change.2
