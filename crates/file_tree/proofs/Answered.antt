-- the changes of calls whose replies tell of what was found or made, or list entries
use Rattle.std.proofs.Common.{◌≡◌, ℕ, ◌⊎◌, inl, inr, Bool, true, false, cond, List, [], ◌∷◌, ◌++◌, Option, Some, None, refl, sym, subst}
use Rattle.std.specs.Prelude.{◌&&◌, IsSome, nat_lt, is_none}
use Rattle.std.specs.FinMap as map
use Rattle.nfs3_types.specs.Procedures.{failure_in}
use Rattle.nfs3_types.specs.declared.calls.CreateArguments.{CreateArguments}
use Rattle.nfs3_types.specs.declared.calls.CreateMode.{CreateMode}
use Rattle.nfs3_types.specs.declared.calls.CreateMode.TheVariants.{Unchecked, Guarded, Exclusive}
use Rattle.nfs3_types.specs.declared.calls.DirectoryName.{DirectoryName}
use Rattle.nfs3_types.specs.declared.calls.NfsCall.{NfsCall}
use Rattle.nfs3_types.specs.declared.calls.NfsCall.TheVariants as calls
use Rattle.nfs3_types.specs.declared.replies.Answer.TheVariants.{Done}
use Rattle.nfs3_types.specs.declared.replies.NfsReply.{NfsReply}
use Rattle.nfs3_types.specs.declared.replies.NfsReply.TheVariants as replies
use Rattle.nfs3_types.specs.declared.replies.ReadDirPlusSuccess.{ReadDirPlusSuccess}
use Rattle.nfs3_types.specs.declared.status.Failure.{Failure}
use Rattle.reply_attributes.specs.Attributes.{of_answer, entries_of}
use Rattle.tree_nodes.specs.declared.node.Node.{Node}
use Rattle.tree_nodes.specs.declared.node.File.{File}
use Rattle.tree_nodes.specs.declared.node.Content.{Content}
use Rattle.tree_nodes.specs.declared.node.Content.TheVariants as contents
use Rattle.tree_nodes.specs.Tree.{Names, Tree, entry_of}
use Rattle.tree_nodes.proofs.Chains.{chained, passed, same_some}
use Rattle.tree_answers.specs.tree_handles_specs.Binding.{Bindings, gives_object}
use Rattle.tree_starts.specs.Names.{is_plain}
use Rattle.tree_answers.specs.tree_handles_specs.Live.{directory_of}
use Rattle.tree_answers.specs.Asked.{first_place}
use Rattle.tree_answers.specs.Listing.{readdirplus_is_legal}
use Rattle.file_tree.specs.AtPlace.{IsAtPlace}
use Rattle.file_tree.specs.Change.{Change}
use Rattle.file_tree.specs.Change.Change.{Keep, Put}
use Rattle.file_tree.specs.Made.{only_if, made_by, set_size, create_over, create_present, create_at, create_change, make_entry}
use Rattle.file_tree.specs.Success.{change_created, change_directory_made, change_link_made, change_removed, change_directory_removed, change_renamed, change_done, change_answered, change_received}

-- ---- a change that stays, or puts a node at a path

abbrev PutsOn : Names → Change → Type 0
PutsOn path change = (change ≡ Keep) ⊎ ((node : Node) × (change ≡ Put path node))

kept : (b : Bool) (change : Change) → only_if b Keep ≡ Some change → change ≡ Keep
kept true change e = cc
kept false change e = absurd (cc)

put_if : (b : Bool) (path : Names) (node : Node) (change : Change) → only_if b (Put path node) ≡ Some change → change ≡ Put path node
put_if true path node change e = cc
put_if false path node change e = absurd (cc)

sized : (path : Names) (object : ℕ) (file : File) (size : Option ℕ) (change : Change) → set_size path object file size ≡ Some change → PutsOn path change
sized path object file None change e = inl (cc)
sized path object file (Some size) change e = inr (_, put_if _ path _ change e)

over : (mode : CreateMode) (path : Names) (object : ℕ) (file : File) (change : Change) → create_over mode path object file ≡ Some change → PutsOn path change
over (Unchecked attributes) path object file change e = sized path object file attributes.size change e
over (Guarded attributes) path object file change e = absurd (cc)
over (Exclusive verifier) path object file change e = inl (kept (made_by file.verifier verifier) change e)

present : (binds : Bindings) (mode : CreateMode) (handle : Option (List ℕ)) (path : Names) (object : ℕ) (content : Content) (change : Change)
    → create_present binds mode handle path object content ≡ Some change → PutsOn path change
present binds mode handle path object contents.Directory change e = absurd (cc)
present binds mode handle path object (contents.File file) change e =
    over mode path object file change (passed (gives_object binds handle object) (create_over mode path object file) change e).1
present binds mode handle path object (contents.Link text) change e = absurd (cc)

created_at : (binds : Bindings) (tree : Tree) (number : ℕ) (mode : CreateMode) (handle : Option (List ℕ)) (path : Names) (o : Option Node) (change : Change)
    → create_at binds tree number mode handle path o ≡ Some change → PutsOn path change
created_at binds tree number mode handle path None change e = inr (_, put_if _ path _ change e)
created_at binds tree number mode handle path (Some node) change e = present binds mode handle path node.object node.content change e

module _ (binds : Bindings) (tree : Tree) (number : ℕ) (change : Change) where
  -- ---- what is made, or found by a CREATE

  at_place : (place : DirectoryName) (directory : Names) → directory_of binds tree place.directory ≡ Some directory → is_plain place.name ≡ true
      → PutsOn (directory ++ place.name ∷ []) change → IsAtPlace binds tree place change
  at_place place directory leads plain (inl keeps) = inl keeps
  at_place place directory leads plain (inr puts) = inr (record { directory = directory; node = puts.0; leads = leads; plain = plain; is = puts.1 })

  created : (call : CreateArguments) (handle : Option (List ℕ)) → create_change binds tree number call handle ≡ Some change → IsAtPlace binds tree call.place change
  created call handle e =
      let found = chained (λ directory. let path = directory ++ call.place.name ∷ [] in cond (is_plain call.place.name) (create_at binds tree number call.mode handle path (map.get tree path)) None)
      (directory_of binds tree call.place.directory) change e in
      let path = found.0 ++ call.place.name ∷ [] in
      let plain = passed (is_plain call.place.name) (create_at binds tree number call.mode handle path (map.get tree path)) change found.2 in
      at_place call.place found.0 found.1 plain.0 (created_at binds tree number call.mode handle path (map.get tree path) change plain.1)

  made : (place : DirectoryName) (handle : Option (List ℕ)) (content : Content) → make_entry binds tree number place handle content ≡ Some change → IsAtPlace binds tree place change
  made place handle content e =
      let found = chained (λ directory. only_if (is_plain place.name && is_none (map.get tree (directory ++ place.name ∷ [])) && is_none (entry_of tree number) && nat_lt (map.len tree) 4294967295
      && gives_object binds handle number) (Put (directory ++ place.name ∷ []) (record { object = number; content = content }))) (directory_of binds tree place.directory) change e in
      let put : Change = Put (found.0 ++ place.name ∷ []) (record { object = number; content = content }) in
      let tests = passed _ (Some put) change found.2 in
      let plain = first_four (is_plain place.name) _ _ _ _ tests.0 in
      at_place place found.0 found.1 plain (inr (record { object = number; content = content }, sym (same_some put change tests.1))) where
        first_four : (a b c d e : Bool) → ((((a && b) && c) && d) && e) ≡ true → a ≡ true
        first_four true b c d e h = refl
        first_four false b c d e h = absurd (cc)

  -- ---- replies that tell of it

  is_created : (call : CreateArguments) (reply : NfsReply) → change_created binds tree number call reply ≡ Some change → IsAtPlace binds tree call.place change
  is_created call (replies.Create (Done success)) e = created call success.object e
  is_created call _ e = absurd (cc)

  is_directory_made : (call : _) (reply : NfsReply) → change_directory_made binds tree number call reply ≡ Some change → IsAtPlace binds tree call.place change
  is_directory_made call (replies.MkDir (Done success)) e = made call.place success.object contents.Directory e
  is_directory_made call _ e = absurd (cc)

  is_link_made : (call : _) (reply : NfsReply) → change_link_made binds tree number call reply ≡ Some change → IsAtPlace binds tree call.place change
  is_link_made call (replies.SymLink (Done success)) e = made call.place success.object (contents.Link call.target) e
  is_link_made call _ e = absurd (cc)

  -- ---- replies that tell of nothing there

  abbrev Tells : NfsReply → Type 0
  Tells reply = IsSome (of_answer reply)

  not_removed : (place : DirectoryName) (reply : NfsReply) → change_removed binds tree place reply ≡ Some change → Tells reply → ⊥
  not_removed place (replies.Remove (Done success)) e tells = cc
  not_removed place _ e tells = absurd (cc)

  not_directory_removed : (place : DirectoryName) (reply : NfsReply) → change_directory_removed binds tree place reply ≡ Some change → Tells reply → ⊥
  not_directory_removed place (replies.RmDir (Done success)) e tells = cc
  not_directory_removed place _ e tells = absurd (cc)

  not_renamed : (call : _) (reply : NfsReply) → change_renamed binds tree call reply ≡ Some change → Tells reply → ⊥
  not_renamed call (replies.Rename (Done success)) e tells = cc
  not_renamed call _ e tells = absurd (cc)

  done : (call : NfsCall) (reply : NfsReply) (place : DirectoryName) → change_done binds tree number call reply ≡ Some change → Tells reply → first_place call ≡ Some place
      → IsAtPlace binds tree place change
  done (calls.Lookup named) reply place e tells names = inl (kept _ change e)
  done (calls.Create call) reply place e tells names = subst (λ (p : DirectoryName). IsAtPlace binds tree p change) (same_some call.place place names) (is_created call reply e)
  done (calls.MkDir call) reply place e tells names = subst (λ (p : DirectoryName). IsAtPlace binds tree p change) (same_some call.place place names) (is_directory_made call reply e)
  done (calls.SymLink call) reply place e tells names = subst (λ (p : DirectoryName). IsAtPlace binds tree p change) (same_some call.place place names) (is_link_made call reply e)
  done (calls.Remove named) reply place e tells names = absurd (not_removed named reply e tells)
  done (calls.RmDir named) reply place e tells names = absurd (not_directory_removed named reply e tells)
  done (calls.Rename call) reply place e tells names = absurd (not_renamed call reply e tells)
  done (calls.GetAttr object) reply place e tells names = absurd (cc)
  done (calls.SetAttr call) reply place e tells names = absurd (cc)
  done (calls.ReadLink link) reply place e tells names = absurd (cc)
  done (calls.Read call) reply place e tells names = absurd (cc)
  done (calls.Write call) reply place e tells names = absurd (cc)
  done (calls.ReadDir call) reply place e tells names = absurd (cc)
  done (calls.ReadDirPlus call) reply place e tells names = absurd (cc)
  done (calls.Commit call) reply place e tells names = absurd (cc)

  answered : (call : NfsCall) (reply : NfsReply) (place : DirectoryName) (o : Option Failure) → change_answered binds tree number call reply o ≡ Some change → Tells reply
      → first_place call ≡ Some place → IsAtPlace binds tree place change
  answered call reply place None e tells names = done call reply place e tells names
  answered call reply place (Some failure) e tells names = inl (kept _ change e)

  -- where a reply tells of an object at the place that the call names, the change is there, or there is none
  pub tells_of_place : (call : NfsCall) (reply : NfsReply) (place : DirectoryName) → change_received binds tree number call reply ≡ Some change → Tells reply
      → first_place call ≡ Some place → IsAtPlace binds tree place change
  tells_of_place call reply place e tells names = answered call reply place (failure_in reply) e tells names

  -- ---- replies that list entries

  listed : (call : NfsCall) (success : ReadDirPlusSuccess) → change_done binds tree number call (replies.ReadDirPlus (Done success)) ≡ Some change → change ≡ Keep
  listed (calls.ReadDirPlus call) success e = kept (readdirplus_is_legal binds tree call (replies.ReadDirPlus (Done success))) change e
  listed _ success e = absurd (cc)

  -- where a reply lists entries, the tree stays
  pub lists_or_none : (call : NfsCall) (reply : NfsReply) → change_received binds tree number call reply ≡ Some change → (change ≡ Keep) ⊎ (entries_of reply ≡ [])
  lists_or_none call (replies.ReadDirPlus (Done success)) e = inl (listed call success e)
  lists_or_none call _ e = inr refl
