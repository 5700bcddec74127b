-- a call that comes out has the handles of its reply bound, and two bindings that have them bound, and its own alike, lead to one tree
use Rattle.std.proofs.Common.{◌≡◌, ℕ, Bool, true, false, cond, List, [], ◌∷◌, ◌++◌, Option, Some, None, refl, sym, ap, ◌∙◌}
use Rattle.std.specs.Prelude.{◌&&◌, option_and_then}
use Rattle.std.specs.Option.{option_map_or}
use Rattle.std.specs.List.{list_all, flat_map}
use Rattle.std.specs.FinMap as map
use Rattle.nfs3_types.specs.declared.calls.NfsCall.{NfsCall}
use Rattle.nfs3_types.specs.declared.calls.NfsCall.TheVariants as calls
use Rattle.nfs3_types.specs.declared.calls.CreateMode.{CreateMode}
use Rattle.nfs3_types.specs.declared.calls.CreateArguments.{CreateArguments}
use Rattle.nfs3_types.specs.declared.calls.DirectoryName.{DirectoryName}
use Rattle.nfs3_types.specs.declared.replies.Answer.TheVariants.{Done}
use Rattle.nfs3_types.specs.declared.replies.DirectoryEntryPlus.{DirectoryEntryPlus}
use Rattle.nfs3_types.specs.declared.replies.NfsReply.{NfsReply}
use Rattle.nfs3_types.specs.declared.replies.NfsReply.TheVariants as replies
use Rattle.nfs3_types.specs.declared.replies.Outcome.{Outcome}
use Rattle.nfs3_types.specs.declared.replies.Outcome.TheVariants.{Received, Taken}
use Rattle.nfs3_types.specs.declared.status.Failure.{Failure}
use Rattle.nfs3_types.specs.Procedures.{failure_in}
use Rattle.tree_nodes.specs.declared.node.Node.{Node}
use Rattle.tree_nodes.specs.declared.node.Content.{Content}
use Rattle.tree_nodes.specs.declared.node.Content.TheVariants as contents
use Rattle.tree_nodes.specs.Tree.{Names, Tree}
use Rattle.tree_nodes.proofs.Chains.{passed}
use Rattle.tree_handles.specs.Binding.{Bindings, is_bound, gives_object}
use Rattle.tree_handles.specs.Live.{live_entry, directory_of}
use Rattle.tree_starts.specs.Names.{is_plain}
use Rattle.tree_answers.specs.Asked.{first_handle}
use Rattle.tree_answers.specs.Look.{object_named, lookup_is_legal}
use Rattle.tree_answers.specs.Listing.{is_listing, listed_names_plus, has_its_handle, readdirplus_is_legal}
use Rattle.file_tree.specs.Change.{Change}
use Rattle.file_tree.specs.Change.Change.{Keep}
use Rattle.file_tree.specs.Made.{only_if, create_at, create_change, make_entry}
use Rattle.file_tree.specs.Success.{change_done, change_answered, change_of}
use Rattle.decision_steps.specs.Given.{given_as, object_found, object_created, given_beside, given_in, given}
use Rattle.decision_steps.specs.Bound.{are_bound}
use Rattle.decision_steps.proofs.Parts.{and_true, second_passes}
use Rattle.decision_steps.proofs.Alike as alike
use Rattle.decision_steps.proofs.Heeded.{gives_all, create_gated, creates, makes, make_gated, lookup_gated, listed_gated}

-- ---- a call that comes out

kept : (b : Bool) (change : Change) → only_if b Keep ≡ Some change → b ≡ true
kept true change e = refl
kept false change e = absurd (cc)

found_bound : (binds : Bindings) (handle : List ℕ) (found : Option ℕ) → option_map_or (is_bound binds handle) found false ≡ true
    → are_bound binds (option_map_or (λ object. (handle, object) ∷ []) found []) ≡ true
found_bound binds handle None e = refl
found_bound binds handle (Some object) e = and_true (is_bound binds handle object) ∙ e

-- those of a list
lists_bound : (binds : Bindings) (tree : Tree) (entries : List DirectoryEntryPlus) (lists : Names → Bool) (directory : Option Names)
    → option_map_or (λ path. lists path && list_all (has_its_handle binds tree path) entries) directory false ≡ true
    → are_bound binds (option_map_or (λ path. flat_map (given_beside tree path) entries) directory []) ≡ true
lists_bound binds tree entries lists None e = refl
lists_bound binds tree entries lists (Some path) e = listed_gated binds tree path entries ∙ second_passes (lists path) (list_all (has_its_handle binds tree path) entries) e

-- a failure gives no handle
pub failure_gives : (binds : Bindings) (tree : Tree) (number : ℕ) (call : NfsCall) (reply : NfsReply) (failure : Failure)
    → failure_in reply ≡ Some failure → given_in binds tree number call reply ≡ []
failure_gives binds tree number (calls.Lookup place) (replies.Lookup (Done success)) failure e = absurd (cc)
failure_gives binds tree number (calls.Create call) (replies.Create (Done success)) failure e = absurd (cc)
failure_gives binds tree number (calls.MkDir call) (replies.MkDir (Done success)) failure e = absurd (cc)
failure_gives binds tree number (calls.SymLink call) (replies.SymLink (Done success)) failure e = absurd (cc)
failure_gives binds tree number (calls.ReadDirPlus call) (replies.ReadDirPlus (Done success)) failure e = absurd (cc)
failure_gives binds tree number call reply failure e = refl

done_heeds : (binds : Bindings) (tree : Tree) (number : ℕ) (call : NfsCall) (reply : NfsReply) (change : Change)
    → change_done binds tree number call reply ≡ Some change → are_bound binds (given_in binds tree number call reply) ≡ true
done_heeds binds tree number (calls.Lookup place) (replies.Lookup (Done success)) change e =
    found_bound binds success.object (object_found binds tree place) (sym (lookup_gated binds tree place success.object) ∙ kept (lookup_is_legal binds tree place (replies.Lookup (Done success))) change e)
done_heeds binds tree number (calls.Create call) (replies.Create (Done success)) change e =
    gives_all binds success.object (object_created binds tree number call.place)
    ∙ (passed (gives_object binds success.object (object_created binds tree number call.place)) (create_change binds tree number call None) change (sym (create_gated binds tree number call success.object) ∙ e)).0
done_heeds binds tree number (calls.MkDir call) (replies.MkDir (Done success)) change e =
    gives_all binds success.object number
    ∙ (passed (gives_object binds success.object number) (make_entry binds tree number call.place None contents.Directory) change (sym (make_gated binds tree number call.place success.object contents.Directory) ∙ e)).0
done_heeds binds tree number (calls.SymLink call) (replies.SymLink (Done success)) change e =
    gives_all binds success.object number
    ∙ (passed (gives_object binds success.object number) (make_entry binds tree number call.place None (contents.Link call.target)) change (sym (make_gated binds tree number call.place success.object (contents.Link call.target)) ∙ e)).0
done_heeds binds tree number (calls.ReadDirPlus call) (replies.ReadDirPlus (Done success)) change e =
    lists_bound binds tree success.entries (λ path. is_listing tree path call.cookie success.eof (listed_names_plus success)) (directory_of binds tree call.directory)
    (kept (readdirplus_is_legal binds tree call (replies.ReadDirPlus (Done success))) change e)
done_heeds binds tree number call reply change e = refl

-- where a call comes out, each handle of its reply that has to name an object is bound to it
pub heeds : (binds : Bindings) (tree : Tree) (number : ℕ) (call : NfsCall) (outcome : Outcome) (change : Change)
    → change_of binds tree number call outcome ≡ Some change → are_bound binds (given binds tree number call outcome) ≡ true
heeds binds tree number call (Taken count) change e = refl
heeds binds tree number call (Received reply) change e = go (failure_in reply) refl e where
  go : (failure : Option Failure) → failure_in reply ≡ failure → change_answered binds tree number call reply failure ≡ Some change → are_bound binds (given_in binds tree number call reply) ≡ true
  go None is e = done_heeds binds tree number call reply change e
  go (Some failure) is e = ap (are_bound binds) (failure_gives binds tree number call reply failure is)

-- ---- two bindings

pub found_alike : (binds other : Bindings) (handle : List ℕ) (found : Option ℕ) → are_bound binds (option_map_or (λ object. (handle, object) ∷ []) found []) ≡ true
    → are_bound other (option_map_or (λ object. (handle, object) ∷ []) found []) ≡ true → option_map_or (is_bound binds handle) found false ≡ option_map_or (is_bound other handle) found false
found_alike binds other handle None mine theirs = refl
found_alike binds other handle (Some object) mine theirs =
    sym (and_true (is_bound binds handle object)) ∙ mine ∙ sym (sym (and_true (is_bound other handle object)) ∙ theirs)

pub lists_alike : (binds other : Bindings) (tree : Tree) (entries : List DirectoryEntryPlus) (lists : Names → Bool) (directory : Option Names)
    → are_bound binds (option_map_or (λ path. flat_map (given_beside tree path) entries) directory []) ≡ true
    → are_bound other (option_map_or (λ path. flat_map (given_beside tree path) entries) directory []) ≡ true
    → option_map_or (λ path. lists path && list_all (has_its_handle binds tree path) entries) directory false
    ≡ option_map_or (λ path. lists path && list_all (has_its_handle other tree path) entries) directory false
lists_alike binds other tree entries lists None mine theirs = refl
lists_alike binds other tree entries lists (Some path) mine theirs =
    ap (λ b. lists path && b) (sym (listed_gated binds tree path entries) ∙ mine ∙ sym (sym (listed_gated other tree path entries) ∙ theirs))

ungated : {X : Type 0} (x : Option X) (b : Bool) → b ≡ true → cond b x None ≡ x
ungated x true e = refl
ungated x false e = absurd (cc)

module _ (binds other : Bindings) (tree : Tree) (number : ℕ) where
  abbrev pub Same : List ℕ → Type 0
  Same handle = live_entry binds tree handle ≡ live_entry other tree handle

  pub found_same : (place : DirectoryName) → Same place.directory → object_found binds tree place ≡ object_found other tree place
  found_same place same = ap (option_and_then (λ path. object_named tree path place.name)) (alike.directory binds other tree place.directory same)

  pub created_same : (place : DirectoryName) → Same place.directory → object_created binds tree number place ≡ object_created other tree number place
  created_same place same = ap (λ o. option_map_or (λ (e : Names × Node). e.1.object) o number) (alike.entry binds other tree place same)

  -- the same handles have to name the same objects
  in_same : (call : NfsCall) (reply : NfsReply) → Same (first_handle call) → given_in binds tree number call reply ≡ given_in other tree number call reply
  in_same (calls.Lookup place) (replies.Lookup (Done success)) same = ap (λ o. option_map_or (λ (object : ℕ). (success.object, object) ∷ []) o []) (found_same place same)
  in_same (calls.Create call) (replies.Create (Done success)) same = ap (given_as success.object) (created_same call.place same)
  in_same (calls.ReadDirPlus call) (replies.ReadDirPlus (Done success)) same =
      ap (λ o. option_map_or (λ (path : Names). flat_map (given_beside tree path) success.entries) o []) (alike.directory binds other tree call.directory same)
  in_same (calls.MkDir call) (replies.MkDir (Done success)) same = refl
  in_same (calls.SymLink call) (replies.SymLink (Done success)) same = refl
  in_same call reply same = refl

  pub given_same : (call : NfsCall) (outcome : Outcome) → Same (first_handle call) → given binds tree number call outcome ≡ given other tree number call outcome
  given_same call (Received reply) same = in_same call reply same
  given_same call (Taken count) same = refl

  -- ---- calls that make something, without their handles

  at_same : (mode : CreateMode) (path : Names) (node : Option Node) → create_at binds tree number mode None path node ≡ create_at other tree number mode None path node
  at_same mode path None = refl
  at_same mode path (Some node) = go node.content where
    go : (content : Content) → create_at binds tree number mode None path (Some (record { object = node.object; content = content }))
        ≡ create_at other tree number mode None path (Some (record { object = node.object; content = content }))
    go contents.Directory = refl
    go (contents.File file) = refl
    go (contents.Link _) = refl

  pub created : (call : CreateArguments) → Same call.place.directory → create_change binds tree number call None ≡ create_change other tree number call None
  created call same =
      ap (option_and_then (λ path. creates binds tree number call path (is_plain call.place.name) None (map.get tree (path ++ call.place.name ∷ []))))
      (alike.directory binds other tree call.place.directory same) ∙ chain (directory_of other tree call.place.directory) where
        one : (path : Names) → creates binds tree number call path (is_plain call.place.name) None (map.get tree (path ++ call.place.name ∷ []))
            ≡ creates other tree number call path (is_plain call.place.name) None (map.get tree (path ++ call.place.name ∷ []))
        one path = ap (λ c. cond (is_plain call.place.name) c None) (at_same call.mode (path ++ call.place.name ∷ []) (map.get tree (path ++ call.place.name ∷ [])))

        chain : (directory : Option Names)
            → option_and_then (λ path. creates binds tree number call path (is_plain call.place.name) None (map.get tree (path ++ call.place.name ∷ []))) directory
            ≡ option_and_then (λ path. creates other tree number call path (is_plain call.place.name) None (map.get tree (path ++ call.place.name ∷ []))) directory
        chain None = refl
        chain (Some path) = one path

  pub made : (place : DirectoryName) (content : Content) → Same place.directory → make_entry binds tree number place None content ≡ make_entry other tree number place None content
  made place content same = ap (option_and_then (makes tree number place content true)) (alike.directory binds other tree place.directory same)
