-- calls of handles that aren't bound: a success has each of them name what stands, and a failure leaves the tree
use Rattle.std.proofs.Common.{◌≡◌, ◌⊎◌, inl, inr, ℕ, Bool, true, false, cond, List, [], ◌∷◌, ◌++◌, length, take, Option, Some, None, refl, sym, ap, ◌∙◌, subst}
use Rattle.std.specs.Prelude.{◌&&◌, if◌then◌else◌, not, nat_le, IsSome, is_some, option_and_then, option_map}
use Rattle.std.specs.Option.{option_map_or}
use Rattle.std.specs.List.{list_all}
use Rattle.std.specs.FinMap as map
use Rattle.nfs3_types.specs.declared.calls.NfsCall.{NfsCall}
use Rattle.nfs3_types.specs.declared.calls.NfsCall.TheVariants as calls
use Rattle.nfs3_types.specs.declared.calls.DirectoryName.{DirectoryName}
use Rattle.nfs3_types.specs.declared.calls.CreateArguments.{CreateArguments}
use Rattle.nfs3_types.specs.declared.calls.RenameArguments.{RenameArguments}
use Rattle.nfs3_types.specs.declared.calls.SetAttrArguments.{SetAttrArguments}
use Rattle.nfs3_types.specs.declared.calls.StableHow.{StableHow}
use Rattle.nfs3_types.specs.declared.calls.WriteArguments.{WriteArguments}
use Rattle.nfs3_types.specs.declared.replies.Answer.TheVariants.{Done}
use Rattle.nfs3_types.specs.declared.replies.NfsReply.{NfsReply}
use Rattle.nfs3_types.specs.declared.replies.NfsReply.TheVariants as replies
use Rattle.nfs3_types.specs.declared.replies.Outcome.{Outcome}
use Rattle.nfs3_types.specs.declared.replies.Outcome.TheVariants.{Received, Taken}
use Rattle.nfs3_types.specs.declared.status.Failure.{Failure}
use Rattle.nfs3_types.specs.Procedures.{is_answered, failure_in}
use Rattle.tree_starts.specs.declared.profile.Profile.{Profile}
use Rattle.tree_starts.specs.declared.profile.Profile.TheVariants.{Plain, Strict}
use Rattle.tree_starts.specs.Names.{is_plain}
use Rattle.tree_nodes.specs.declared.node.Node.{Node}
use Rattle.tree_nodes.specs.declared.node.Content.{Content}
use Rattle.tree_nodes.specs.declared.node.Content.TheVariants as contents
use Rattle.tree_nodes.specs.Tree.{Names, Tree, entry_of, is_bare}
use Rattle.tree_nodes.proofs.Chains.{chained}
use Rattle.tree_handles.specs.Binding.{Bindings, object_of, gives_object}
use Rattle.tree_handles.specs.Live.{FileEntry, live_entry, as_directory, directory_of, as_file, file_of}
use Rattle.tree_handles.specs.Entry.{entry_at, named}
use Rattle.tree_handles.specs.Kind.{is_directory}
use Rattle.tree_answers.specs.Asked.{first_handle, second_handle}
use Rattle.tree_answers.specs.Failure.{is_permitted}
use Rattle.tree_answers.specs.Look.{shows, has_text, read_is_right, is_object_named}
use Rattle.tree_answers.specs.Listing.{is_listing, listed_names, listed_names_plus, has_its_handle}
use Rattle.file_tree.specs.Change.{Change}
use Rattle.file_tree.specs.Change.Change.{Keep, Remove}
use Rattle.file_tree.specs.Made.{only_if, set_size, create_change, make_entry}
use Rattle.file_tree.specs.Written.{set_attributes, write_change, write_at, reaches}
use Rattle.file_tree.specs.Removed.{remove_entry, remove_directory, rename, rename_at}
use Rattle.file_tree.specs.Setting.{under}
use Rattle.file_tree.specs.Strict.{agrees, judged}
use Rattle.file_tree.specs.Success.{changed, change_done, change_answered, change_taken, change_of, next_tree}
use Rattle.decision_steps.specs.Known.{AgreesWith, is_known, knows_handles, NamesMore, is_failure}
use Rattle.decision_steps.specs.Given.{given_in, given}
use Rattle.decision_steps.specs.Bound.{are_bound}
use Rattle.decision_steps.proofs.Heeded.{creates, makes}
use Rattle.decision_steps.proofs.Replies.{failure_gives}
use Rattle.decision_steps.proofs.Steps.{SeeAlike, under_same, plain_leads}

-- ---- a success of a handle that isn't live

module _ (binds : Bindings) (tree : Tree) (number : ℕ) where
  abbrev pub Dead : List ℕ → Type 0
  Dead handle = live_entry binds tree handle ≡ None

  no_directory : (handle : List ℕ) → Dead handle → directory_of binds tree handle ≡ None
  no_directory handle dead = ap (option_and_then (λ (e : Names × Node). as_directory e.0 e.1.content)) dead

  no_file : (handle : List ℕ) → Dead handle → file_of binds tree handle ≡ None
  no_file handle dead = ap (option_and_then (λ (e : Names × Node). as_file e.0 e.1.object e.1.content)) dead

  no_entry : (place : DirectoryName) → Dead place.directory → named binds tree place ≡ None
  no_entry place dead =
      ap (option_and_then (λ directory. option_map {U = Names × Node} (λ node. (directory ++ place.name ∷ [], node)) (entry_at tree directory place.name))) (no_directory place.directory dead)

  none_set : (call : SetAttrArguments) → Dead call.object → set_attributes binds tree call ≡ None
  none_set call dead = go (is_some call.attributes.size) where
    go : (b : Bool) → cond b (option_and_then (λ (entry : FileEntry). set_size entry.path entry.object entry.file call.attributes.size) (file_of binds tree call.object))
        (only_if (is_some (live_entry binds tree call.object)) Keep) ≡ None
    go true = ap (option_and_then (λ (entry : FileEntry). set_size entry.path entry.object entry.file call.attributes.size)) (no_file call.object dead)
    go false = ap (λ o. only_if (is_some o) Keep) dead

  none_written : (call : WriteArguments) (count : ℕ) (level : Option StableHow) → Dead call.file → write_change binds tree call count level ≡ None
  none_written call count level dead = through (file_of binds tree call.file) (no_file call.file dead) where
    through : (o : Option FileEntry) → o ≡ None
        → option_and_then (λ (entry : FileEntry). if nat_le count call.count && nat_le count (length call.bytes) && reaches call.level level
        then write_at entry call.offset (take count call.bytes) else None) o ≡ None
    through None e = refl
    through (Some entry) e = absurd (cc)

  none_created : (call : CreateArguments) (handle : Option (List ℕ)) → Dead call.place.directory → create_change binds tree number call handle ≡ None
  none_created call handle dead =
      ap (option_and_then (λ path. creates binds tree number call path (is_plain call.place.name) handle (map.get tree (path ++ call.place.name ∷ [])))) (no_directory call.place.directory dead)

  none_made : (place : DirectoryName) (handle : Option (List ℕ)) (content : Content) → Dead place.directory → make_entry binds tree number place handle content ≡ None
  none_made place handle content dead = ap (option_and_then (makes tree number place content (gives_object binds handle number))) (no_directory place.directory dead)

  none_removed : (place : DirectoryName) → Dead place.directory → remove_entry binds tree place ≡ None
  none_removed place dead = ap (option_and_then (λ (e : Names × Node). only_if (not (is_directory e.1.content) && is_bare tree e.0) (Remove e.0))) (no_entry place dead)

  no_directory_removed : (place : DirectoryName) → Dead place.directory → remove_directory binds tree place ≡ None
  no_directory_removed place dead = ap (option_and_then (λ (e : Names × Node). only_if (is_directory e.1.content && is_bare tree e.0) (Remove e.0))) (no_entry place dead)

  abbrev pub renames : RenameArguments → Option Names → Names × Node → Option Change
  renames call directory source =
      option_and_then (λ path. cond (is_plain call.to.name) (rename_at tree source.0 source.1.content (path ++ call.to.name ∷ [])) None) directory

  none_renamed : (call : RenameArguments) → Dead call.from.directory → rename binds tree call ≡ None
  none_renamed call dead = ap (option_and_then (renames call (directory_of binds tree call.to.directory))) (no_entry call.from dead)

  none_renamed_to : (call : RenameArguments) → Dead call.to.directory → rename binds tree call ≡ None
  none_renamed_to call dead =
      ap (λ o. option_and_then (renames call o) (named binds tree call.from)) (no_directory call.to.directory dead) ∙ chain (named binds tree call.from) where
        chain : (o : Option (Names × Node)) → option_and_then (renames call None) o ≡ None
        chain None = refl
        chain (Some source) = refl

  done_dead : (call : NfsCall) (reply : NfsReply) → Dead (first_handle call) → change_done binds tree number call reply ≡ None
  done_dead (calls.GetAttr object) (replies.GetAttr (Done attributes)) dead = ap (λ o. only_if (option_map_or (λ (e : Names × Node). shows e.1.content attributes) o false) Keep) dead
  done_dead (calls.GetAttr object) _ dead = refl
  done_dead (calls.Lookup place) (replies.Lookup (Done success)) dead =
      ap (λ o. only_if (option_map_or (is_object_named binds tree place success.object) o false) Keep) (no_directory place.directory dead)
  done_dead (calls.Lookup place) _ dead = refl
  done_dead (calls.ReadLink link) (replies.ReadLink (Done success)) dead = ap (λ o. only_if (option_map_or (λ (e : Names × Node). has_text e.1.content success.target) o false) Keep) dead
  done_dead (calls.ReadLink link) _ dead = refl
  done_dead (calls.Read call) (replies.Read (Done success)) dead = ap (λ o. only_if (option_map_or (λ (entry : FileEntry). read_is_right entry.file.bytes call success) o false) Keep) (no_file call.file dead)
  done_dead (calls.Read call) _ dead = refl
  done_dead (calls.ReadDir call) (replies.ReadDir (Done success)) dead =
      ap (λ o. only_if (option_map_or (λ path. is_listing tree path call.cookie success.eof (listed_names success)) o false) Keep) (no_directory call.directory dead)
  done_dead (calls.ReadDir call) _ dead = refl
  done_dead (calls.ReadDirPlus call) (replies.ReadDirPlus (Done success)) dead =
      ap (λ o. only_if (option_map_or (λ path. is_listing tree path call.cookie success.eof (listed_names_plus success) && list_all (has_its_handle binds tree path) success.entries) o false) Keep)
      (no_directory call.directory dead)
  done_dead (calls.ReadDirPlus call) _ dead = refl
  done_dead (calls.Commit call) (replies.Commit (Done success)) dead = ap (λ o. only_if (is_some o) Keep) (no_file call.file dead)
  done_dead (calls.Commit call) _ dead = refl
  done_dead (calls.Write call) (replies.Write (Done success)) dead = none_written call success.count (Some success.level) dead
  done_dead (calls.Write call) _ dead = refl
  done_dead (calls.Create call) (replies.Create (Done success)) dead = none_created call success.object dead
  done_dead (calls.Create call) _ dead = refl
  done_dead (calls.SetAttr call) (replies.SetAttr (Done _)) dead = none_set call dead
  done_dead (calls.SetAttr call) _ dead = refl
  done_dead (calls.MkDir call) (replies.MkDir (Done success)) dead = none_made call.place success.object contents.Directory dead
  done_dead (calls.MkDir call) _ dead = refl
  done_dead (calls.SymLink call) (replies.SymLink (Done success)) dead = none_made call.place success.object (contents.Link call.target) dead
  done_dead (calls.SymLink call) _ dead = refl
  done_dead (calls.Remove place) (replies.Remove (Done _)) dead = none_removed place dead
  done_dead (calls.Remove place) _ dead = refl
  done_dead (calls.RmDir place) (replies.RmDir (Done _)) dead = no_directory_removed place dead
  done_dead (calls.RmDir place) _ dead = refl
  done_dead (calls.Rename call) (replies.Rename (Done _)) dead = none_renamed call dead
  done_dead (calls.Rename call) _ dead = refl

  taken_dead : (call : NfsCall) (count : Option ℕ) → Dead (first_handle call) → change_taken binds tree number call count ≡ None
  taken_dead (calls.Write call) (Some count) dead = none_written call count None dead
  taken_dead (calls.Create call) None dead = none_created call None dead
  taken_dead (calls.SetAttr call) None dead = none_set call dead
  taken_dead (calls.MkDir call) None dead = none_made call.place None contents.Directory dead
  taken_dead (calls.SymLink call) None dead = none_made call.place None (contents.Link call.target) dead
  taken_dead (calls.Remove place) None dead = none_removed place dead
  taken_dead (calls.RmDir place) None dead = no_directory_removed place dead
  taken_dead (calls.Rename call) None dead = none_renamed call dead
  taken_dead _ _ dead = refl

  -- the second handle, of a RENAME
  done_dead_to : (call : NfsCall) (reply : NfsReply) (handle : List ℕ) → second_handle call ≡ Some handle → Dead handle → change_done binds tree number call reply ≡ None
  done_dead_to (calls.Rename call) (replies.Rename (Done _)) handle is dead = none_renamed_to call (subst Dead (same_value handle call.to.directory (sym is)) dead) where
    same_value : (a b : List ℕ) → Some a ≡ Some b → a ≡ b
    same_value a b e = cc
  done_dead_to (calls.Rename call) _ handle is dead = refl
  done_dead_to _ _ handle is dead = absurd (cc)

  taken_dead_to : (call : NfsCall) (count : Option ℕ) (handle : List ℕ) → second_handle call ≡ Some handle → Dead handle → change_taken binds tree number call count ≡ None
  taken_dead_to (calls.Rename call) None handle is dead = none_renamed_to call (subst Dead (same_value handle call.to.directory (sym is)) dead) where
    same_value : (a b : List ℕ) → Some a ≡ Some b → a ≡ b
    same_value a b e = cc
  taken_dead_to (calls.Rename call) (Some count) handle is dead = refl
  taken_dead_to _ _ handle is dead = absurd (cc)

  -- no success comes of it
  success_dead : (call : NfsCall) (outcome : Outcome) → is_failure outcome ≡ false
      → ((reply : NfsReply) → change_done binds tree number call reply ≡ None) → ((count : Option ℕ) → change_taken binds tree number call count ≡ None)
      → change_of binds tree number call outcome ≡ None
  success_dead call (Taken count) is done taken = taken count
  success_dead call (Received reply) is done taken = go (failure_in reply) is where
    go : (failure : Option Failure) → is_some failure ≡ false → change_answered binds tree number call reply failure ≡ None
    go None is = done reply
    go (Some failure) is = absurd (cc)

  live_where : (call : NfsCall) (outcome : Outcome) (change : Change) (handle : List ℕ) → change_of binds tree number call outcome ≡ Some change
      → (Dead handle → change_of binds tree number call outcome ≡ None) → (e : Names × Node) × (live_entry binds tree handle ≡ Some e)
  live_where call outcome change handle leads none = go (live_entry binds tree handle) refl where
    differ : (o : Option Change) → o ≡ Some change → o ≡ None → ⊥
    differ o some none = cc

    go : (o : Option (Names × Node)) → live_entry binds tree handle ≡ o → (e : Names × Node) × (o ≡ Some e)
    go None is = absurd (differ (change_of binds tree number call outcome) leads (none is))
    go (Some e) is = (e, refl)

-- ---- a failure leaves the tree

next_keeps : (binds : Bindings) (tree after : Tree) (number : ℕ) (call : NfsCall) (outcome : Outcome) → is_failure outcome ≡ true → next_tree binds tree number call outcome ≡ Some after → tree ≡ after
next_keeps binds tree after number call (Taken count) is leads = absurd (cc)
next_keeps binds tree after number call (Received reply) is leads = go (failure_in reply) is leads where
  kept : (b : Bool) → option_map (changed tree) (only_if b Keep) ≡ Some after → tree ≡ after
  kept true e = cc
  kept false e = absurd (cc)

  go : (failure : Option Failure) → is_some failure ≡ true → option_map (changed tree) (change_answered binds tree number call reply failure) ≡ Some after → tree ≡ after
  go None is e = absurd (cc)
  go (Some failure) is e = kept (is_answered call reply && is_permitted binds tree call failure) e

pub under_keeps : (profile : Profile) (binds : Bindings) (tree after : Tree) (number : ℕ) (call : NfsCall) (outcome : Outcome) → is_failure outcome ≡ true → under profile binds tree number call outcome ≡ Some after
    → tree ≡ after
under_keeps Plain binds tree after number call outcome is leads = next_keeps binds tree after number call outcome is leads
under_keeps Strict binds tree after number call outcome is leads =
    let next = chained (judged binds tree call outcome) (next_tree binds tree number call outcome) after leads in
    next_keeps binds tree next.0 number call outcome is next.1 ∙ same outcome next.0 next.2 where
      same : (outcome : Outcome) (next : Tree) → judged binds tree call outcome next ≡ Some after → next ≡ after
      same (Taken count) next e = cc
      same (Received reply) next e = go (agrees binds tree next call reply) e where
        go : (b : Bool) → (if b then Some next else None) ≡ Some after → next ≡ after
        go true e = cc
        go false e = absurd (cc)

pub failure_given : (binds : Bindings) (tree : Tree) (number : ℕ) (call : NfsCall) (outcome : Outcome) → is_failure outcome ≡ true → given binds tree number call outcome ≡ []
failure_given binds tree number call (Taken count) is = absurd (cc)
failure_given binds tree number call (Received reply) is = go (failure_in reply) refl is where
  go : (failure : Option Failure) → failure_in reply ≡ failure → is_some failure ≡ true → given_in binds tree number call reply ≡ []
  go None e is = absurd (cc)
  go (Some failure) e is = failure_gives binds tree number call reply failure e

-- ---- what a plan says of a handle that isn't bound

-- it names something that stands
pub record Stands (known plan : Bindings) (tree : Tree) (handle : List ℕ) : Type 0 where
  pub object : ℕ
  pub is_new : object_of known handle ≡ None
  pub names : object_of plan handle ≡ Some object
  pub stands : IsSome (entry_of tree object)

some_of : {X : Type 0} {o : Option X} {x : X} → o ≡ Some x → IsSome o
some_of {X} {o} {x} e = subst IsSome (sym e) refl

live_stands : (known plan : Bindings) (tree : Tree) (handle : List ℕ) (e : Names × Node) → object_of known handle ≡ None → live_entry plan tree handle ≡ Some e → Stands known plan tree handle
live_stands known plan tree handle e new live =
    let found = chained (entry_of tree) (object_of plan handle) e live in
    record { object = found.0; is_new = new; names = found.1; stands = some_of found.2 }

sees : (known plan : Bindings) (tree : Tree) (handle : List ℕ) → AgreesWith known plan → (live_entry plan tree handle ≡ live_entry known tree handle) ⊎ Stands known plan tree handle
sees known plan tree handle agrees = go (object_of known handle) (live_entry plan tree handle) refl refl where
  go : (o : Option ℕ) (l : Option (Names × Node)) → object_of known handle ≡ o → live_entry plan tree handle ≡ l
      → (live_entry plan tree handle ≡ live_entry known tree handle) ⊎ Stands known plan tree handle
  go (Some object) l is live = inl (ap (option_and_then (entry_of tree)) (agrees handle object is ∙ sym is))
  go None None is live = inl (live ∙ sym (ap (option_and_then (entry_of tree)) is))
  go None (Some e) is live = inr (live_stands known plan tree handle e is live)

module _ (profile : Profile) (known plan : Bindings) (tree after : Tree) (number : ℕ) (call : NfsCall) (outcome : Outcome) (agrees : AgreesWith known plan)
    (leads : under profile plan tree number call outcome ≡ Some after) where
  names_first : Stands known plan tree (first_handle call) → NamesMore known plan tree call
  names_first it = record { handle = first_handle call; object = it.object; is_named = inl refl; is_new = it.is_new; names = it.names; stands = it.stands }

  names_second : (handle : List ℕ) → second_handle call ≡ Some handle → Stands known plan tree handle → NamesMore known plan tree call
  names_second handle is it = record { handle = handle; object = it.object; is_named = inr is; is_new = it.is_new; names = it.names; stands = it.stands }

  -- a success
  change_leads : (change : Change) × (change_of plan tree number call outcome ≡ Some change)
  change_leads = plain_leads profile plan tree after number call outcome leads

  pub success_names : knows_handles known call ≡ false → is_failure outcome ≡ false → NamesMore known plan tree call
  success_names knows is = go (object_of known (first_handle call)) refl knows where
    first_live : (e : Names × Node) × (live_entry plan tree (first_handle call) ≡ Some e)
    first_live = live_where plan tree number call outcome change_leads.0 (first_handle call) change_leads.1
        (λ dead. success_dead plan tree number call outcome is (λ reply. done_dead plan tree number call reply dead) (λ count. taken_dead plan tree number call count dead))

    second_live : (handle : List ℕ) → second_handle call ≡ Some handle → (e : Names × Node) × (live_entry plan tree handle ≡ Some e)
    second_live handle there = live_where plan tree number call outcome change_leads.0 handle change_leads.1
        (λ dead. success_dead plan tree number call outcome is (λ reply. done_dead_to plan tree number call reply handle there dead) (λ count. taken_dead_to plan tree number call count handle there dead))

    second_new : (handle : List ℕ) → second_handle call ≡ Some handle → (o : Option ℕ) → object_of known handle ≡ o → is_some o ≡ false → NamesMore known plan tree call
    second_new handle there (Some object) e new = absurd (cc)
    second_new handle there None e new =
        let live = second_live handle there in names_second handle there (live_stands known plan tree handle live.0 e live.1)

    second : (o : Option (List ℕ)) → second_handle call ≡ o → option_map_or (is_known known) o true ≡ false → NamesMore known plan tree call
    second None there new = absurd (cc)
    second (Some handle) there new = second_new handle there (object_of known handle) refl new

    go : (o : Option ℕ) → object_of known (first_handle call) ≡ o → (is_some o && option_map_or (is_known known) (second_handle call) true) ≡ false → NamesMore known plan tree call
    go None e new = let live = first_live in names_first (live_stands known plan tree (first_handle call) live.0 e live.1)
    go (Some object) e new = second (second_handle call) refl new

  -- a failure that the handles bound so far forbid
  pub failure_names : is_failure outcome ≡ true → under profile known tree number call outcome ≡ None → NamesMore known plan tree call
  failure_names is refused = go (sees known plan tree (first_handle call) agrees) (second (second_handle call)) where
    second : (o : Option (List ℕ)) → ((handle : List ℕ) → o ≡ Some handle → live_entry plan tree handle ≡ live_entry known tree handle) ⊎ ((handle : List ℕ) × (o ≡ Some handle) × Stands known plan tree handle)
    second None = inl (λ handle e. absurd (cc))
    second (Some other) = by (sees known plan tree other agrees) where
      same_value : (a b : List ℕ) → Some a ≡ Some b → a ≡ b
      same_value a b e = cc

      by : (live_entry plan tree other ≡ live_entry known tree other) ⊎ Stands known plan tree other
          → ((handle : List ℕ) → Some other ≡ Some handle → live_entry plan tree handle ≡ live_entry known tree handle) ⊎ ((handle : List ℕ) × (Some other ≡ Some handle) × Stands known plan tree handle)
      by (inl same) = inl (λ handle e. subst (λ h. live_entry plan tree h ≡ live_entry known tree h) (same_value other handle e) same)
      by (inr it) = inr (other, refl, it)

    differ : (o : Option Tree) → o ≡ Some after → o ≡ None → ⊥
    differ o some none = cc

    bound : (binds : Bindings) → are_bound binds (given plan tree number call outcome) ≡ true
    bound binds = ap (are_bound binds) (failure_given plan tree number call outcome is)

    alike : SeeAlike plan known tree call → ⊥
    alike here =
        differ (under profile known tree number call outcome)
        (sym (under_same plan known tree number call outcome here profile (λ later e. subst (λ t. SeeAlike plan known t call) (next_keeps known tree later number call outcome is e) here) (bound plan, bound known)) ∙ leads) refused

    go : (live_entry plan tree (first_handle call) ≡ live_entry known tree (first_handle call)) ⊎ Stands known plan tree (first_handle call)
        → ((handle : List ℕ) → second_handle call ≡ Some handle → live_entry plan tree handle ≡ live_entry known tree handle) ⊎ ((handle : List ℕ) × (second_handle call ≡ Some handle) × Stands known plan tree handle)
        → NamesMore known plan tree call
    go (inr it) other = names_first it
    go (inl first) (inr it) = names_second it.0 it.1 it.2
    go (inl first) (inl second) = absurd (alike (record { first = first; second = second }))
