-- two bindings that have the handles of a call and its reply alike lead to one tree, under each profile
use Rattle.std.proofs.Common.{◌≡◌, ℕ, Bool, true, false, cond, List, Option, Some, None, refl, sym, ap, ◌∙◌, subst}
use Rattle.std.specs.Prelude.{◌&&◌, option_and_then, option_map}
use Rattle.std.specs.Option.{option_map_or}
use Rattle.std.specs.List.{list_all}
use Rattle.nfs3_types.specs.declared.calls.NfsCall.{NfsCall}
use Rattle.nfs3_types.specs.declared.calls.NfsCall.TheVariants as calls
use Rattle.nfs3_types.specs.declared.calls.DirectoryName.{DirectoryName}
use Rattle.nfs3_types.specs.declared.replies.Answer.TheVariants.{Done}
use Rattle.nfs3_types.specs.declared.replies.NfsReply.{NfsReply}
use Rattle.nfs3_types.specs.declared.replies.NfsReply.TheVariants as replies
use Rattle.nfs3_types.specs.declared.replies.Outcome.{Outcome}
use Rattle.nfs3_types.specs.declared.replies.Outcome.TheVariants.{Received, Taken}
use Rattle.nfs3_types.specs.declared.status.Failure.{Failure}
use Rattle.nfs3_types.specs.Procedures.{is_answered, failure_in}
use Rattle.reply_attributes.specs.declared.role.Role.{Role}
use Rattle.reply_attributes.specs.declared.role.Role.TheVariants.{First, Second}
use Rattle.reply_attributes.specs.declared.role.Role.TheVariants as roles
use Rattle.reply_attributes.specs.Attributes.{post_attr, pre_size, entries_of}
use Rattle.tree_starts.specs.declared.profile.Profile.{Profile}
use Rattle.tree_starts.specs.declared.profile.Profile.TheVariants.{Plain, Strict}
use Rattle.tree_nodes.specs.declared.node.Node.{Node}
use Rattle.tree_nodes.specs.declared.node.Content.TheVariants as contents
use Rattle.tree_nodes.specs.Tree.{Names, Tree}
use Rattle.tree_nodes.proofs.Chains.{chained, mapped}
use Rattle.tree_handles.specs.Binding.{Bindings, is_bound, gives_object}
use Rattle.tree_handles.specs.Live.{live_entry, directory_of}
use Rattle.tree_answers.specs.Asked.{first_handle, second_handle, first_place}
use Rattle.tree_answers.specs.Listing.{is_listing, listed_names_plus, has_its_handle}
use Rattle.tree_answers.specs.Look.{object_named}
use Rattle.file_tree.specs.Change.{Change}
use Rattle.file_tree.specs.Change.Change.{Keep}
use Rattle.file_tree.specs.Made.{only_if, create_change, make_entry}
use Rattle.file_tree.specs.Setting.{under}
use Rattle.file_tree.specs.Strict.{told, told_of, told_by, fits, had_size, handle_agrees, answer_agrees, entry_agrees, entries_agree, agrees, judged}
use Rattle.file_tree.specs.Success.{changed, change_done, change_answered, change_taken, change_of, next_tree}
use Rattle.decision_steps.specs.Given.{object_found, object_created, given_in, given}
use Rattle.decision_steps.specs.Bound.{are_bound}
use Rattle.decision_steps.proofs.Parts.{same_on}
use Rattle.decision_steps.proofs.Alike as alike
use Rattle.decision_steps.proofs.Heeded.{gives_all, create_gated, make_gated, lookup_gated}
use Rattle.decision_steps.proofs.Replies as of_given

-- ---- the call and its first place

placed_first : (call : NfsCall) (place : DirectoryName) → first_place call ≡ Some place → first_handle call ≡ place.directory
placed_first (calls.Lookup other) place e = ap (λ p. p.directory) (same_place other place e) where
  same_place : (a b : DirectoryName) → Some a ≡ Some b → a ≡ b
  same_place a b e = cc
placed_first (calls.Create call) place e = ap (λ p. p.directory) (same_place call.place place e) where
  same_place : (a b : DirectoryName) → Some a ≡ Some b → a ≡ b
  same_place a b e = cc
placed_first (calls.MkDir call) place e = ap (λ p. p.directory) (same_place call.place place e) where
  same_place : (a b : DirectoryName) → Some a ≡ Some b → a ≡ b
  same_place a b e = cc
placed_first (calls.SymLink call) place e = ap (λ p. p.directory) (same_place call.place place e) where
  same_place : (a b : DirectoryName) → Some a ≡ Some b → a ≡ b
  same_place a b e = cc
placed_first (calls.Remove other) place e = ap (λ p. p.directory) (same_place other place e) where
  same_place : (a b : DirectoryName) → Some a ≡ Some b → a ≡ b
  same_place a b e = cc
placed_first (calls.RmDir other) place e = ap (λ p. p.directory) (same_place other place e) where
  same_place : (a b : DirectoryName) → Some a ≡ Some b → a ≡ b
  same_place a b e = cc
placed_first (calls.Rename call) place e = ap (λ p. p.directory) (same_place call.from place e) where
  same_place : (a b : DirectoryName) → Some a ≡ Some b → a ≡ b
  same_place a b e = cc
placed_first _ place e = absurd (cc)

-- both ungated
both_ways : {X : Type 0} (x y : Option X) (b c : Bool) → b ≡ true → c ≡ true → x ≡ y → cond b x None ≡ cond c y None
both_ways x y true true mine theirs e = e
both_ways x y false c mine theirs e = absurd (cc)
both_ways x y true false mine theirs e = absurd (cc)

-- the handles of a call name the same in a tree, or nothing
pub record SeeAlike (binds other : Bindings) (tree : Tree) (call : NfsCall) : Type 0 where
  pub first : live_entry binds tree (first_handle call) ≡ live_entry other tree (first_handle call)
  pub second : (handle : List ℕ) → second_handle call ≡ Some handle → live_entry binds tree handle ≡ live_entry other tree handle

module _ (binds other : Bindings) (tree : Tree) (number : ℕ) where
  abbrev pub Same : List ℕ → Type 0
  Same handle = live_entry binds tree handle ≡ live_entry other tree handle

  abbrev pub Seconds : NfsCall → Type 0
  Seconds call = (handle : List ℕ) → second_handle call ≡ Some handle → Same handle

  -- the handles of the reply are bound by both
  abbrev pub Both : List (List ℕ × ℕ) → Type 0
  Both pairs = (are_bound binds pairs ≡ true) × (are_bound other pairs ≡ true)

  done : (call : NfsCall) (reply : NfsReply) → Same (first_handle call) → Seconds call → Both (given_in binds tree number call reply)
      → change_done binds tree number call reply ≡ change_done other tree number call reply
  done (calls.GetAttr object) reply first second both = ap (λ b. only_if b Keep) (alike.getattr_is_legal binds other tree object reply first)
  done (calls.Lookup place) (replies.Lookup (Done success)) first second both =
      ap (λ b. only_if b Keep)
      (lookup_gated binds tree place success.object ∙ of_given.found_alike binds other success.object (object_found binds tree place) both.0 both.1
      ∙ ap (λ o. option_map_or (is_bound other success.object) o false) (of_given.found_same binds other tree number place first) ∙ sym (lookup_gated other tree place success.object))
  done (calls.Lookup place) reply first second both = refl
  done (calls.ReadLink link) reply first second both = ap (λ b. only_if b Keep) (alike.readlink_is_legal binds other tree link reply first)
  done (calls.Read call) reply first second both = ap (λ b. only_if b Keep) (alike.read_is_legal binds other tree call reply first)
  done (calls.ReadDir call) reply first second both = ap (λ b. only_if b Keep) (alike.readdir_is_legal binds other tree call reply first)
  done (calls.ReadDirPlus call) (replies.ReadDirPlus (Done success)) first second both =
      let lists : Names → Bool = λ path. is_listing tree path call.cookie success.eof (listed_names_plus success) in
      ap (λ b. only_if b Keep)
      (of_given.lists_alike binds other tree success.entries lists (directory_of binds tree call.directory) both.0 both.1
      ∙ ap (λ o. option_map_or (λ path. lists path && list_all (has_its_handle other tree path) success.entries) o false) (alike.directory binds other tree call.directory first))
  done (calls.ReadDirPlus call) reply first second both = refl
  done (calls.Commit call) reply first second both = ap (λ b. only_if b Keep) (alike.commit_is_legal binds other tree call.file reply first)
  done (calls.Write call) (replies.Write (Done success)) first second both = alike.wrote binds other tree call success.count (Some success.level) first
  done (calls.Write call) _ first second both = refl
  done (calls.Create call) (replies.Create (Done success)) first second both =
      create_gated binds tree number call success.object
      ∙ both_ways (create_change binds tree number call None) (create_change other tree number call None) (gives_object binds success.object (object_created binds tree number call.place))
      (gives_object other success.object (object_created other tree number call.place)) (sym (gives_all binds success.object (object_created binds tree number call.place)) ∙ both.0)
      (ap (gives_object other success.object) (sym (of_given.created_same binds other tree number call.place first)) ∙ sym (gives_all other success.object (object_created binds tree number call.place)) ∙ both.1)
      (of_given.created binds other tree number call first)
      ∙ sym (create_gated other tree number call success.object)
  done (calls.Create call) _ first second both = refl
  done (calls.SetAttr call) (replies.SetAttr (Done _)) first second both = alike.set binds other tree call first
  done (calls.SetAttr call) _ first second both = refl
  done (calls.MkDir call) (replies.MkDir (Done success)) first second both =
      make_gated binds tree number call.place success.object contents.Directory
      ∙ both_ways (make_entry binds tree number call.place None contents.Directory) (make_entry other tree number call.place None contents.Directory) (gives_object binds success.object number)
      (gives_object other success.object number) (sym (gives_all binds success.object number) ∙ both.0) (sym (gives_all other success.object number) ∙ both.1)
      (of_given.made binds other tree number call.place contents.Directory first)
      ∙ sym (make_gated other tree number call.place success.object contents.Directory)
  done (calls.MkDir call) _ first second both = refl
  done (calls.SymLink call) (replies.SymLink (Done success)) first second both =
      make_gated binds tree number call.place success.object (contents.Link call.target)
      ∙ both_ways (make_entry binds tree number call.place None (contents.Link call.target)) (make_entry other tree number call.place None (contents.Link call.target)) (gives_object binds success.object number)
      (gives_object other success.object number) (sym (gives_all binds success.object number) ∙ both.0) (sym (gives_all other success.object number) ∙ both.1)
      (of_given.made binds other tree number call.place (contents.Link call.target) first)
      ∙ sym (make_gated other tree number call.place success.object (contents.Link call.target))
  done (calls.SymLink call) _ first second both = refl
  done (calls.Remove place) (replies.Remove (Done _)) first second both = alike.removes binds other tree place first
  done (calls.Remove place) _ first second both = refl
  done (calls.RmDir place) (replies.RmDir (Done _)) first second both = alike.removes_directory binds other tree place first
  done (calls.RmDir place) _ first second both = refl
  done (calls.Rename call) (replies.Rename (Done _)) first second both = alike.renames binds other tree call first (second call.to.directory refl)
  done (calls.Rename call) _ first second both = refl

  taken : (call : NfsCall) (count : Option ℕ) → Same (first_handle call) → Seconds call → change_taken binds tree number call count ≡ change_taken other tree number call count
  taken (calls.Write call) (Some count) first second = alike.wrote binds other tree call count None first
  taken (calls.Create call) None first second = of_given.created binds other tree number call first
  taken (calls.SetAttr call) None first second = alike.set binds other tree call first
  taken (calls.MkDir call) None first second = of_given.made binds other tree number call.place contents.Directory first
  taken (calls.SymLink call) None first second = of_given.made binds other tree number call.place (contents.Link call.target) first
  taken (calls.Remove place) None first second = alike.removes binds other tree place first
  taken (calls.RmDir place) None first second = alike.removes_directory binds other tree place first
  taken (calls.Rename call) None first second = alike.renames binds other tree call first (second call.to.directory refl)
  taken _ _ first second = refl

  pub change_alike : (call : NfsCall) (outcome : Outcome) → Same (first_handle call) → Seconds call → Both (given binds tree number call outcome)
      → change_of binds tree number call outcome ≡ change_of other tree number call outcome
  change_alike call (Taken count) first second both = taken call count first second
  change_alike call (Received reply) first second both = go (failure_in reply) where
    go : (failure : Option Failure) → change_answered binds tree number call reply failure ≡ change_answered other tree number call reply failure
    go None = done call reply first second both
    go (Some failure) = ap (λ b. only_if (is_answered call reply && b) Keep) (alike.permitted binds other tree call first second failure)

-- ---- the strict profile

module _ (binds other : Bindings) (tree after : Tree) (call : NfsCall) (here : SeeAlike binds other tree call) (then_too : SeeAlike binds other after call) where
  told_same : (handle : List ℕ) (any : Tree) → live_entry binds any handle ≡ live_entry other any handle → told_by binds any handle ≡ told_by other any handle
  told_same handle any same = ap (option_map (λ (e : Names × Node). told e.1.content)) same

  handle_same : (reply : NfsReply) (role : Role) (handle : List ℕ) → live_entry binds tree handle ≡ live_entry other tree handle → live_entry binds after handle ≡ live_entry other after handle
      → handle_agrees binds tree after reply role handle ≡ handle_agrees other tree after reply role handle
  handle_same reply role handle before behind =
      ap (λ o. had_size o (pre_size reply role) && fits (told_by binds after handle) (post_attr reply role)) (told_same handle tree before)
      ∙ ap (λ o. had_size (told_by other tree handle) (pre_size reply role) && fits o (post_attr reply role)) (told_same handle after behind)

  answer_same : (reply : NfsReply) (place : DirectoryName) → first_handle call ≡ place.directory → answer_agrees binds after reply place ≡ answer_agrees other after reply place
  answer_same reply place is =
      ap (λ o. fits (option_and_then (λ directory. option_and_then (told_of after) (object_named after directory place.name)) o) (post_attr reply roles.Answer))
      (alike.directory binds other after place.directory (subst (λ handle. live_entry binds after handle ≡ live_entry other after handle) is then_too.first))

  entries_same : (reply : NfsReply) → entries_agree binds after reply (first_handle call) ≡ entries_agree other after reply (first_handle call)
  entries_same reply =
      ap (λ o. option_map_or (λ (directory : Names). list_all (entry_agrees after directory) (entries_of reply)) o true) (alike.directory binds other after (first_handle call) then_too.first)

  agrees_same : (reply : NfsReply) → agrees binds tree after call reply ≡ agrees other tree after call reply
  agrees_same reply =
      ap (λ b. b && option_map_or (handle_agrees binds tree after reply Second) (second_handle call) true && option_map_or (answer_agrees binds after reply) (first_place call) true
      && entries_agree binds after reply (first_handle call)) (handle_same reply First (first_handle call) here.first then_too.first)
      ∙ ap (λ b. handle_agrees other tree after reply First (first_handle call) && b && option_map_or (answer_agrees binds after reply) (first_place call) true
      && entries_agree binds after reply (first_handle call))
      (same_on (handle_agrees binds tree after reply Second) (handle_agrees other tree after reply Second) (second_handle call) true
      (λ h is. handle_same reply Second h (here.second h is) (then_too.second h is)))
      ∙ ap (λ b. handle_agrees other tree after reply First (first_handle call) && option_map_or (handle_agrees other tree after reply Second) (second_handle call) true && b
      && entries_agree binds after reply (first_handle call))
      (same_on (answer_agrees binds after reply) (answer_agrees other after reply) (first_place call) true (λ place is. answer_same reply place (placed_first call place is)))
      ∙ ap (λ b. handle_agrees other tree after reply First (first_handle call) && option_map_or (handle_agrees other tree after reply Second) (second_handle call) true
      && option_map_or (answer_agrees other after reply) (first_place call) true && b) (entries_same reply)

  judged_same : (outcome : Outcome) → judged binds tree call outcome after ≡ judged other tree call outcome after
  judged_same (Taken count) = refl
  judged_same (Received reply) = ap (λ b. cond b (Some after) None) (agrees_same reply)

module _ (binds other : Bindings) (tree : Tree) (number : ℕ) (call : NfsCall) (outcome : Outcome) (here : SeeAlike binds other tree call) where
  next_same : Both binds other tree number (given binds tree number call outcome) → next_tree binds tree number call outcome ≡ next_tree other tree number call outcome
  next_same both = ap (option_map (changed tree)) (change_alike binds other tree number call outcome here.first here.second both)

  pub under_same : (profile : Profile) → ((after : Tree) → next_tree other tree number call outcome ≡ Some after → SeeAlike binds other after call)
      → Both binds other tree number (given binds tree number call outcome) → under profile binds tree number call outcome ≡ under profile other tree number call outcome
  under_same Plain later both = next_same both
  under_same Strict later both = ap (option_and_then (judged binds tree call outcome)) (next_same both) ∙ chain (next_tree other tree number call outcome) later where
    chain : (o : Option Tree) → ((after : Tree) → o ≡ Some after → SeeAlike binds other after call)
        → option_and_then (judged binds tree call outcome) o ≡ option_and_then (judged other tree call outcome) o
    chain None later = refl
    chain (Some after) later = judged_same binds other tree after call here (later after refl) outcome

-- a call that comes out under a profile comes out under the plain one
pub plain_leads : (profile : Profile) (binds : Bindings) (tree after : Tree) (number : ℕ) (call : NfsCall) (outcome : Outcome) → under profile binds tree number call outcome ≡ Some after
    → (change : Change) × (change_of binds tree number call outcome ≡ Some change)
plain_leads Plain binds tree after number call outcome e = let found = mapped (changed tree) (change_of binds tree number call outcome) after e in (found.0, found.1)
plain_leads Strict binds tree after number call outcome e =
    let next = chained (judged binds tree call outcome) (next_tree binds tree number call outcome) after e in
    let found = mapped (changed tree) (change_of binds tree number call outcome) next.0 next.1 in (found.0, found.1)

pub under_heeds : (profile : Profile) (binds : Bindings) (tree after : Tree) (number : ℕ) (call : NfsCall) (outcome : Outcome) → under profile binds tree number call outcome ≡ Some after
    → are_bound binds (given binds tree number call outcome) ≡ true
under_heeds profile binds tree after number call outcome e =
    let found = plain_leads profile binds tree after number call outcome e in of_given.heeds binds tree number call outcome found.0 found.1
