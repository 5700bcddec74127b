-- which calls make the object of their number, and what its handle means to them
use Rattle.std.proofs.Common.{◌≡◌, ◌≢◌, inl, inr, ℕ, suc, Bool, true, false, List, [], ◌∷◌, ◌++◌, replicate, Option, Some, None, refl, sym, ap, ◌∙◌, subst, eq-eqb, arith}
use Rattle.std.specs.Prelude.{IsSome, ◌==◌, if◌then◌else◌, option_and_then, option_map}
use Rattle.std.specs.Option.{option_map_or}
use Rattle.std.specs.FinMap as map
use Rattle.nfs3_types.specs.declared.calls.NfsCall.{NfsCall}
use Rattle.nfs3_types.specs.declared.calls.NfsCall.TheVariants as calls
use Rattle.nfs3_types.specs.declared.calls.CreateArguments.{CreateArguments}
use Rattle.nfs3_types.specs.declared.calls.CreateMode.{CreateMode}
use Rattle.nfs3_types.specs.declared.calls.DirectoryName.{DirectoryName}
use Rattle.nfs3_types.specs.declared.replies.Answer.TheVariants.{Done}
use Rattle.nfs3_types.specs.declared.replies.NfsReply.{NfsReply}
use Rattle.nfs3_types.specs.declared.replies.NfsReply.TheVariants as replies
use Rattle.nfs3_types.specs.declared.replies.Outcome.TheVariants as outcomes
use Rattle.nfs3_types.specs.declared.status.Failure.{Failure}
use Rattle.nfs3_types.specs.Procedures.{failure_in}
use Rattle.tree_nodes.specs.declared.node.Node.{Node}
use Rattle.tree_nodes.specs.declared.node.Content.{Content}
use Rattle.tree_nodes.specs.declared.node.Content.TheVariants as contents
use Rattle.tree_nodes.specs.Files.{file_node}
use Rattle.tree_nodes.specs.Tree.{Names, Tree, entry_of}
use Rattle.tree_nodes.proofs.Chains.{chained, mapped, same_some}
use Rattle.tree_nodes.proofs.Found.{some_found}
use Rattle.tree_handles.specs.Binding.{Bindings, object_of, is_bound, gives_object}
use Rattle.tree_handles.specs.Live.{live_entry, as_directory, directory_of}
use Rattle.tree_starts.specs.Names.{is_plain}
use Rattle.tree_starts.specs.declared.profile.Profile.{Profile}
use Rattle.tree_starts.specs.declared.profile.Profile.TheVariants.{Plain, Strict}
use Rattle.file_tree.specs.Setting.{under}
use Rattle.file_tree.specs.Strict.{judged}
use Rattle.file_tree.proofs.Profiles.{comes_out_plain, same_judgement}
use Rattle.file_tree.specs.Change.{Change}
use Rattle.file_tree.specs.Change.Change.{Put}
use Rattle.file_tree.specs.Made as made
use Rattle.file_tree.specs.Success.{changed, change_done, change_answered, next_tree}
use Rattle.tree_laws.specs.Agreeing.{AgreeOn}
use Rattle.tree_laws.proofs.Agreeing.{others_dont_matter}
use Rattle.book_laws.proofs.Bound.{stays_absent}
use Rattle.book_ledger.specs.Recordable.{may_make}
use Rattle.book_ledger.proofs.Naming.{named_so}
use Rattle.file_tree.proofs.StartStep.{put_there}

gone : {X : Type 0} {o : Option X} → o ≡ None → IsSome o → ⊥
gone e s = cc

-- ---- a call that makes none doesn't heed its number

number_free : (binds : Bindings) (tree : Tree) (n m : ℕ) (call : NfsCall) (reply : NfsReply) (o : Option Failure) → may_make call ≡ false → change_answered binds tree n call reply o ≡ change_answered binds tree m call reply o
number_free binds tree n m call reply (Some failure) e = refl
number_free binds tree n m (calls.Create call) reply None e = absurd (cc)
number_free binds tree n m (calls.MkDir call) reply None e = absurd (cc)
number_free binds tree n m (calls.SymLink call) reply None e = absurd (cc)
number_free binds tree n m _ reply None e = refl

apart : (n : ℕ) → suc n ≡ n → ⊥
apart n e = omega (arith, e)

pub none_made : (binds : Bindings) (before after : Tree) (n : ℕ) (call : NfsCall) (reply : NfsReply) → may_make call ≡ false → entry_of before n ≡ None
    → next_tree binds before n call (outcomes.Received reply) ≡ Some after → entry_of after n ≡ None
none_made binds before after n call reply makes absent next =
    stays_absent binds before after (suc n) call (outcomes.Received reply) n
    (ap (option_map (changed before)) (number_free binds before (suc n) n call reply (failure_in reply) makes) ∙ next) absent (apart n)

-- ---- a call that may make one, and didn't

-- what was put is there
put_is_there : (tree : Tree) (path : Names) (node : Node) (n : ℕ) → node.object ≡ n → IsSome (entry_of (map.insert tree path node) n)
put_is_there tree path node n same = some_found (map.insert tree path node) (λ e. e.1.object == n) path node (put_there tree path node path refl) (eq-eqb node.object n same)

across : (one other : Bindings) (tree : Tree) (n : ℕ) → entry_of tree n ≡ None → ((handle : List ℕ) (object : ℕ) → object ≢ n → is_bound one handle object ≡ is_bound other handle object)
    → (handle : List ℕ) (e : Names × Node) → live_entry one tree handle ≡ Some e → live_entry other tree handle ≡ Some e
across one other tree n absent alike handle e lives =
    let found = chained (entry_of tree) (object_of one handle) e lives in
    let stands : IsSome (entry_of tree found.0) = subst IsSome (sym found.2) refl in
    let differs : found.0 ≢ n = λ same. gone absent (subst (λ (k : ℕ). IsSome (entry_of tree k)) same stands) in
    let bound : is_bound other handle found.0 ≡ true =
    sym (alike handle found.0 differs) ∙ ap (λ (o : Option ℕ). option_map_or (λ named. named == found.0) o false) found.1 ∙ eq-eqb found.0 found.0 refl in
    ap (option_and_then (entry_of tree)) (named_so (object_of other handle) found.0 bound) ∙ found.2

module _ (one other : Bindings) (tree : Tree) (n : ℕ) (absent : entry_of tree n ≡ None) (alike : (handle : List ℕ) (object : ℕ) → object ≢ n → is_bound one handle object ≡ is_bound other handle object) where
  same_live : (handle : List ℕ) → live_entry one tree handle ≡ live_entry other tree handle
  same_live handle = go (live_entry one tree handle) (live_entry other tree handle) refl refl where
    go : (a b : Option (Names × Node)) → live_entry one tree handle ≡ a → live_entry other tree handle ≡ b → live_entry one tree handle ≡ live_entry other tree handle
    go (Some e) b is_a is_b = is_a ∙ sym (across one other tree n absent alike handle e is_a)
    go None (Some e) is_a is_b = across other one tree n absent (λ h object differs. sym (alike h object differs)) handle e is_b ∙ sym is_b
    go None None is_a is_b = is_a ∙ sym is_b

  same_directory : (handle : List ℕ) → directory_of one tree handle ≡ directory_of other tree handle
  same_directory handle = ap (option_and_then (λ (e : Names × Node). as_directory e.0 e.1.content)) (same_live handle)

  agree : (m : ℕ) → m ≢ n → AgreeOn one other tree m
  agree m differs handle object (inl stands) = alike handle object (λ same. gone (ap (entry_of tree) same ∙ absent) stands)
  agree m differs handle object (inr own) = alike handle object (λ same. differs (sym own ∙ same))

  -- for another number they do the same
  same_else : (call : NfsCall) (reply : NfsReply) → next_tree one tree (suc n) call (outcomes.Received reply) ≡ next_tree other tree (suc n) call (outcomes.Received reply)
  same_else call reply = others_dont_matter one other tree (suc n) call (outcomes.Received reply) (agree (suc n) (apart n))

  -- a node that the change puts is there
  module _ (after : Tree) (missing : entry_of after n ≡ None) where
    not_put : (path : Names) (node : Node) → node.object ≡ n → changed tree (Put path node) ≡ after → ⊥
    not_put path node same is = gone (ap (λ (t : Tree). entry_of t n) is ∙ missing) (put_is_there tree path node n same)

    only_put : (b : Bool) (path : Names) (node : Node) (c : Change) → node.object ≡ n → made.only_if b (Put path node) ≡ Some c → changed tree c ≡ after → ⊥
    only_put true path node c same e is = not_put path node same (ap (changed tree) (same_some (Put path node) c e) ∙ is)
    only_put false path node c same e is = absurd (cc)

    -- MKDIR and SYMLINK put one
    entry_put : (binds : Bindings) (place : DirectoryName) (handle : Option (List ℕ)) (content : Content) (c : Change) → made.make_entry binds tree n place handle content ≡ Some c → changed tree c ≡ after → ⊥
    entry_put binds place handle content c e is =
        let found = chained _ (directory_of binds tree place.directory) c e in
        only_put _ (found.0 ++ place.name ∷ []) (record { object = n; content = content }) c refl found.2 is

    -- a node that stands is no object of the number
    held : (path : Names) (node : Node) → map.get tree path ≡ Some node → node.object ≢ n
    held path node there same = gone absent (subst (λ (k : ℕ). IsSome (entry_of tree k)) same (some_found tree (λ e. e.1.object == node.object) path node there (eq-eqb node.object node.object refl)))

    gives_same : (handle : Option (List ℕ)) (object : ℕ) → object ≢ n → gives_object one handle object ≡ gives_object other handle object
    gives_same None object differs = refl
    gives_same (Some handle) object differs = alike handle object differs

    -- a CREATE of a name that is present doesn't heed its number
    present_so : (mode : CreateMode) (handle : Option (List ℕ)) (path : Names) (object : ℕ) (content : Content) (c : Change) → object ≢ n → made.create_present one mode handle path object content ≡ Some c
        → made.create_present other mode handle path object content ≡ Some c
    present_so mode handle path object contents.Directory c differs e = absurd (cc)
    present_so mode handle path object (contents.Link target) c differs e = absurd (cc)
    present_so mode handle path object (contents.File file) c differs e = ap (λ (b : Bool). if b then made.create_over mode path object file else None) (sym (gives_same handle object differs)) ∙ e

    abbrev tried : Bindings → CreateArguments → Option (List ℕ) → Names → Bool → Option Node → Option Change
    tried binds call handle directory plain found = if plain then made.create_at binds tree n call.mode handle (directory ++ call.place.name ∷ []) found else None

    tried_so : (call : CreateArguments) (handle : Option (List ℕ)) (directory : Names) (c : Change) (plain : Bool) (found : Option Node) → map.get tree (directory ++ call.place.name ∷ []) ≡ found
        → changed tree c ≡ after → tried one call handle directory plain found ≡ Some c → tried other call handle directory plain found ≡ Some c
    tried_so call handle directory c false found at is e = absurd (cc)
    tried_so call handle directory c true None at is e =
        absurd (only_put _ (directory ++ call.place.name ∷ []) (file_node n (replicate (made.first_size call.mode) 0) (made.first_verifier call.mode)) c refl e is)
    tried_so call handle directory c true (Some node) at is e =
        present_so call.mode handle (directory ++ call.place.name ∷ []) node.object node.content c (held (directory ++ call.place.name ∷ []) node at) e

    create_so : (call : CreateArguments) (handle : Option (List ℕ)) (c : Change) → changed tree c ≡ after → made.create_change one tree n call handle ≡ Some c → made.create_change other tree n call handle ≡ Some c
    create_so call handle c is e =
        let step : Bindings → Names → Option Change = λ binds directory. tried binds call handle directory (is_plain call.place.name) (map.get tree (directory ++ call.place.name ∷ [])) in
        let found = chained (step one) (directory_of one tree call.place.directory) c e in
        ap (option_and_then (step other)) (sym (same_directory call.place.directory) ∙ found.1)
        ∙ tried_so call handle found.0 c (is_plain call.place.name) (map.get tree (found.0 ++ call.place.name ∷ [])) refl is found.2

    done_so : (call : NfsCall) (reply : NfsReply) (c : Change) → may_make call ≡ true → changed tree c ≡ after → change_done one tree n call reply ≡ Some c → change_done other tree n call reply ≡ Some c
    done_so (calls.Create call) (replies.Create (Done success)) c makes is e = create_so call success.object c is e
    done_so (calls.Create call) _ c makes is e = absurd (cc)
    done_so (calls.MkDir call) (replies.MkDir (Done success)) c makes is e = absurd (entry_put one call.place success.object contents.Directory c e is)
    done_so (calls.MkDir call) _ c makes is e = absurd (cc)
    done_so (calls.SymLink call) (replies.SymLink (Done success)) c makes is e = absurd (entry_put one call.place success.object (contents.Link call.target) c e is)
    done_so (calls.SymLink call) _ c makes is e = absurd (cc)
    done_so _ reply c makes is e = absurd (cc)

    answered_so : (call : NfsCall) (reply : NfsReply) (o : Option Failure) → may_make call ≡ true → failure_in reply ≡ o
        → option_map (changed tree) (change_answered one tree n call reply o) ≡ Some after → option_map (changed tree) (change_answered other tree n call reply o) ≡ Some after
    answered_so call reply (Some failure) makes is e =
        sym (subst (λ (o : Option Failure). option_map (changed tree) (change_answered one tree (suc n) call reply o) ≡ option_map (changed tree) (change_answered other tree (suc n) call reply o)) is (same_else call reply)) ∙ e
    answered_so call reply None makes is e =
        let c = mapped (changed tree) (change_done one tree n call reply) after e in
        ap (option_map (changed tree)) (done_so call reply c.0 makes c.2 c.1) ∙ ap Some c.2

-- where the object isn't there afterwards, its handle makes no difference
pub stays_so : (one other : Bindings) (tree after : Tree) (n : ℕ) (call : NfsCall) (reply : NfsReply) → may_make call ≡ true → entry_of tree n ≡ None
    → ((handle : List ℕ) (object : ℕ) → object ≢ n → is_bound one handle object ≡ is_bound other handle object)
    → next_tree one tree n call (outcomes.Received reply) ≡ Some after → entry_of after n ≡ None → next_tree other tree n call (outcomes.Received reply) ≡ Some after
stays_so one other tree after n call reply makes absent alike next missing = answered_so one other tree n absent alike after missing call reply (failure_in reply) makes refl next

-- so too under a profile
pub stays_under : (profile : Profile) (one other : Bindings) (tree after : Tree) (n : ℕ) (call : NfsCall) (reply : NfsReply) → may_make call ≡ true → entry_of tree n ≡ None
    → ((handle : List ℕ) (object : ℕ) → object ≢ n → is_bound one handle object ≡ is_bound other handle object)
    → under profile one tree n call (outcomes.Received reply) ≡ Some after → entry_of after n ≡ None → under profile other tree n call (outcomes.Received reply) ≡ Some after
stays_under Plain one other tree after n call reply makes absent alike next missing = stays_so one other tree after n call reply makes absent alike next missing
stays_under Strict one other tree after n call reply makes absent alike next missing =
    let found = chained (judged one tree call (outcomes.Received reply)) (next_tree one tree n call (outcomes.Received reply)) after next in
    let plain : next_tree one tree n call (outcomes.Received reply) ≡ Some after = comes_out_plain Strict one tree after n call (outcomes.Received reply) next in
    let same : found.0 ≡ after = same_some found.0 after (sym found.1 ∙ plain) in
    let agreed : judged one tree call (outcomes.Received reply) after ≡ Some after = subst (λ (t : Tree). judged one tree call (outcomes.Received reply) t ≡ Some after) same found.2 in
    ap (option_and_then (judged other tree call (outcomes.Received reply))) (stays_so one other tree after n call reply makes absent alike plain missing)
    ∙ sym (same_judgement one other tree after (same_live one other tree n absent alike) (same_live one other after n missing alike) call (outcomes.Received reply)) ∙ agreed
