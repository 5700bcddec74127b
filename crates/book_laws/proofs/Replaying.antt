-- the changes of a book's run lead to the same tree where the handles are those of the changes' numbers
use Rattle.std.proofs.Common.{◌≡◌, ◌⊎◌, inl, inr, ℕ, Bool, true, false, cond, List, [], ◌∷◌, ◌++◌, length, Option, Some, None, refl, sym, ap, ◌∙◌, subst, eq-eqb}
use Rattle.std.specs.Prelude.{IsSome, ◌==◌, ◌&&◌, not, is_none, filter, if◌then◌else◌, option_and_then, option_map}
use Rattle.std.specs.Option.{option_map_or}
use Rattle.std.specs.List.{AllByRecursion}
use Rattle.std.specs.FinMap as map
use Rattle.std.proofs.lemmas.Bool.{eqb-true}
use Rattle.nfs3_types.specs.declared.calls.NfsCall.{NfsCall}
use Rattle.nfs3_types.specs.declared.calls.NfsCall.TheVariants as calls
use Rattle.nfs3_types.specs.declared.calls.CreateArguments.{CreateArguments}
use Rattle.nfs3_types.specs.declared.calls.DirectoryName.{DirectoryName}
use Rattle.nfs3_types.specs.declared.replies.Answer.TheVariants.{Done}
use Rattle.nfs3_types.specs.declared.replies.NfsReply.{NfsReply}
use Rattle.nfs3_types.specs.declared.replies.NfsReply.TheVariants as replies
use Rattle.nfs3_types.specs.declared.replies.Outcome.TheVariants.{Received}
use Rattle.nfs3_types.specs.declared.status.Failure.{Failure}
use Rattle.nfs3_types.specs.Procedures.{is_answered, failure_in}
use Rattle.replay_law.specs.Run.{state_after}
use Rattle.tree_nodes.specs.declared.node.Node.{Node}
use Rattle.tree_nodes.specs.declared.node.Content.{Content}
use Rattle.tree_nodes.specs.declared.node.Content.TheVariants as contents
use Rattle.tree_nodes.specs.Tree.{Names, Tree, entry_of}
use Rattle.tree_nodes.proofs.Chains.{chained, mapped, passed, same_some, both_pass, none_is}
use Rattle.tree_nodes.proofs.Found.{some_found}
use Rattle.tree_handles.specs.Binding.{Bindings, object_of, is_bound}
use Rattle.tree_handles.specs.Live.{live_entry, as_directory, directory_of}
use Rattle.tree_starts.specs.Head.{Head}
use Rattle.tree_starts.specs.Names.{is_plain}
use Rattle.tree_starts.specs.Start.{object_made}
use Rattle.tree_starts.specs.declared.profile.Profile.{Profile}
use Rattle.tree_starts.specs.declared.profile.Profile.TheVariants.{Plain, Strict}
use Rattle.file_tree.specs.Setting.{under}
use Rattle.file_tree.specs.Strict.{judged}
use Rattle.file_tree.proofs.Profiles.{comes_out_plain, same_judgement}
use Rattle.file_tree.specs.Change.{Change}
use Rattle.file_tree.specs.Change.Change.{Put}
use Rattle.file_tree.specs.Made.{create_at, make_entry}
use Rattle.file_tree.specs.Success.{changed, change_done, change_answered, next_tree}
use Rattle.tree_laws.specs.Leaving.{only_looks}
use Rattle.tree_laws.specs.Agreeing.{AgreeOn}
use Rattle.tree_laws.proofs.Agreeing.{others_dont_matter}
use Rattle.tree_laws.proofs.Newcomers.{only_its_own_is_new}
use Rattle.book_laws.specs.Placing.{Placed, is_recorded}
use Rattle.book_laws.specs.Book.{Setting, bindings_made, setting_made, next_by}
use Rattle.book_laws.proofs.Running.{unrecorded_leaves_by}
use Rattle.nfs_history.specs.Success.{succeeded}
use Rattle.journal.proofs.Numbers.{Among}
use Rattle.book_laws.proofs.Standing.{AllStand}
use Rattle.book_laws.proofs.Renaming.{AreSmall, AreAlike, alike_bound}
use Rattle.file_tree.proofs.StartStep.{put_there}

-- ---- a call that makes no object doesn't heed its own number

-- a node that is put at a path stands
put_stands : (tree : Tree) (path : Names) (node : Node) (c : Change) → Some (Put path node) ≡ Some c → IsSome (entry_of (changed tree c) node.object)
put_stands tree path node c e =
    subst (λ (x : Change). IsSome (entry_of (changed tree x) node.object)) (same_some (Put path node) c e)
    (some_found (map.insert tree path node) (λ x. x.1.object == node.object) path node (put_there tree path node path refl) (eq-eqb node.object node.object refl))

-- the object is made, or another number would do as well, where the same directories are there
abbrev MakesOrNot : Bindings → Tree → ℕ → NfsCall → NfsReply → Change → Type 0
MakesOrNot binds tree number call reply c =
    IsSome (entry_of (changed tree c) number)
    ⊎ ((other : Bindings) → ((handle : List ℕ) → directory_of other tree handle ≡ directory_of binds tree handle) → change_done other tree number call reply ≡ change_done other tree 0 call reply)

module _ (binds : Bindings) (tree : Tree) (number : ℕ) (c : Change) where
  entry_made : (place : DirectoryName) (handle : Option (List ℕ)) (content : Content) → make_entry binds tree number place handle content ≡ Some c → IsSome (entry_of (changed tree c) number)
  entry_made place handle content e =
      let at = chained _ (directory_of binds tree place.directory) c e in
      put_stands tree (at.0 ++ place.name ∷ []) (record { object = number; content = content }) c (passed _ _ c at.2).1

  created : (call : CreateArguments) (handle : Option (List ℕ)) (reply : NfsReply)
      → ((other : Bindings) (n : ℕ) → change_done other tree n (calls.Create call) reply
      ≡ option_and_then (λ directory. if is_plain call.place.name then create_at other tree n call.mode handle (directory ++ call.place.name ∷ []) (map.get tree (directory ++ call.place.name ∷ [])) else None) (directory_of other tree call.place.directory))
      → change_done binds tree number (calls.Create call) reply ≡ Some c → MakesOrNot binds tree number (calls.Create call) reply c
  created call handle reply is e = go (map.get tree (at.0 ++ call.place.name ∷ [])) refl (passed (is_plain call.place.name) _ c at.2).1 where
    at : (d : Names) × (directory_of binds tree call.place.directory ≡ Some d)
        × ((if is_plain call.place.name then create_at binds tree number call.mode handle (d ++ call.place.name ∷ []) (map.get tree (d ++ call.place.name ∷ [])) else None) ≡ Some c)
    at = chained _ (directory_of binds tree call.place.directory) c (sym (is binds number) ∙ e)

    go : (o : Option Node) → map.get tree (at.0 ++ call.place.name ∷ []) ≡ o
        → create_at binds tree number call.mode handle (at.0 ++ call.place.name ∷ []) (map.get tree (at.0 ++ call.place.name ∷ [])) ≡ Some c → MakesOrNot binds tree number (calls.Create call) reply c
    go None there f = inl (put_stands tree (at.0 ++ call.place.name ∷ []) _ c (passed _ _ c (ap (create_at binds tree number call.mode handle (at.0 ++ call.place.name ∷ [])) (sym there) ∙ f)).1)
    go (Some node) there f = inr (λ other same. is other number ∙ both other (same call.place.directory ∙ at.1) ∙ sym (is other 0)) where
      both : (other : Bindings) → directory_of other tree call.place.directory ≡ Some at.0
          → option_and_then (λ directory. if is_plain call.place.name then create_at other tree number call.mode handle (directory ++ call.place.name ∷ []) (map.get tree (directory ++ call.place.name ∷ [])) else None) (directory_of other tree call.place.directory)
          ≡ option_and_then (λ directory. if is_plain call.place.name then create_at other tree 0 call.mode handle (directory ++ call.place.name ∷ []) (map.get tree (directory ++ call.place.name ∷ [])) else None) (directory_of other tree call.place.directory)
      both other d =
          ap (option_and_then (λ directory. if is_plain call.place.name then create_at other tree number call.mode handle (directory ++ call.place.name ∷ []) (map.get tree (directory ++ call.place.name ∷ [])) else None)) d
          ∙ ap (λ (o : Option Node). if is_plain call.place.name then create_at other tree number call.mode handle (at.0 ++ call.place.name ∷ []) o else None) there
          ∙ sym (ap (λ (o : Option Node). if is_plain call.place.name then create_at other tree 0 call.mode handle (at.0 ++ call.place.name ∷ []) o else None) there)
          ∙ sym (ap (option_and_then (λ directory. if is_plain call.place.name then create_at other tree 0 call.mode handle (directory ++ call.place.name ∷ []) (map.get tree (directory ++ call.place.name ∷ [])) else None)) d)

  makes_or_not : (call : NfsCall) (reply : NfsReply) → change_done binds tree number call reply ≡ Some c → MakesOrNot binds tree number call reply c
  makes_or_not (calls.Create call) (replies.Create (Done success)) e = created call success.object (replies.Create (Done success)) (λ other n. refl) e
  makes_or_not (calls.Create call) _ e = absurd (cc)
  makes_or_not (calls.MkDir call) (replies.MkDir (Done success)) e = inl (entry_made call.place success.object contents.Directory e)
  makes_or_not (calls.MkDir call) _ e = absurd (cc)
  makes_or_not (calls.SymLink call) (replies.SymLink (Done success)) e = inl (entry_made call.place success.object (contents.Link call.target) e)
  makes_or_not (calls.SymLink call) _ e = absurd (cc)
  makes_or_not (calls.GetAttr call) reply e = inr (λ other same. refl)
  makes_or_not (calls.SetAttr call) reply e = inr (λ other same. refl)
  makes_or_not (calls.Lookup call) reply e = inr (λ other same. refl)
  makes_or_not (calls.ReadLink call) reply e = inr (λ other same. refl)
  makes_or_not (calls.Read call) reply e = inr (λ other same. refl)
  makes_or_not (calls.Write call) reply e = inr (λ other same. refl)
  makes_or_not (calls.Remove call) reply e = inr (λ other same. refl)
  makes_or_not (calls.RmDir call) reply e = inr (λ other same. refl)
  makes_or_not (calls.Rename call) reply e = inr (λ other same. refl)
  makes_or_not (calls.ReadDir call) reply e = inr (λ other same. refl)
  makes_or_not (calls.ReadDirPlus call) reply e = inr (λ other same. refl)
  makes_or_not (calls.Commit call) reply e = inr (λ other same. refl)

-- ---- the same directories

named_is : (o : Option ℕ) (object : ℕ) → option_map_or (λ n. n == object) o false ≡ true → o ≡ Some object
named_is None object e = absurd (cc)
named_is (Some n) object e = ap Some (eqb-true n object e)

-- two bindings that name the same of what stands
abbrev AgreeIn : Bindings → Bindings → Tree → Type 0
AgreeIn binds other tree = (handle : List ℕ) (object : ℕ) → IsSome (entry_of tree object) → is_bound binds handle object ≡ is_bound other handle object

across : (binds other : Bindings) (tree : Tree) → AgreeIn binds other tree → (handle : List ℕ) (e : Names × Node) → live_entry binds tree handle ≡ Some e → live_entry other tree handle ≡ Some e
across binds other tree agree handle e live =
    let found = chained (entry_of tree) (object_of binds handle) e live in
    let bound : is_bound other handle found.0 ≡ true =
    sym (agree handle found.0 (subst IsSome (sym found.2) refl)) ∙ ap (λ (o : Option ℕ). option_map_or (λ n. n == found.0) o false) found.1 ∙ eq-eqb found.0 found.0 refl in
    ap (option_and_then (entry_of tree)) (named_is (object_of other handle) found.0 bound) ∙ found.2

same_live : (binds other : Bindings) (tree : Tree) → AgreeIn binds other tree → (handle : List ℕ) → live_entry binds tree handle ≡ live_entry other tree handle
same_live binds other tree agree handle = go (live_entry binds tree handle) (live_entry other tree handle) refl refl where
  go : (a b : Option (Names × Node)) → live_entry binds tree handle ≡ a → live_entry other tree handle ≡ b → live_entry binds tree handle ≡ live_entry other tree handle
  go (Some e) b is_a is_b = is_a ∙ sym (across binds other tree agree handle e is_a)
  go None (Some e) is_a is_b = across other binds tree (λ h o s. sym (agree h o s)) handle e is_b ∙ sym is_b
  go None None is_a is_b = is_a ∙ sym is_b

same_directory : (binds other : Bindings) (tree : Tree) → AgreeIn binds other tree → (handle : List ℕ) → directory_of binds tree handle ≡ directory_of other tree handle
same_directory binds other tree agree handle = ap (option_and_then (λ e. as_directory e.0 e.1.content)) (same_live binds other tree agree handle)

-- ---- one step

-- each object of the tree is the root or one of these
abbrev StandIn : List ℕ → Tree → Type 0
StandIn numbers tree = (object : ℕ) → IsSome (entry_of tree object) → (object ≡ 0) ⊎ Among numbers object

module _ (made journal : List ℕ) (small : AreSmall made) (small' : AreSmall journal) (tree : Tree) (in_made : StandIn made tree) (in_journal : StandIn journal tree) where
  alike : (object : ℕ) → IsSome (entry_of tree object) → AreAlike made journal object
  alike object stands = go (in_made object stands) (in_journal object stands) where
    go : (object ≡ 0) ⊎ Among made object → (object ≡ 0) ⊎ Among journal object → AreAlike made journal object
    go (inl root) other = inl root
    go (inr among) (inl root) = inl root
    go (inr among) (inr there) = inr ((λ a. there), (λ a. among))

  agree_in : AgreeIn (bindings_made made) (bindings_made journal) tree
  agree_in handle object stands = alike_bound made journal small small' handle object (alike object stands)

  module _ (number : ℕ) (call : NfsCall) (reply : NfsReply) (after : Tree) (next : next_tree (bindings_made made) tree number call (Received reply) ≡ Some after) (success : failure_in reply ≡ None)
      (its_own : IsSome (entry_of after number) → Among made number) (its_record : Among journal number) where
    as_done : (binds : Bindings) (n : ℕ) → next_tree binds tree n call (Received reply) ≡ option_map (changed tree) (change_done binds tree n call reply)
    as_done binds n = ap (λ (o : Option Failure). option_map (changed tree) (change_answered binds tree n call reply o)) success

    step_over : next_tree (bindings_made journal) tree number call (Received reply) ≡ Some after
    step_over =
        let change = mapped (changed tree) (change_done (bindings_made made) tree number call reply) after (sym (as_done (bindings_made made) number) ∙ next) in
        go change.0 (makes_or_not (bindings_made made) tree number change.0 call reply change.1) change.2 where
          go : (c : Change) → MakesOrNot (bindings_made made) tree number call reply c → changed tree c ≡ after → next_tree (bindings_made journal) tree number call (Received reply) ≡ Some after
          go c (inl stands) is = sym (others_dont_matter (bindings_made made) (bindings_made journal) tree number call (Received reply) agree) ∙ next where
            own : Among made number
            own = its_own (subst (λ (t : Tree). IsSome (entry_of t number)) is stands)

            agree : AgreeOn (bindings_made made) (bindings_made journal) tree number
            agree handle object (inl s) = agree_in handle object s
            agree handle object (inr same) = alike_bound made journal small small' handle object (inr ((λ a. subst (Among journal) (sym same) its_record), (λ a. subst (Among made) (sym same) own)))
          go c (inr free) is =
              as_done (bindings_made journal) number
              ∙ ap (option_map (changed tree)) (free (bindings_made journal) (λ handle. sym (same_directory (bindings_made made) (bindings_made journal) tree agree_in handle))) ∙ sym (as_done (bindings_made journal) 0)
              ∙ sym (others_dont_matter (bindings_made made) (bindings_made journal) tree 0 call (Received reply) agree) ∙ as_done (bindings_made made) 0
              ∙ sym (ap (option_map (changed tree)) (free (bindings_made made) (λ handle. refl))) ∙ sym (as_done (bindings_made made) number) ∙ next where
                agree : AgreeOn (bindings_made made) (bindings_made journal) tree 0
                agree handle object (inl s) = agree_in handle object s
                agree handle object (inr root) = alike_bound made journal small small' handle object (inl root)

  module _ (number : ℕ) (call : NfsCall) (reply : NfsReply) (after : Tree) (success : failure_in reply ≡ None) (its_own : IsSome (entry_of after number) → Among made number) (its_record : Among journal number) where
    -- what stands after the call is named the same
    agree_after : next_tree (bindings_made made) tree number call (Received reply) ≡ Some after → AgreeIn (bindings_made made) (bindings_made journal) after
    agree_after next handle object stands = go (only_its_own_is_new (bindings_made made) tree after number call (Received reply) object next stands) where
      go : IsSome (entry_of tree object) ⊎ (object ≡ number) → is_bound (bindings_made made) handle object ≡ is_bound (bindings_made journal) handle object
      go (inl stood) = agree_in handle object stood
      go (inr is) =
          alike_bound made journal small small' handle object
          (inr ((λ a. subst (Among journal) (sym is) its_record), (λ a. subst (Among made) (sym is) (its_own (subst (λ (n : ℕ). IsSome (entry_of after n)) is stands)))))

    -- so too under a profile
    under_over : (profile : Profile) → under profile (bindings_made made) tree number call (Received reply) ≡ Some after → under profile (bindings_made journal) tree number call (Received reply) ≡ Some after
    under_over Plain next = step_over number call reply after next success its_own its_record
    under_over Strict next =
        let found = chained (judged (bindings_made made) tree call (Received reply)) (next_tree (bindings_made made) tree number call (Received reply)) after next in
        let plain : next_tree (bindings_made made) tree number call (Received reply) ≡ Some after = comes_out_plain Strict (bindings_made made) tree after number call (Received reply) next in
        let same : found.0 ≡ after = same_some found.0 after (sym found.1 ∙ plain) in
        let agreed : judged (bindings_made made) tree call (Received reply) after ≡ Some after = subst (λ (t : Tree). judged (bindings_made made) tree call (Received reply) t ≡ Some after) same found.2 in
        ap (option_and_then (judged (bindings_made journal) tree call (Received reply))) (step_over number call reply after plain success its_own its_record)
        ∙ sym (same_judgement (bindings_made made) (bindings_made journal) tree after (same_live (bindings_made made) (bindings_made journal) tree agree_in)
        (same_live (bindings_made made) (bindings_made journal) after (agree_after plain)) call (Received reply)) ∙ agreed

-- ---- all steps

abbrev pub IsReceived : Placed → Type 0
IsReceived step = (reply : NfsReply) × (step.outcome ≡ Received reply)

module _ (head : Head) (made journal : List ℕ) (small : AreSmall made) (small' : AreSmall journal) where
  abbrev M : Setting
  M = setting_made head made

  abbrev J : Setting
  J = setting_made head journal

  abbrev its : Placed → ℕ
  its step = object_made (length head.start) step.number

  -- with the object of a call that was made
  stands_behind : (tree after : Tree) (step : Placed) (numbers : List ℕ) → next_by M tree step.number step.call step.outcome ≡ Some after → StandIn numbers tree
      → (IsSome (entry_of after (its step)) → Among numbers (its step)) → StandIn numbers after
  stands_behind tree after step numbers next in_tree own object stands = go (only_its_own_is_new M.binds tree after (its step) step.call step.outcome object (comes_out_plain head.profile M.binds tree after (its step) step.call step.outcome next) stands) where
    go : IsSome (entry_of tree object) ⊎ (object ≡ its step) → (object ≡ 0) ⊎ Among numbers object
    go (inl stood) = in_tree object stood
    go (inr is) = inr (subst (Among numbers) (sym is) (own (subst (λ (n : ℕ). IsSome (entry_of after n)) is stands)))

  pub replayed : (tree final : Tree) (steps : List Placed) → StandIn made tree → StandIn journal tree → AllStand M made tree steps → AllByRecursion IsReceived steps
      → AllByRecursion (λ step. Among journal (its step)) (filter is_recorded steps) → state_after (next_by M) tree steps ≡ Some final
      → state_after (next_by J) tree (filter is_recorded steps) ≡ Some final
  replayed tree final [] in_made in_journal a r n e = e
  replayed tree final (step ∷ steps) in_made in_journal a r n e =
      go (is_recorded step) refl n (λ j m. replayed a.0 final steps m j a.3 r.1) where
        rest : state_after (next_by M) a.0 steps ≡ Some final
        rest = sym (ap (option_and_then (λ t. state_after (next_by M) t steps)) a.1) ∙ e

        next_so : next_by M tree step.number step.call (Received r.0.0) ≡ Some a.0
        next_so = ap (next_by M tree step.number step.call) (sym r.0.1) ∙ a.1

        told : (not (only_looks step.call) && (is_answered step.call r.0.0 && is_none (failure_in r.0.0))) ≡ is_recorded step
        told = ap (λ o. not (only_looks step.call) && succeeded step.call o) (sym r.0.1)

        go : (b : Bool) → is_recorded step ≡ b → AllByRecursion (λ s. Among journal (its s)) (cond b (step ∷ filter is_recorded steps) (filter is_recorded steps))
            → (StandIn journal a.0 → StandIn made a.0 → AllByRecursion (λ s. Among journal (its s)) (filter is_recorded steps) → state_after (next_by M) a.0 steps ≡ Some final
            → state_after (next_by J) a.0 (filter is_recorded steps) ≡ Some final)
            → state_after (next_by J) tree (cond b (step ∷ filter is_recorded steps) (filter is_recorded steps)) ≡ Some final
        go true is all later =
            let parts = both_pass (not (only_looks step.call)) (is_answered step.call r.0.0 && is_none (failure_in r.0.0)) (told ∙ is) in
            let success = none_is (failure_in r.0.0) (both_pass (is_answered step.call r.0.0) (is_none (failure_in r.0.0)) parts.1).1 in
            let over = under_over made journal small small' tree in_made in_journal (its step) step.call r.0.0 a.0 success a.2 all.0 head.profile next_so in
            ap (option_and_then (λ t. state_after (next_by J) t (filter is_recorded steps))) (ap (next_by J tree step.number step.call) r.0.1 ∙ over)
            ∙ later (stands_behind tree a.0 step journal a.1 in_journal (λ s. all.0)) (stands_behind tree a.0 step made a.1 in_made a.2) all.1 rest
        go false is all later =
            let same : a.0 ≡ tree = unrecorded_leaves_by M tree a.0 step.number step.call r.0.0 next_so (told ∙ is) in
            ap (λ t. state_after (next_by J) t (filter is_recorded steps)) (sym same) ∙ later (subst (StandIn journal) (sym same) in_journal) (subst (StandIn made) (sym same) in_made) all rest
