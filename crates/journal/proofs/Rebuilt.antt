-- what is said of the tree of records, and of the first one at fault
use Rattle.std.proofs.Common.{◌≡◌, ◌⊎◌, inl, inr, ℕ, List, [], ◌∷◌, ◌++◌, length, Some, None, Result, Ok, Err, refl, sym, ap, ◌∙◌, subst}
use Rattle.std.specs.Prelude.{IfOk, IfErr, option_and_then}
use Rattle.std.specs.List.{AllByRecursion, range_with_len}
use Rattle.journal.specs.declared.change.Change.{Change}
use Rattle.journal.specs.Exactly.{MeansNothing}
use Rattle.journal.specs.Journal.{IsJournalRecord}
use Rattle.tree_starts.specs.declared.object.StartObject.{StartObject}
use Rattle.tree_starts.specs.declared.profile.Profile.{Profile}
use Rattle.tree_starts.specs.declared.profile.Profile.TheVariants.{Plain}
use Rattle.tree_nodes.specs.Tree.{Tree}
use Rattle.tree_nodes.proofs.Chains.{same_some}
use Rattle.tree_handles.specs.Binding.{Bindings}
use Rattle.file_tree.specs.StartTree.{start_tree}
use Rattle.journal.specs.declared.rebuild_fault.RebuildFault.{RebuildFault}
use Rattle.journal.specs.declared.rebuild_fault.RebuildFault.TheVariants.{NoRecord, NotLegal, NoMemory}
use Rattle.journal.specs.Rebuilding.{bindings_made, object_in, objects_named, IsNumbered, Rebuilds, FaultHolds}
use Rattle.journal.specs.Taking.{with_handle, tree_behind, IsStuck, grown, Stands, Leads, StopsIn}
use Rattle.journal.proofs.Growing.{all_leads, grown-append}
use Rattle.journal.proofs.Records.{only_are, made_more, same_changes, ChangeParts, change_parts}

-- what holds of all changes holds of the one at hand
all_here : (P : Change → Type 0) (ahead : List Change) (change : Change) (behind : List Change) → AllByRecursion P (ahead ++ change ∷ behind) → P change
all_here P [] change behind all = all.0
all_here P (c ∷ ahead) change behind all = all_here P ahead change behind all.1

module _ (profile : Profile) (start : List StartObject) where
  abbrev first : ℕ
  first = length start

  pub rebuilds_so : (records : List (List ℕ)) (binds : Bindings) (tree : Tree) → Stands profile start records binds tree → Rebuilds profile start records tree
  rebuilds_so records binds tree s = record {
    changes = s.changes;
    are = only_are records s.changes s.are;
    numbered = s.numbered;
    leads = all_leads profile start s.changes s.start_is ∙ s.leads;
  }

  -- the tree is one
  pub one_tree : (records : List (List ℕ)) (binds : Bindings) (tree other : Tree) → Stands profile start records binds tree → Rebuilds profile start records other → other ≡ tree
  one_tree records binds tree other s r =
      let same = same_changes records s.changes r.changes s.are r.are in
      same_some other tree
      (sym r.leads ∙ all_leads profile start r.changes s.start_is ∙ ap (grown profile first (range_with_len 1 first) (start_tree start)) same ∙ s.leads)

  -- records of which one is at fault lead to no tree
  module _ (ahead : List (List ℕ)) (bad : List ℕ) (behind : List (List ℕ)) (after : Tree) (r : Rebuilds profile start (ahead ++ bad ∷ behind) after) where
    pub unread_stops : MeansNothing (IsJournalRecord bad) → ⊥
    unread_stops none = let p = change_parts ahead bad behind r.changes r.are in none p.here p.reads

    pub stuck_stops : (binds : Bindings) (tree : Tree) → Stands profile start ahead binds tree → IsStuck profile (length start) bad binds tree → ⊥
    stuck_stops binds tree s k =
        nothing
        (sym r.leads ∙ all_leads profile start r.changes s.start_is ∙ ap (grown profile first (range_with_len 1 first) (start_tree start)) same
        ∙ grown-append profile first (range_with_len 1 first) (start_tree start) s.changes (k.change ∷ p.rest)
        ∙ ap (option_and_then (λ t. grown profile first (objects_named first s.changes) t (k.change ∷ p.rest))) s.leads
        ∙ ap (option_and_then (λ t. grown profile first (objects_named first s.changes ++ object_in first k.change ∷ []) t p.rest)) stops) where
          nothing : Some after ≡ None → ⊥
          nothing e = cc

          p : ChangeParts ahead bad behind r.changes
          p = change_parts ahead bad behind r.changes r.are

          same : r.changes ≡ s.changes ++ k.change ∷ p.rest
          same = p.parts ∙ (λ i. same_changes ahead s.changes p.first s.are p.are i ++ k.only.only p.here p.reads i ∷ p.rest)

          numbered : IsNumbered first k.change
          numbered = all_here (IsNumbered first) s.changes k.change p.rest (subst (AllByRecursion (IsNumbered first)) same r.numbered)

          stops : tree_behind profile first (bindings_made (objects_named first s.changes ++ object_in first k.change ∷ [])) tree k.change ≡ None
          stops =
              ap (λ (b : Bindings). tree_behind profile first b tree k.change)
              (sym (made_more (objects_named first s.changes) (object_in first k.change)) ∙ ap (λ (b : Bindings). with_handle b (object_in first k.change)) (sym s.names))
              ∙ k.stops numbered

  pub fault_holds : (records : List (List ℕ)) (fault : RebuildFault) → StopsIn profile start records fault → FaultHolds profile start records fault
  fault_holds records (NoRecord number) s = (
    s.bad,
    record {
      ahead = s.ahead;
      behind = s.behind;
      parts = s.parts;
      place = s.place;
      tree = s.tree;
      leads = rebuilds_so s.ahead s.binds s.tree s.stands;
      stops = λ after r. unread_stops s.ahead s.bad [] after r s.why;
    },
    s.why,
  )
  fault_holds records (NotLegal number) s = (
    s.bad,
    record {
      ahead = s.ahead;
      behind = s.behind;
      parts = s.parts;
      place = s.place;
      tree = s.tree;
      leads = rebuilds_so s.ahead s.binds s.tree s.stands;
      stops = λ after r. stuck_stops s.ahead s.bad [] after r s.binds s.tree s.stands s.why;
    },
    (s.why.change, s.why.only.means),
  )
  fault_holds records NoMemory s = tt

  -- ---- the answer

  pub found_so : (records : List (List ℕ)) (r : Result Tree RebuildFault) → IfOk r (Leads profile start records) → IfOk r (Rebuilds profile start records)
  found_so records (Ok tree) l = rebuilds_so records l.0 tree l.1
  found_so records (Err fault) l = tt

  pub bad_so : (records : List (List ℕ)) (r : Result Tree RebuildFault) → IfErr r (StopsIn profile start records) → IfErr r (FaultHolds profile start records)
  bad_so records (Ok tree) s = tt
  bad_so records (Err fault) s = fault_holds records fault s

  pub only_so : (records : List (List ℕ)) (r : Result Tree RebuildFault) → IfOk r (Leads profile start records) → IfErr r (StopsIn profile start records) → (tree : Tree) → Rebuilds profile start records tree → (r ≡ Ok tree) ⊎ (r ≡ Err NoMemory)
  only_so records (Ok found) l s tree rebuilds = inl (ap (λ t. Ok t) (sym (one_tree records l.0 found tree l.1 rebuilds)))
  only_so records (Err (NoRecord number)) l s tree rebuilds = absurd (unread_stops s.ahead s.bad s.behind tree (subst (λ rs. Rebuilds profile start rs tree) s.parts rebuilds) s.why)
  only_so records (Err (NotLegal number)) l s tree rebuilds = absurd (stuck_stops s.ahead s.bad s.behind tree (subst (λ rs. Rebuilds profile start rs tree) s.parts rebuilds) s.binds s.tree s.stands s.why)
  only_so records (Err NoMemory) l s tree rebuilds = inr refl

-- nothing stood at first
pub only_from_nothing : (start : List StartObject) (records : List (List ℕ)) (r : Result Tree RebuildFault) → start ≡ []
    → ((tree : Tree) → Rebuilds Plain start records tree → (r ≡ Ok tree) ⊎ (r ≡ Err NoMemory)) → (tree : Tree) → Rebuilds Plain [] records tree → (r ≡ Ok tree) ⊎ (r ≡ Err NoMemory)
only_from_nothing start records r nothing only tree rebuilds = only tree (subst (λ objects. Rebuilds Plain objects records tree) (sym nothing) rebuilds)
