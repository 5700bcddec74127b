-- For the prover, and for callers.
-- What placing a call in a state comes to (a form of this project's own).
use Rattle.std.specs.Prelude.{◌≡◌, ◌⊎◌, ◌++◌, ℕ, ◌+◌, ◌<◌, ◌≤◌, Bool, true, false, List, [], ◌∷◌, length, Option, Some, None, unwrap_or, option_map, map, Contains, IsTrue, IfSome}
use Rattle.std.specs.List.{AllByRecursion}
use Rattle.nfs3_types.specs.declared.calls.NfsCall.{NfsCall}
use Rattle.nfs3_types.specs.declared.calls.NfsCall.TheVariants as calls
use Rattle.nfs3_types.specs.declared.replies.Outcome.{Outcome}
use Rattle.nfs3_types.specs.declared.replies.Outcome.TheVariants.{Taken}
use Rattle.nfs_history.specs.declared.recorded.Meaning.TheVariants as meanings
use Rattle.nfs_history.specs.declared.recorded.RecordedCall.{RecordedCall}
use Rattle.nfs_history.specs.declared.knowing.KnownCalls.{KnownCalls}
use Rattle.certificate.specs.declared.plan.Certificate.{Certificate}
use Rattle.order_check.specs.Places.{may_take}
use Rattle.tree_nodes.specs.Tree.{Tree}
use Rattle.file_tree.specs.Setting.{next_in}
use Rattle.decision_core.specs.States.{Holds, HasStep}
use Rattle.decision_core.specs.Eras.{is_placed, HasStable, IsAheadOfCut, IsFirstLost, IsBehindCut}
use Rattle.decision_steps.specs.Known.{AgreesWith}
use Rattle.decision_steps.specs.Standing.{Standing}
use Rattle.decision_law.specs.Laws.{binds_of}
use Rattle.decision_law.specs.Machine.{Point, Changes, MayComeOut, Next}
use Rattle.decision_law.specs.Times.{era_of_number}
use Rattle.tree_starts.specs.Start.{object_made}
use Rattle.alike_calls.specs.Alike.{object_touched}
use Rattle.tree_handles.specs.Binding.{Bindings}
use Rattle.decision_walk.specs.View.{KeptView, WalkView}
use Rattle.decision_walk.specs.declared.open_writes.OpenWrite.{OpenWrite}
use Rattle.decision_walk.specs.Opening.{HasWritten, narrowed_write, open_at}
use Rattle.decision_walk.specs.Standing.{hints_of, numbers_of, is_marked, has_call, EndsAfter, IsAt}

-- how many bytes a WRITE brought
abbrev pub bytes_brought : NfsCall → Option ℕ
bytes_brought (calls.Write call) = Some (length call.bytes)
bytes_brought call = None

-- the tree of a state, with the WRITEs that are open in it
abbrev pub kept_of : WalkView → KeptView
kept_of state = record { tree = state.tree; writes = state.writes; origin = state.origin }

-- the state in which a call is placed, which led to this tree, with these open WRITEs, and these handles, with this base
abbrev pub child_of : WalkView → Standing → List OpenWrite → Option KeptView → ℕ → WalkView
child_of state next writes base n = record {
  tree = next.tree;
  writes = writes;
  binds = next.binds;
  base = base;
  era = state.era;
  past = state.past;
  placed = state.placed ++ n ∷ [];
  answered_to = state.answered_to;
  barred = state.barred;
  origin = next.origin;
}

-- the state in which a crash came with this number
abbrev pub crashed : WalkView → ℕ → WalkView
crashed state n = record {
  tree = (unwrap_or state.base (kept_of state)).tree;
  writes = (unwrap_or state.base (kept_of state)).writes;
  binds = state.binds;
  base = None;
  era = state.era + 1;
  past = state.past;
  placed = state.placed ++ n ∷ [];
  answered_to = state.answered_to;
  barred = state.barred;
  origin = state.origin;
}

-- the state with other trees, and other WRITEs that are open in them
abbrev pub with_trees : WalkView → KeptView → Option KeptView → WalkView
with_trees state kept base = record state { tree = kept.tree; writes = kept.writes; base = base }

-- the state in which an open WRITE wrote no fewer and no more bytes than these
abbrev pub narrowed_kept : ℕ → ℕ → ℕ → KeptView → KeptView
narrowed_kept call least most kept = record { tree = kept.tree; writes = map (narrowed_write call least most) kept.writes; origin = kept.origin }

abbrev pub narrowed : WalkView → ℕ → ℕ → ℕ → WalkView
narrowed state call least most = with_trees state (narrowed_kept call least most (kept_of state)) (option_map (narrowed_kept call least most) state.base)

-- the state, compared by something else
abbrev pub renewed_kept : Tree × Bindings → KeptView → KeptView
renewed_kept origin kept = record kept { origin = origin }

abbrev pub renewed : WalkView → Tree × Bindings → WalkView
renewed state origin = record state { base = option_map (renewed_kept origin) state.base; origin = origin }

-- a call that came out so comes to the file of no open WRITE, whatever the handles name that aren't bound yet
abbrev pub IsApart : WalkView → NfsCall → Outcome → Type 0
IsApart state call outcome = (plan : Bindings) → AgreesWith state.binds plan → IfSome (object_touched plan state.tree call outcome) (λ object. open_at state.writes object ≡ None)

-- the object that call n makes, if it makes one, is that of no open WRITE's file
abbrev pub MakesNoneOpen : KnownCalls → WalkView → ℕ → Type 0
MakesNoneOpen known state n = open_at state.writes (object_made (length known.head.start) n) ≡ None

module _ (known : KnownCalls) where
  -- by the plan the call leads from the first tree to the second
  abbrev pub GoesOn : Certificate → Tree → ℕ → NfsCall → Outcome → Tree → Type 0
  GoesOn plan tree n call outcome after = next_in known.head.profile (length known.head.start) (binds_of known plan) tree n call outcome ≡ Some after

  -- what is found covers a plan by which the call leads to this tree
  abbrev pub IsCovered : Certificate → Tree → Option Standing → Type 0
  IsCovered plan after None = ⊥
  IsCovered plan after (Some next) = (next.tree ≡ after) × AgreesWith next.binds (binds_of known plan)

  -- so it is of each plan that agrees with the state's handles, and by which the call goes on from its tree
  abbrev pub CoversPlans : WalkView → ℕ → NfsCall → Outcome → Option Standing → Type 0
  CoversPlans state n call outcome found = (plan : Certificate) (after : Tree) → AgreesWith state.binds (binds_of known plan) → GoesOn plan state.tree n call outcome after → IsCovered plan after found

  module _ (marks : List Bool) where
    -- a marked call of the state's era isn't placed, and can't be forgotten yet
    pub record IsMissing (state : WalkView) : Type 0 where
      pub number : ℕ
      pub marked : is_marked marks number ≡ true
      pub unplaced : has_call state.placed number ≡ false
      pub era : era_of_number known number ≡ state.era
      pub later : EndsAfter known number state.answered_to

    -- what is found covers a plan's point by which the call leads to this tree
    abbrev pub IsCoveredAt : Certificate → (ℕ → ℕ) → List OpenWrite → Tree → Option Standing → Type 0
    IsCoveredAt plan counts writes after None = ⊥
    IsCoveredAt plan counts writes after (Some next) = HasWritten known (binds_of known plan) counts writes next.tree after × AgreesWith next.binds (binds_of known plan)

    -- so it is of each point that the state stands for, and from which the call goes on
    abbrev pub CoversPoints : WalkView → ℕ → NfsCall → Outcome → Option Standing → Type 0
    CoversPoints state n call outcome found = (plan : Certificate) (gone : ℕ → Bool) (point : Point known) (at : IsAt known marks plan gone point state) → point.era ≤ known.eras
        → (after : Tree) → GoesOn plan point.tree n call outcome after → IsCoveredAt plan at.counts state.writes after found

    -- the second state stands for the points of the first in which the call wrote so many bytes
    abbrev pub IsResolution : WalkView → ℕ → ℕ → WalkView → Type 0
    IsResolution state call count after = (plan : Certificate) (gone : ℕ → Bool) (point : Point known) (at : IsAt known marks plan gone point state) → at.counts call ≡ count
        → IsAt known marks plan gone point after

    -- from none of these the call goes on
    abbrev pub DoesNotFit : WalkView → ℕ → ℕ → NfsCall → Outcome → ℕ → Type 0
    DoesNotFit state written n call outcome count = (plan : Certificate) (gone : ℕ → Bool) (point : Point known) (at : IsAt known marks plan gone point state) → at.counts written ≡ count
        → point.era ≤ known.eras → (after : Tree) → GoesOn plan point.tree n call outcome after → ⊥

    -- one of the states stands for the point
    abbrev pub HoldsAt : List WalkView → Certificate → (ℕ → Bool) → Point known → Type 0
    HoldsAt states plan gone point = Holds (IsAt known marks) plan gone states point

    -- the call that came out so changes the tree from the point on: before the cut, as the first that is lost, or after the cut
    pub record Comes (plan : Certificate) (point : Point known) (n : ℕ) (call : NfsCall) (outcome : Outcome) (after : Point known) : Type 0 where
      pub era : era_of_number known n ≡ point.era
      pub tree : Tree
      pub goes : GoesOn plan point.tree n call outcome tree
      pub cut : IsAheadOfCut (Changes known (binds_of known plan)) point n tree after
          ⊎ (IsFirstLost (Changes known (binds_of known plan)) (numbers_of known marks) point n tree after ⊎ IsBehindCut (Changes known (binds_of known plan)) (numbers_of known marks) point n tree after)

    -- the states have all to which placing the call, which came out so, may lead
    abbrev pub HasPlaced : List WalkView → WalkView → ℕ → NfsCall → Outcome → Type 0
    HasPlaced states state n call outcome = (plan : Certificate) (gone : ℕ → Bool) (point after : Point known) → IsAt known marks plan gone point state → point.era ≤ known.eras
        → gone n ≡ false → Comes plan point n call outcome after → HoldsAt states plan gone after

    -- so they have where an open WRITE wrote so many bytes
    abbrev pub HasPlacedFor : List WalkView → WalkView → ℕ → ℕ → ℕ → NfsCall → Outcome → Type 0
    HasPlacedFor states state written count n call outcome = (plan : Certificate) (gone : ℕ → Bool) (point after : Point known) (at : IsAt known marks plan gone point state)
        → at.counts written ≡ count → point.era ≤ known.eras → gone n ≡ false → Comes plan point n call outcome after → HoldsAt states plan gone after

    -- some call that can't be lost isn't placed in any of these points, or this call can't be
    abbrev pub MayNotLose : WalkView → ℕ → Type 0
    MayNotLose state n = (plan : Certificate) (gone : ℕ → Bool) (point : Point known) → IsAt known marks plan gone point state
        → ¬ ((¬ IsTrue ((numbers_of known marks).is_stable n)) × HasStable (numbers_of known marks) point)

    -- the states in which the call is placed: as it stands to the cut, and as the first that is lost
    abbrev pub HasChildren : List WalkView → WalkView → ℕ → Standing → List OpenWrite → Type 0
    HasChildren states state n next writes = Contains states (child_of state next writes state.base n)
        × (state.base ≡ None → state.era < known.eras → MayNotLose state n ⊎ Contains states (child_of state next writes (Some (kept_of state)) n))

    -- the states have all to which the call may lead that is taken without a reply
    abbrev pub HasTaken : List WalkView → WalkView → ℕ → NfsCall → Type 0
    HasTaken states state n call = (count : Option ℕ) → IsTrue (may_take (meanings.Judged call) count) → HasPlaced states state n call (Taken count)

    -- so they have where an open WRITE wrote so many bytes
    abbrev pub HasTakenFor : List WalkView → WalkView → ℕ → ℕ → ℕ → NfsCall → Type 0
    HasTakenFor states state written bytes n call = (count : Option ℕ) → IsTrue (may_take (meanings.Judged call) count) → HasPlacedFor states state written bytes n call (Taken count)

    -- so does each count of bytes below this one
    abbrev pub HasCounts : List WalkView → WalkView → ℕ → NfsCall → ℕ → Type 0
    HasCounts states state n call counts = (count : ℕ) → count < counts → HasPlaced states state n call (Taken (Some count))

    -- and all to which it may lead, however it came out
    abbrev pub HasAllOf : List WalkView → WalkView → ℕ → RecordedCall → Type 0
    HasAllOf states state n recorded = (call : NfsCall) (outcome : Outcome) → recorded.meaning ≡ meanings.Judged call → MayComeOut recorded outcome → HasPlaced states state n call outcome

    -- and all to which a call or a crash may lead
    abbrev pub HasStepOf : List WalkView → ℕ → WalkView → Type 0
    HasStepOf states n state = HasStep (IsAt known marks) is_placed (λ plan. Next known (hints_of marks) (binds_of known plan)) states n state

    -- and all to which each of these may lead
    abbrev pub HasStepsOf : List WalkView → List ℕ → WalkView → Type 0
    HasStepsOf states calls state = AllByRecursion (λ n. HasStepOf states n state) calls
