-- Believed.
-- What placing a call of a history leads to, where it is known what each handle names (the rules are those of a plan's run).
use Rattle.std.specs.Prelude.{◌≡◌, ◌⊎◌, ℕ, List, length, Option, Some, None, IsTrue}
use Rattle.nfs3_types.specs.declared.calls.NfsCall.{NfsCall}
use Rattle.nfs3_types.specs.declared.replies.Outcome.{Outcome}
use Rattle.nfs3_types.specs.declared.replies.Outcome.TheVariants as outcomes
use Rattle.nfs_history.specs.declared.recorded.Meaning.TheVariants as meanings
use Rattle.nfs_history.specs.declared.recorded.RecordedCall.{RecordedCall}
use Rattle.nfs_history.specs.declared.knowing.KnownCalls.{KnownCalls}
use Rattle.nfs_history.specs.Precedence.{call_at}
use Rattle.order_check.specs.Places.{may_take}
use Rattle.tree_nodes.specs.Tree.{Tree}
use Rattle.tree_handles.specs.Binding.{Bindings}
use Rattle.file_tree.specs.Setting.{next_in}
use Rattle.witness_check.specs.Run.{base_of}
use Rattle.decision_core.specs.Decide.{IsWitness}
use Rattle.decision_core.specs.Eras.{EraState, is_placed, first_of, EraNext}
use Rattle.decision_law.specs.NeverLost.{Hints}
use Rattle.decision_law.specs.Times.{times_of, numbering_of}

-- how a call may have come out: as its reply says, or, where it has none, as it may be taken
abbrev pub MayComeOut : RecordedCall → Outcome → Type 0
MayComeOut recorded outcome = (recorded.outcome ≡ Some outcome)
    ⊎ ((count : Option ℕ) × (recorded.«end» ≡ None) × IsTrue (may_take recorded.meaning count) × (outcome ≡ outcomes.Taken count))

module _ (known : KnownCalls) where
  -- placing call n leads from the first tree to the second, where handles name what these bindings say
  pub record Changes (binds : Bindings) (tree : Tree) (n : ℕ) (after : Tree) : Type 0 where
    pub recorded : RecordedCall
    pub call : NfsCall
    pub outcome : Outcome
    pub stands : call_at known.calls n ≡ Some recorded
    pub judged : recorded.meaning ≡ meanings.Judged call
    pub came_out : MayComeOut recorded outcome
    pub leads : next_in known.head.profile (length known.head.start) binds tree n call outcome ≡ Some after

  -- what the calls placed so far have led to: a tree, the tree at the cut once a place is lost, the era, and what is placed
  abbrev pub Point : Type 0
  Point = EraState Tree

  -- where each plan begins: at what stood at first
  abbrev pub first_point : Point
  first_point = first_of (base_of known)

  -- what placing a call or a crash leads to, where a walk is told so much
  abbrev pub Next : Hints → Bindings → Point → ℕ → Point → Type 0
  Next hints binds = EraNext (Changes binds) (numbering_of known hints)

  -- where the eras begin at these events, the order of calls and crashes has all answered calls and all crashes, respects real time, and runs
  abbrev pub IsOrder : (ℕ → ℕ) → Hints → Bindings → List ℕ → Type 0
  IsOrder start hints binds order = IsWitness is_placed (Next hints binds) (times_of known start) first_point order
