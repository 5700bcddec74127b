-- For the prover.
-- Calls that a state may place at once: those that leave each tree as it is; and calls of eras that are over (a form of this project's own).
use Rattle.std.specs.Prelude.{◌≡◌, ◌⊎◌, ◌++◌, ℕ, ◌≤◌, not, filter, is_none, Bool, true, false, List, [], ◌∷◌, Some}
use Rattle.nfs3_types.specs.declared.calls.NfsCall.{NfsCall}
use Rattle.nfs3_types.specs.declared.calls.NfsCall.TheVariants as calls
use Rattle.nfs3_types.specs.declared.replies.Outcome.{Outcome}
use Rattle.nfs3_types.specs.Procedures.{changes_the_tree, procedure_called}
use Rattle.nfs_history.specs.declared.recorded.Meaning.TheVariants as meanings
use Rattle.nfs_history.specs.declared.recorded.RecordedCall.{RecordedCall}
use Rattle.nfs_history.specs.declared.knowing.KnownCalls.{KnownCalls}
use Rattle.nfs_history.specs.Precedence.{call_at}
use Rattle.decision_core.specs.Eras.{is_placed}
use Rattle.decision_core.specs.States.{Settles}
use Rattle.decision_steps.specs.Known.{is_failure}
use Rattle.decision_law.specs.Laws.{binds_of}
use Rattle.decision_law.specs.Machine.{MayComeOut, Next}
use Rattle.decision_walk.specs.View.{WalkView}
use Rattle.decision_walk.specs.Standing.{hints_of, is_of_earlier, IsAt}

-- whether the call is one of a procedure that changes the tree where it succeeds
abbrev pub may_change : NfsCall → Bool
may_change call = changes_the_tree (procedure_called call)

-- whether it is a SETATTR that sets no size: what else it sets isn't in the tree
abbrev pub sets_no_size : NfsCall → Bool
sets_no_size (calls.SetAttr call) = is_none call.attributes.size
sets_no_size call = false

-- a call that came out so leaves each tree as it is: it only looks, it failed, or it sets what isn't in the tree
abbrev pub IsNeutral : NfsCall → Outcome → Type 0
IsNeutral call outcome = (may_change call ≡ false) ⊎ ((is_failure outcome ≡ true) ⊎ (sets_no_size call ≡ true))

-- so does the call, however it came out
pub record LeavesTree (recorded : RecordedCall) : Type 0 where
  pub call : NfsCall
  pub judged : recorded.meaning ≡ meanings.Judged call
  pub leaves : (outcome : Outcome) → MayComeOut recorded outcome → IsNeutral call outcome

-- call n is such a call
pub record MaySettle (known : KnownCalls) (state : WalkView) (n : ℕ) (recorded : RecordedCall) : Type 0 where
  pub late : 1 ≤ state.era
  pub stands : call_at known.calls n ≡ Some recorded
  pub leaves : LeavesTree recorded

-- the state, in which call n is placed besides
abbrev pub settled : WalkView → ℕ → WalkView
settled state n = record state { placed = state.placed ++ n ∷ [] }

-- the state, in which all calls of earlier eras count as placed
abbrev pub past_done : KnownCalls → WalkView → WalkView
past_done known state = record state { past = state.era; placed = filter (λ n. not (is_of_earlier known state.era n)) state.placed }

-- the second state stands for points that may stand for those of the first
abbrev pub SettlesAt : KnownCalls → List Bool → List ℕ → WalkView → WalkView → Type 0
SettlesAt known marks calls state after = Settles (IsAt known marks) is_placed (λ plan. Next known (hints_of marks) (binds_of known plan)) calls state after
