-- For the prover, and for callers.
-- What the crashes of a plan took away: of each era the places past its cut (which calls change the tree: RFC 1813, section 3.3;
-- an unanswered call may be taken as done: Herlihy and Wing 1990, section 2.2; cuts: this project's own).
use Rattle.std.specs.Prelude.{ℕ, ◌&&◌, Bool, true, false, List, drop, count_by, sum_by, Option, is_some, is_none}
use Rattle.std.specs.Option.{option_map_or}
use Rattle.nfs3_types.specs.declared.calls.NfsCall.TheVariants as calls
use Rattle.nfs3_types.specs.declared.replies.Outcome.{Outcome}
use Rattle.nfs_history.specs.declared.recorded.Meaning.{Meaning}
use Rattle.nfs_history.specs.declared.recorded.Meaning.TheVariants as meanings
use Rattle.nfs_history.specs.declared.recorded.RecordedCall.{RecordedCall}
use Rattle.nfs_history.specs.Precedence.{call_at}
use Rattle.certificate.specs.declared.plan.Place.{Place}
use Rattle.certificate.specs.declared.plan.Place.TheVariants.{Answered, Taken}
use Rattle.certificate.specs.declared.plan.EraPlan.{EraPlan}
use Rattle.certificate.specs.Plan.{call_of, cut_of}
use Rattle.history_report.specs.Counted.{failure_of}

-- a judged call that changes the tree or a file when it succeeds
abbrev pub is_modifying : Meaning → Bool
is_modifying (meanings.Judged (calls.SetAttr a)) = true
is_modifying (meanings.Judged (calls.Write a)) = true
is_modifying (meanings.Judged (calls.Create a)) = true
is_modifying (meanings.Judged (calls.MkDir a)) = true
is_modifying (meanings.Judged (calls.SymLink a)) = true
is_modifying (meanings.Judged (calls.Remove a)) = true
is_modifying (meanings.Judged (calls.RmDir a)) = true
is_modifying (meanings.Judged (calls.Rename a)) = true
is_modifying meaning = false

-- answered, and not by a failure
abbrev pub has_succeeded : Option Outcome → Bool
has_succeeded outcome = is_some outcome && is_none (failure_of outcome)

-- a call that stands so in the order changed something: with its reply it succeeded, and without one it is taken as done
abbrev pub changes : Place → RecordedCall → Bool
changes (Answered n) call = is_modifying call.meaning && has_succeeded call.outcome
changes (Taken n count) call = is_modifying call.meaning

abbrev pub changes_at : List RecordedCall → Place → Bool
changes_at calls place = option_map_or (changes place) (call_at calls (call_of place)) false

-- of the places past the cut of an era, those that changed something
abbrev pub lost_in : List RecordedCall → EraPlan → ℕ
lost_in calls era = count_by (changes_at calls) (drop (cut_of era) era.places)

-- the same of all eras
abbrev pub lost : List RecordedCall → List EraPlan → ℕ
lost calls eras = sum_by (lost_in calls) eras
