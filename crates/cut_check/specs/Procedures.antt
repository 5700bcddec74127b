-- For the prover, and for callers.
-- What the procedure of a call says of it before it is read: what the code's private functions say to the prover.
use Rattle.std.specs.Prelude.{◌==◌, ◌||◌, Bool, List, Option, Some, None, option_map}
use Rattle.nfs3_types.specs.declared.procedures.Procedure.{Procedure}
use Rattle.nfs3_types.specs.declared.procedures.Procedure.TheVariants.{Write, Commit}
use Rattle.nfs3_types.specs.Procedures.{number, changes_the_tree, asked_for}
use Rattle.nfs_history.specs.declared.recorded.RecordedCall.{RecordedCall}
use Rattle.nfs_history.specs.declared.recorded.CallKind.{CallKind}
use Rattle.nfs_history.specs.declared.recorded.CallKind.TheVariants.{Answered}
use Rattle.certificate.specs.declared.plan.Place.{Place}
use Rattle.cut_check.specs.Places.{answered_at}

-- the procedure of a judged call that was answered
abbrev pub procedure_answered : CallKind → Option Procedure
procedure_answered (Answered procedure failure) = Some procedure
procedure_answered kind = None

-- the procedure of the judged call at an answered place
abbrev pub procedure_at : List RecordedCall → Place → Option Procedure
procedure_at calls place = option_map (λ a. asked_for a.0) (answered_at calls place)

-- WRITE, COMMIT, and the calls that change the tree or an object
abbrev pub may_last : Procedure → Bool
may_last procedure = changes_the_tree (number procedure) || number procedure == number Commit

abbrev pub may_show_verifier : Procedure → Bool
may_show_verifier procedure = number procedure == number Write || number procedure == number Commit

abbrev pub may_write : Procedure → Bool
may_write procedure = number procedure == number Write
