-- For the prover.
-- What a call's kind says of whether it may be taken as done: what the code's private functions say to the prover.
use Rattle.std.specs.Prelude.{◌==◌, ◌&&◌, not, Bool, false}
use Rattle.nfs3_types.specs.declared.procedures.Procedure.{Procedure}
use Rattle.nfs3_types.specs.declared.procedures.Procedure.TheVariants.{Write}
use Rattle.nfs3_types.specs.Procedures.{number, changes_the_tree}
use Rattle.nfs_history.specs.declared.recorded.CallKind.{CallKind}
use Rattle.nfs_history.specs.declared.recorded.CallKind.TheVariants as kinds

-- a procedure that changes the tree, but for WRITE
abbrev pub changes_whole : Procedure → Bool
changes_whole procedure = changes_the_tree (number procedure) && not (number procedure == number Write)

abbrev pub is_taken_whole : CallKind → Bool
is_taken_whole kinds.Unjudged = false
is_taken_whole (kinds.Unanswered procedure) = changes_whole procedure
is_taken_whole (kinds.Answered procedure failure) = changes_whole procedure
