use Rattle.alike_calls.proofs.Changes.{changed_alike, nothing_filled}
use Rattle.alike_calls.proofs.Made.{same_change}
use Rattle.alike_calls.proofs.Going.{same_touched, left_goes, goes, bytes_filled}
use Rattle.alike_calls.proofs.calls_go_alike.Goals as goal

pub returns-clause-calls : goal.returns-clause-calls
returns-clause-calls c = goes

pub returns-clause-touched : goal.returns-clause-touched
returns-clause-touched c = same_touched

pub returns-clause-nothing : goal.returns-clause-nothing
returns-clause-nothing c = nothing_filled

pub returns-clause-same : goal.returns-clause-same
returns-clause-same c = same_change

pub returns-clause-changes : goal.returns-clause-changes
returns-clause-changes c = changed_alike

pub returns-clause-left : goal.returns-clause-left
returns-clause-left c = left_goes

pub returns-clause-bytes : goal.returns-clause-bytes
returns-clause-bytes c = bytes_filled
