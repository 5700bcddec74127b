use Rattle.std.proofs.Common.{map, refl}
use Rattle.nfs_history.proofs.FirstFaultLaws.{calls_in}
use Rattle.nfs_history.proofs.OneHistory.{owned_of}
use Rattle.nfs_history.proofs.EitherWay.{happened_again}
use Rattle.nfs_history.proofs.laws.a_file_is_judged_by_its_history.Goals as goal

pub returns-clause-of_each : goal.returns-clause-of_each
returns-clause-of_each c = calls_in

pub returns-clause-of_one : goal.returns-clause-of_one
returns-clause-of_one c = λ bytes known is.
    (record { known = known; events = map owned_of is.0.events; spare = 0 }, (is.0, is.1, record { known = is.2; events = happened_again is.0.events }, refl), refl)
