use Rattle.std.proofs.Common.{[], subst}
use Rattle.history_file.specs.Owning.{all_happened}
use Rattle.nfs_history.specs.HistoryValue.{HistoryValue}
use Rattle.nfs_history.specs.Standing.{EachMayFollow}
use Rattle.nfs_history.proofs.history.History.check_read_call.Goals as goal

pub returns-in-Some-clause-all : goal.returns-in-Some-clause-all
returns-in-Some-clause-all c = subst (λ (v : HistoryValue). EachMayFollow [] (all_happened v.events)) c.self.view_is c.self.invariant.0.history.known.follow

pub returns-clause-all : goal.returns-clause-all
returns-clause-all c = subst (λ (v : HistoryValue). EachMayFollow [] (all_happened v.events)) c.self.view_is c.self.invariant.0.history.known.follow
