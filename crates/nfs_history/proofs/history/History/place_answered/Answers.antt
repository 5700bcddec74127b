use Rattle.std.proofs.Common.{[], sym, subst, ◌∙◌}
use Rattle.history_file.specs.Owning.{all_happened}
use Rattle.nfs_history.specs.HistoryValue.{HistoryValue}
use Rattle.nfs_history.specs.Inside.{value_of}
use Rattle.nfs_history.specs.Standing.{EachMayFollow}
use Rattle.nfs_history.proofs.Replied.{place_for}
use Rattle.nfs_history.proofs.history.History.place_answered.Goals as goal

pub returns-clause-all : goal.returns-clause-all
returns-clause-all c = subst (λ (v : HistoryValue). EachMayFollow [] (all_happened v.events)) c.self.view_is c.self.invariant.0.history.known.follow

pub returns-clause-place : goal.returns-clause-place
returns-clause-place c =
    let inside = c.self.inside in
    place_for (value_of inside) inside.open_calls c.args.lane c.args.message.now c.in-Some-place_of.place c.args.self.now c.self.view_is c.self.invariant.0 (sym c.place_of.ensures ∙ c.in-Some-place_of.is)
