use Rattle.std.proofs.Common.{◌≡◌, ◌-◌, ◌<◌, length, arith, sym, ap, subst, ◌∙◌}
use Rattle.history_file.specs.Event.Event.{call}
use Rattle.history_file.specs.Owning.{happened, all_happened}
use Rattle.std.specs.List.{slice_get}
use Rattle.std.specs.Prelude.{Some, option_map}
use Rattle.nfs_history.specs.HistoryValue.{HistoryValue}
use Rattle.nfs_history.specs.Appending.{unanswered}
use Rattle.nfs_history.specs.Calls.{calls_of}
use Rattle.nfs_history.specs.Inside.{value_of}
use Rattle.nfs_history.proofs.AppendSteps.{asked_here, began_at, no_other, happened_there, seen_so}
use Rattle.nfs_history.proofs.Waiting.{new_call}
use Rattle.nfs_history.proofs.history.History.seen_at.Goals as goal

pub overflow_sub-asked : goal.overflow_sub-asked
overflow_sub-asked c =
    let h = value_of c.self.inside in
    let lt = subst (λ (v : HistoryValue). c.args.place < length v.known.calls) (sym c.self.view_is) c.requires in
    (began_at h c.args.place c.index-asked.result.now (asked_here h c.self.inside.open_calls c.args.place c.index-asked.result.now c.self.invariant.0 lt c.index-asked.ensures)).some

pub index-requires : goal.index-requires
index-requires c =
    let h = value_of c.self.inside in
    let lt = subst (λ (v : HistoryValue). c.args.place < length v.known.calls) (sym c.self.view_is) c.requires in
    let began = began_at h c.args.place c.index-asked.result.now (asked_here h c.self.inside.open_calls c.args.place c.index-asked.result.now c.self.invariant.0 lt c.index-asked.ensures) in
    omega (arith, began.within, c.self.inside.events.ok.0)

pub unreachable-requires : goal.unreachable-requires
unreachable-requires c =
    let h = value_of c.self.inside in
    let lt = subst (λ (v : HistoryValue). c.args.place < length v.known.calls) (sym c.self.view_is) c.requires in
    let asked = asked_here h c.self.inside.open_calls c.args.place c.index-asked.result.now c.self.invariant.0 lt c.index-asked.ensures in
    let began = began_at h c.args.place c.index-asked.result.now asked in
    let there = happened_there h.events (c.index-asked.result.now.begin - 1) c.index.result.now (call asked.event.lane asked.event.message) began.event c.index.ensures in
    no_other c.index.result.now asked.event.lane asked.event.message there c.in_default.not-Call

pub returns : goal.returns
returns c =
    let h = value_of c.self.inside in
    let lt = subst (λ (v : HistoryValue). c.args.place < length v.known.calls) (sym c.self.view_is) c.requires in
    let asked = asked_here h c.self.inside.open_calls c.args.place c.index-asked.result.now c.self.invariant.0 lt c.index-asked.ensures in
    let began = began_at h c.args.place c.index-asked.result.now asked in
    let there = happened_there h.events (c.index-asked.result.now.begin - 1) c.index.result.now (call asked.event.lane asked.event.message) began.event c.index.ensures in
    let same : call c.in-Call.lane c.in-Call.message ≡ call asked.event.lane asked.event.message = sym (ap happened c.in-Call.is) ∙ there in
    let seen = seen_so (calls_of (all_happened h.events)) c.args.place c.index-asked.result.now asked c.in-Call.lane c.in-Call.message same in
    rw c.as_slice.ensures (subst (λ (v : HistoryValue). Some (new_call c.in-Call.lane c.in-Call.message c.index-asked.result.now.begin c.index-asked.result.now.era) ≡ option_map unanswered (slice_get (calls_of (all_happened v.events)) c.args.place)) c.self.view_is seen)
