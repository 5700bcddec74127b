use Rattle.std.proofs.Common.{◌≡◌, ◌+◌, length, set, arith, sym, subst}
use Rattle.history_file.specs.Owning.{happened, all_happened}
use Rattle.nfs_history.specs.declared.recorded.RecordedCall.{RecordedCall}
use Rattle.nfs_history.specs.HistoryValue.{HistoryValue}
use Rattle.nfs_history.specs.Appending.{AreCallsWith}
use Rattle.nfs_history.specs.Inside.{value_of}
use Rattle.nfs_history.specs.Standing.{MayFollow}
use Rattle.nfs_history.proofs.AppendSteps.{era_within, kept_more, follows_more}
use Rattle.nfs_history.proofs.Replied.{put_there}
use Rattle.nfs_history.proofs.history.History.take_answer.Goals as goal

pub put_event-requires : goal.put_event-requires
put_event-requires c =
    let inside = c.self.inside in
    omega (arith, era_within (value_of inside) inside.open_calls c.self.invariant.0, inside.events.ok.0, inside.events.ok.1, inside.events.small)

pub invariant_of-self-2 : goal.invariant_of-self-2
invariant_of-self-2 c =
    let inside = c.self.inside in
    let may = subst (λ (v : HistoryValue). MayFollow (all_happened v.events) (happened c.args.event)) (sym c.self.view_is) c.requires.follows in
    let number : c.len.result + 1 ≡ length inside.events.items + 1 = omega (arith, c.len.ensures, inside.events.ok.0) in
    let recorded = subst (λ (d : RecordedCall). AreCallsWith (value_of inside) (happened c.args.event) (set inside.calls.items c.args.place d)) (sym c.come_out.ensures)
    (put_there (value_of inside) c.args.self.now (happened c.args.event) c.args.place c.args.outcome c.index_mut.result.now (c.len.result + 1) c.self.view_is c.requires.recorded c.index_mut.ensures.value number) in (
      kept_more inside.head inside.open_calls c.put_event.new.open_calls inside.calls.items (set inside.calls.items c.args.place c.come_out.new.self) inside.events.items c.put_event.new.events.items c.args.event inside.spare 0
          c.in_ok-put_event.ensures.put c.self.invariant.0 may c.in_ok-put_event.ensures.knows recorded,
      omega (arith, c.put_event.new.events.ok.1),
    )

pub returns-clause-taken : goal.returns-clause-taken
returns-clause-taken c =
    let inside = c.self.inside in
    let may = subst (λ (v : HistoryValue). MayFollow (all_happened v.events) (happened c.args.event)) (sym c.self.view_is) c.requires.follows in
    let number : c.len.result + 1 ≡ length inside.events.items + 1 = omega (arith, c.len.ensures, inside.events.ok.0) in
    let recorded = subst (λ (d : RecordedCall). AreCallsWith (value_of inside) (happened c.args.event) (set inside.calls.items c.args.place d)) (sym c.come_out.ensures)
    (put_there (value_of inside) c.args.self.now (happened c.args.event) c.args.place c.args.outcome c.index_mut.result.now (c.len.result + 1) c.self.view_is c.requires.recorded c.index_mut.ensures.value number) in
    follows_more inside.head inside.open_calls c.put_event.new.open_calls inside.calls.items (set inside.calls.items c.args.place c.come_out.new.self) inside.events.items c.put_event.new.events.items c.args.event inside.spare c.args.self.now
    c.self.view_is c.in_ok-put_event.ensures.put c.self.invariant.0 may c.in_ok-put_event.ensures.knows recorded
