use Rattle.std.proofs.Common.{arith, sym, subst}
use Rattle.history_file.specs.Owning.{happened, all_happened}
use Rattle.nfs_history.specs.HistoryValue.{HistoryValue}
use Rattle.nfs_history.specs.Inside.{value_of}
use Rattle.nfs_history.specs.Standing.{MayFollow}
use Rattle.nfs_history.proofs.AppendSteps.{quiet_recorded, era_within, kept_more, follows_more}
use Rattle.nfs_history.proofs.history.History.take_quiet.Goals as goal

pub put_event-requires : goal.put_event-requires
put_event-requires c =
    let inside = c.self.inside in
    omega (arith, era_within (value_of inside) inside.open_calls c.self.invariant.0, inside.events.ok.0, inside.events.ok.1, inside.events.small)

pub invariant_of-self-2 : goal.invariant_of-self-2
invariant_of-self-2 c =
    let inside = c.self.inside in
    let may = subst (λ (v : HistoryValue). MayFollow (all_happened v.events) (happened c.args.event)) (sym c.self.view_is) c.requires.follows in
    let recorded = quiet_recorded (value_of inside) inside.open_calls (happened c.args.event) c.self.invariant.0 c.requires.quiet in (
      kept_more inside.head inside.open_calls c.put_event.new.open_calls inside.calls.items inside.calls.items inside.events.items c.put_event.new.events.items c.args.event inside.spare 0
          c.in_ok-put_event.ensures.put c.self.invariant.0 may c.in_ok-put_event.ensures.knows recorded,
      omega (arith, c.put_event.new.events.ok.1),
    )

pub returns-clause-taken : goal.returns-clause-taken
returns-clause-taken c =
    let inside = c.self.inside in
    let may = subst (λ (v : HistoryValue). MayFollow (all_happened v.events) (happened c.args.event)) (sym c.self.view_is) c.requires.follows in
    let recorded = quiet_recorded (value_of inside) inside.open_calls (happened c.args.event) c.self.invariant.0 c.requires.quiet in
    follows_more inside.head inside.open_calls c.put_event.new.open_calls inside.calls.items inside.calls.items inside.events.items c.put_event.new.events.items c.args.event inside.spare c.args.self.now
    c.self.view_is c.in_ok-put_event.ensures.put c.self.invariant.0 may c.in_ok-put_event.ensures.knows recorded
