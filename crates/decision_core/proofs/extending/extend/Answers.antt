use Rattle.std.proofs.Common.{rules, ◌≡◌, [], List, arith, sym, subst}
use Rattle.std.proofs.lemmas.List.{nil_from_length}
use Rattle.std.proofs.lemmas.Bool.{eqb-true}
use Rattle.decision_core.specs.States.{ComeOf}
use Rattle.decision_core.specs.Layers.{Grows, HasAllPlacings}
use Rattle.decision_core.proofs.Awaits.{awaits_first, awaits_next, extended_all}
use Rattle.decision_core.proofs.extending.extend.Goals as goal

pub loop-round-init : goal.loop-round-init
loop-round-init g c =
    let o : ComeOf (g.M.Machine.origin) g.of c.sort_out.new.with.items.items × ComeOf (g.M.Machine.origin) g.of c.sort_out.new.without.items.items = search rules in (
      awaits_first (g.M.Machine.StandsFor c.args.machine.now) (g.M.Machine.placed c.args.machine.now) (g.M.Machine.Next c.args.machine.now) (g.met.M.Machine.told c.args.machine.now) c.args.calls.now c.args.n c.args.states.items c.sort_out.new.without.items.items c.sort_out.new.with.items.items c.in_ok-sort_out.ensures.sorted,
      (o.1, o.0),
    )

pub loop-round-preserved : goal.loop-round-preserved
loop-round-preserved g c =
    let p : (Grows c.loop-round.found.items.items c.place_in_all.new.with.items.items × Grows c.no_states-next.result.items.items c.place_in_all.new.without.items.items)
    × HasAllPlacings (g.M.Machine.StandsFor c.args.machine.now) (g.M.Machine.placed c.args.machine.now) (g.M.Machine.Next c.args.machine.now) c.args.calls.now c.args.n c.place_in_all.new.with.items.items c.place_in_all.new.without.items.items c.loop-round.layer.items.items = search rules in
    let o : ComeOf (g.M.Machine.origin) g.of c.place_in_all.new.with.items.items × ComeOf (g.M.Machine.origin) g.of c.place_in_all.new.without.items.items = search rules in (
      awaits_next (g.M.Machine.StandsFor c.args.machine.now) (g.M.Machine.placed c.args.machine.now) (g.M.Machine.Next c.args.machine.now) (g.met.M.Machine.told c.args.machine.now) c.args.calls.now c.args.n c.args.states.items c.loop-round.layer.items.items
          c.place_in_all.new.without.items.items c.loop-round.found.items.items c.place_in_all.new.with.items.items p.0.0 p.1 c.loop-round.invariant.0,
      (o.1, o.0),
    )

pub returns-then-is_empty-clause-extends : goal.returns-then-is_empty-clause-extends
returns-then-is_empty-clause-extends g c =
    let empty : c.loop-round.layer.items.items ≡ [] = nil_from_length _ (let none = eqb-true _ _ (sym c.if-is_empty.ensures) in omega (arith, none, c.loop-round.layer.items.ok)) in
    extended_all (g.M.Machine.StandsFor c.args.machine.now) (g.M.Machine.placed c.args.machine.now) (g.M.Machine.Next c.args.machine.now) (g.met.M.Machine.told c.args.machine.now) c.args.calls.now c.args.n c.args.states.items c.loop-round.layer.items.items c.loop-round.found.items.items empty c.loop-round.invariant.0

pub returns-then-is_empty-2-clause-extends : goal.returns-then-is_empty-2-clause-extends
returns-then-is_empty-2-clause-extends g c =
    let empty : c.loop-round.layer.items.items ≡ [] = nil_from_length _ (let none = eqb-true _ _ (sym c.if-is_empty-2.ensures) in omega (arith, none, c.loop-round.layer.items.ok)) in
    extended_all (g.M.Machine.StandsFor c.args.machine.now) (g.M.Machine.placed c.args.machine.now) (g.M.Machine.Next c.args.machine.now) (g.met.M.Machine.told c.args.machine.now) c.args.calls.now c.args.n c.args.states.items c.loop-round.layer.items.items c.loop-round.found.items.items empty c.loop-round.invariant.0
