use Rattle.std.proofs.Common.{◌≡◌, ◌+◌, ◌++◌, ◌∷◌, [], List, length, ap, sym, subst, arith, length-append}
use Rattle.std.proofs.lemmas.List.{length-map, map_push}
use Rattle.history_file.specs.Event.{Event}
use Rattle.history_file.specs.Owning.{seen_event, all_seen}
use Rattle.history_mending.specs.Steps.{IsReadTo}
use Rattle.history_mending.proofs.Reading.{read_none, read_more, era_within}
use Rattle.history_mending.proofs.events.whole_events.Goals as goal

pub loop-index-init : goal.loop-index-init
loop-index-init c =
    let none : all_seen c.new-events.result.items ≡ [] = ap all_seen c.new-events.ensures.items in (
      subst (λ (xs : List Event). IsReadTo c.args.beyond c.args.body.now xs c.new-known.result c.args.body.now) (sym none) (read_none c.args.beyond c.args.body.now c.new-known.result c.requires c.new-known.ensures),
      ap length c.new-events.ensures.items,
    )

pub follow-requires : goal.follow-requires
follow-requires c =
    omega (arith, era_within (all_seen c.loop-index.events.items) c.loop-index.known c.loop-index.invariant.0.knows, length-map c.loop-index.events.items seen_event, c.loop-index.invariant.1, c.loop-index-test.true)

pub returns-in-Ended : goal.returns-in-Ended
returns-in-Ended c =
    let number : c.loop-index.index + 1 ≡ length (all_seen c.loop-index.events.items) + 1 = omega (arith, length-map c.loop-index.events.items seen_event, c.loop-index.invariant.1) in
    record { front = c.loop-index.invariant.0.front; ends = c.in-Ended.ensures (all_seen c.loop-index.events.items) c.loop-index.invariant.0.knows number }

pub loop-index-preserved : goal.loop-index-preserved
loop-index-preserved c =
    let before = all_seen c.loop-index.events.items in
    let number : c.loop-index.index + 1 ≡ length before + 1 = omega (arith, length-map c.loop-index.events.items seen_event, c.loop-index.invariant.1) in
    let more = c.in-Another.ensures before c.loop-index.invariant.0.knows number in
    let pushed = c.in_ok-push-in-Another.ensures.items in
    let e : all_seen c.push.new.self.items ≡ before ++ seen_event c.in-Another.next ∷ [] = rw pushed (map_push seen_event c.loop-index.events.items c.in-Another.next) in (
      subst (λ (xs : List Event). IsReadTo c.args.beyond c.args.body.now xs c.follow.new.self c.in-Another.behind.now) (sym e)
          (read_more c.args.beyond c.args.body.now before c.loop-index.known c.follow.new.self c.loop-index.rest.now c.in-Another.behind.now (seen_event c.in-Another.next) c.loop-index.invariant.0 more.0 more.1 more.2 more.3 c.in_ok-follow-in-Another.ensures.ok),
      omega (arith, ap length pushed, length-append c.loop-index.events.items (c.in-Another.next ∷ []), c.loop-index.invariant.1),
    )

pub unreachable-requires : goal.unreachable-requires
unreachable-requires c =
    absurd (omega (arith, c.loop-index.invariant.0.front.few, length-map c.loop-index.events.items seen_event, c.loop-index.invariant.1, c.loop-index-test.false))

pub unreachable-unreachable : goal.unreachable-unreachable
unreachable-unreachable c =
    absurd (omega (arith, c.loop-index.invariant.0.front.few, length-map c.loop-index.events.items seen_event, c.loop-index.invariant.1, c.loop-index-test.false))
