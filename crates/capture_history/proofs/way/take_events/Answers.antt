use Rattle.std.proofs.Common.{refl}
use Rattle.capture_history.proofs.Made.{took_one}
use Rattle.capture_history.proofs.way.take_events.Goals as goal

pub loop-message-preserved : goal.loop-message-preserved
loop-message-preserved c =
    rw c.in_ok-push.ensures.items (took_one c.args.lane c.args.kind _ c.loop-message.feed.waiting _ c.loop-message.found.items _ c.in-Some.message.items c.loop-message.invariant c.in-Some.ensures.some.waiting (refl, refl, refl))
