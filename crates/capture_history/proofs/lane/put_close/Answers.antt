use Rattle.std.proofs.Common.{refl}
use Rattle.capture_history.proofs.lane.put_close.Goals as goal

pub returns : goal.returns
returns c = rw c.in-Some.is (_, (refl, refl, c.new.ensures.items), c.in_ok-push.ensures.items)
