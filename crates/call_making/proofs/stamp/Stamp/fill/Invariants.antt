use Rattle.std.proofs.Common.{◌≡◌, ◌<◌, ◌+◌, ℕ, get_or}
use Rattle.call_making.specs.Tag.{tag}
use Rattle.call_making.proofs.stamp.Stamp.fill.Given as goal

abbrev pub invariant-loop-index : goal.invariant-loop-index
invariant-loop-index l = (k : ℕ) → k < l.index → get_or l.bytes k 0 ≡ tag l.self (l.offset + k)
