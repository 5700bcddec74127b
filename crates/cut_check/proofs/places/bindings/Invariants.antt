use Rattle.std.proofs.Common.{◌≡◌, take}
use Rattle.cut_check.specs.Places.{bindings_of}
use Rattle.cut_check.proofs.places.bindings.Given as goal

abbrev pub invariant-loop-bind : goal.invariant-loop-bind
invariant-loop-bind l = l.bindings ≡ bindings_of l.root (take l.bind-index l.binds)
