use Rattle.std.proofs.Common.{◌≡◌, take}
use Rattle.tcp_streams.specs.Numbers.{start_of}
use Rattle.tcp_streams.specs.Orders.{IsPut}
use Rattle.tcp_streams.proofs.assembly.assemble.Given as goal

abbrev pub invariant-loop-index : goal.invariant-loop-index
invariant-loop-index l = IsPut (start_of l.sequence) (take l.index l.segments) l.stream × (l.stream.taken ≡ l.index)
