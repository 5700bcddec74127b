use Rattle.std.proofs.Common.{take, drop}
use Rattle.tcp_streams.specs.Orders.{IsBehind}
use Rattle.tcp_streams.specs.Streams.{IsChain}
use Rattle.tcp_streams.proofs.filling.chained.Given as goal

abbrev pub invariant-loop-index : goal.invariant-loop-index
invariant-loop-index l = IsBehind l.next l.runs → IsChain l.next l.«end» (take l.index l.runs) × IsBehind l.«end» (drop l.index l.runs)
