use Rattle.std.specs.Io.KnownBytes.{prepend_known}
use Rattle.xdr_records.specs.Feed.{fresh}
use Rattle.nfs_tap.proofs.Forwarding.{HasPumped}
use Rattle.nfs_tap.proofs.pump.pump.Given as goal

abbrev pub invariant-loop-turn : goal.invariant-loop-turn
invariant-loop-turn g l =
    HasPumped (g.I.Read.remaining l.fn.reader) (prepend_known l.window.bytes (g.I.Read.remaining l.reader)) (g.W.Write.contents l.fn.writer) (g.W.Write.contents l.writer) fresh
