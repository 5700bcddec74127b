use Rattle.std.proofs.Common.{◌≡◌, ◌++◌, flat_map, take}
use Rattle.xdr_records.specs.Texts.{long_text}
use Rattle.server_requests.proofs.mounting.results.put_longs.Given as goal

-- the numbers so far are put
abbrev pub invariant-loop-long : goal.invariant-loop-long
invariant-loop-long l = l.out.items ≡ l.fn.out.items ++ flat_map long_text (take l.long-index l.longs)
