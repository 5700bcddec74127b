use Rattle.std.proofs.Common.{◌≡◌, ◌+◌, refl, arith}
use Rattle.tcp_streams.specs.Numbers.{start_of}
use Rattle.tcp_streams.proofs.Puttings.{put_none}
use Rattle.tcp_streams.proofs.assembly.Assembly.new.Goals as goal

pub returns : goal.returns
returns c = let first : c.from-first.result + 4294967296 ≡ start_of c.args.sequence = omega arith in (put_none c.args.sequence _ first first c.new.ensures.items c.new-2.ensures.items, refl)
