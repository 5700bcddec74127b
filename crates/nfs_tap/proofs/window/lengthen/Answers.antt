use Rattle.std.proofs.Common.{arith}
use Rattle.std.specs.Prelude.{is_ok}
use Rattle.nfs_tap.proofs.Parts.{lengthened}
use Rattle.nfs_tap.proofs.window.lengthen.Goals as goal

pub returns-clause-kept : goal.returns-clause-kept
returns-clause-kept c =
    lengthened c.args.bytes.now.items c.resize.new.self.items _ (is_ok c.resize.result) c.args.size (omega (arith, c.len.ensures, c.args.bytes.now.ok.0)) c.resize.ensures.items
