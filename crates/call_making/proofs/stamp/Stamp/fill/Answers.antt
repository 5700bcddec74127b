use Rattle.std.proofs.Common.{◌+◌, arith}
use Rattle.std.proofs.lemmas.List.Edits.{fill_by_more}
use Rattle.std.proofs.lemmas.List.FromFn.{fill_by_all}
use Rattle.call_making.specs.Tag.{tag}
use Rattle.call_making.proofs.stamp.Stamp.fill.Goals as goal

pub loop-index-preserved : goal.loop-index-preserved
loop-index-preserved c = rw c.tag.ensures (fill_by_more (λ k. tag c.args.self (c.args.offset + k)) c.loop-index.bytes c.loop-index.index 0 (omega arith) c.loop-index.invariant)

pub returns : goal.returns
returns c = fill_by_all (λ k. tag c.args.self (c.args.offset + k)) _ _ 0 (omega arith) (λ k l. c.loop-index.invariant k (omega arith))
