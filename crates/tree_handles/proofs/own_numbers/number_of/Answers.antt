use Rattle.std.proofs.Common.{sym, ap, ◌∙◌, rules}
use Rattle.std.specs.Array.{IsWholeChunk}
use Rattle.std.specs.Int.{w64, from_be_bytes}
use Rattle.tree_handles.proofs.OwnNumbers.{spelled, no_number}
use Rattle.tree_handles.proofs.own_numbers.number_of.Goals as goal

pub returns-in-Ok : goal.returns-in-Ok
returns-in-Ok c =
    let chunk : IsWholeChunk c.args.handle.now c.in-Ok.bytes 8 = c.in-Ok.ensures.1 in
    sym (spelled c.args.handle.now c.from_be_bytes.result chunk.long (search rules) (c.from_be_bytes.ensures ∙ ap (from_be_bytes w64) chunk.same))

pub returns-in-Err : goal.returns-in-Err
returns-in-Err c = sym (no_number c.args.handle.now c.in-Err.ensures.1)
