use Rattle.std.proofs.Common.{rules, ◌<◌, ◌^◌, sym}
use Rattle.hex.specs.Hex.{IsBytes}
use Rattle.certificate.proofs.parts.handle_of.Goals as goal

pub returns-clause-range : goal.returns-clause-range
returns-clause-range c =
    let object : c.args.bind.now.object < 2 ^ 64 = search rules in
    let bytes : IsBytes c.as_slice-handle.result.now = search rules in
    (c.as_slice-handle.ensures.bound, rw (sym c.as_slice-handle.ensures.value) bytes, object)
