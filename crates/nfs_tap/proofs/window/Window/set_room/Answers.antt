use Rattle.std.proofs.Common.{ap, sym, ◌∙◌, length, arith}
use Rattle.nfs_tap.proofs.Parts.{slice_range_front}
use Rattle.nfs_tap.proofs.window.Window.set_room.Goals as goal

pub returns-in_err-lengthen-clause-bytes : goal.returns-in_err-lengthen-clause-bytes
returns-in_err-lengthen-clause-bytes c =
    let w = c.self.inside in
    sym (slice_range_front w.bytes.items c.lengthen.new.bytes.items w.start w.end (length w.bytes.items) c.lengthen.ensures.kept (omega (arith, c.self.invariant)))
    ∙ ap (λ p. p.bytes) c.self.view_is

pub returns-clause-bytes : goal.returns-clause-bytes
returns-clause-bytes c =
    let w = c.self.inside in
    sym (slice_range_front w.bytes.items c.lengthen.new.bytes.items w.start w.end (length w.bytes.items) c.lengthen.ensures.kept (omega (arith, c.self.invariant)))
    ∙ ap (λ p. p.bytes) c.self.view_is
