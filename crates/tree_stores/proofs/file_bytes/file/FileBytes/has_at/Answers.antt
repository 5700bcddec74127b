use Rattle.std.proofs.Common.{◌*◌, sym, ◌∙◌, arith}
use Rattle.tree_stores.specs.declared.file_bytes.page.TheConstants.{PAGE}
use Rattle.tree_stores.specs.Paged.{byte_of}
use Rattle.tree_stores.proofs.Reading.{agrees_more, found_all, too_long, missed}
use Rattle.tree_stores.proofs.file_bytes.file.FileBytes.has_at.Goals as goal

pub returns-then-count-saturating_sub : goal.returns-then-count-saturating_sub
returns-then-count-saturating_sub c =
    sym (too_long (byte_of c.self.inside.pages) c.self.inside.size c.args.self.now c.self.invariant c.self.view_is c.args.offset c.args.bytes.now (omega arith))

pub returns-then-not-has_at : goal.returns-then-not-has_at
returns-then-not-has_at c =
    sym (missed c.self.inside.pages c.self.inside.size c.args.self.now c.self.invariant c.self.view_is c.stored.result.now c.args.bytes.now c.args.offset c.loop-number.number c.stored.ensures.value
    (rw (← c.piece.ensures, ← c.saturating_sub-at.ensures) (sym c.has_at.ensures ∙ c.if-not-has_at.true)))

pub loop-number-preserved : goal.loop-number-preserved
loop-number-preserved c =
    agrees_more c.self.inside.pages c.stored.result.now c.args.bytes.now c.args.offset c.loop-number.number c.stored.ensures.value
    (rw (← c.piece.ensures, ← c.saturating_sub-at.ensures) (sym c.has_at.ensures ∙ c.if-not-has_at.false)) c.loop-number.invariant

pub returns : goal.returns
returns c =
    sym (found_all (byte_of c.self.inside.pages) c.self.inside.size c.args.self.now c.self.invariant c.self.view_is c.args.offset c.args.bytes.now (c.loop-number.number * PAGE)
    (omega arith) (omega (arith, c.div_ceil-number-end.ensures)) c.loop-number.invariant)
