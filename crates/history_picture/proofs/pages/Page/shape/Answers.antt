use Rattle.std.proofs.Common.{◌∙◌}
use Rattle.history_picture.specs.Pages.{Piece}
use Rattle.history_picture.proofs.PageLaws.{grown}
use Rattle.history_picture.proofs.pages.Page.shape.Goals as goal

pub invariant_of-self : goal.invariant_of-self
invariant_of-self c =
    grown c.self.inside.bytes.items _ c.as_bytes.result.now _ (Piece.shape c.args.shape) c.extend_from_slice.ensures.items
    (c.as_bytes.ensures.value ∙ c.in_ok-words.ensures.ok) c.self.invariant
