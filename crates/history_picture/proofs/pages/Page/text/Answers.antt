use Rattle.std.proofs.Common.{◌∙◌}
use Rattle.history_picture.specs.Pages.{Piece}
use Rattle.history_picture.proofs.PageLaws.{grown}
use Rattle.history_picture.proofs.pages.Page.text.Goals as goal

pub invariant_of-self : goal.invariant_of-self
invariant_of-self c =
    grown c.self.inside.bytes.items _ c.as_slice.result.now _ (Piece.text c.args.bytes.now) c.extend_from_slice.ensures.items
    (c.as_slice.ensures.value ∙ c.in_ok-shown.ensures.exact) c.self.invariant
