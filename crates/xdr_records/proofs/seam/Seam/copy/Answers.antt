use Rattle.xdr_records.proofs.Copies.{appended_both}
use Rattle.xdr_records.proofs.seam.Seam.copy.Goals as goal

pub returns : goal.returns
returns c =
    appended_both _ _ _ _ _ _ _ _ _ _ _ _ _ c.requires.ordered c.self.view_is c.min.ensures c.min-2.ensures c.saturating_sub.ensures c.saturating_sub-2.ensures
    c.in_ok-extend_from_slice.ensures.items c.extend_from_slice-2.ensures.items
