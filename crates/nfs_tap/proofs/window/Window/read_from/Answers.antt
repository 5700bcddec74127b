use Rattle.std.proofs.Common.{rules, arith, ap, sym, ◌∙◌, ◌++◌, ◌≡◌, ◌+◌, ◌-◌, take, slice_range}
use Rattle.std.proofs.lemmas.List.{with_items_is, places, take-append-le}
use Rattle.std.proofs.lemmas.Slice.{overwrites, between_is}
use borrow.Rule.Slice.PartMut.{put_mid, post_of}
use Rattle.nfs_tap.proofs.Parts.{slice_range_grown, take-append_past}
use Rattle.nfs_tap.proofs.window.Window.read_from.Goals as goal

pub returns-in-Ok-clause-ok : goal.returns-in-Ok-clause-ok
returns-in-Ok-clause-ok g c =
    let w = c.self.inside in
    let n = c.in-Ok.count in
    let all = c.as_mut_slice.result.now in
    let got = c.read.new.buf in
    let after = put_mid w.end (w.stop - w.end) all got in
    let front : take (w.end + n) after ≡ take w.end w.bytes.items ++ take n got =
    take-append_past _ _ n _ (search (rules, places))
    ∙ (λ i. take w.end (c.as_mut_slice.ensures.value i) ++ take-append-le n got (post_of w.end (w.stop - w.end) all) c.in-Ok.ensures.bound.0 i) in (
      take n got,
      sym c.in-Ok.ensures.bound.1,
      slice_range_grown w.bytes.items _ (take n got) w.start w.end _ c.self.invariant.0 (omega (arith, c.self.invariant))
          (ap (take (w.end + n)) (with_items_is w.bytes after (search (rules, places))) ∙ front)
          ∙ ap (λ p. p.bytes ++ take n got) c.self.view_is,
      c.in-Ok.ensures.bytes.0,
    )

pub returns-in-Ok-clause-end : goal.returns-in-Ok-clause-end
returns-in-Ok-clause-end g c room none = c.in-Ok.ensures.bytes.1 none (search (rules, places, ap (λ p. p.room) c.self.view_is))

pub returns-in-Err-clause-err : goal.returns-in-Err-clause-err
returns-in-Err-clause-err g c =
    let w = c.self.inside in
    let all = c.as_mut_slice.result.now in
    let after = put_mid w.end (w.stop - w.end) all c.read.new.buf in
    let whole = with_items_is w.bytes after (search (rules, places)) in
    let items : slice_range after w.start w.end ≡ slice_range w.bytes.items w.start w.end = search (rules, between_is, overwrites) in
    (rw (whole, items) c.self.view_is, c.in-Err.ensures.bytes)
