-- No fault is found exactly where the plan has the shape.
use Rattle.std.proofs.Common.{refl, ◌∙◌}
use Rattle.order_check.proofs.ShapeLaws.{whole_check, shape_on_ok, shape_only}
use Rattle.order_check.proofs.shape.check_shape_of_calls.Goals as goal

pub returns-clause-ok : goal.returns-clause-ok
returns-clause-ok c =
    let history = c.args.calls.now in
    let plan = c.args.certificate.now.eras in
    let checked = whole_check history.eras history.calls plan c.check_places.result c.args.calls.now.calls c.as_slice-eras.result.now c.in_ok-order.order.items c.as_slice.result.now
    refl c.as_slice-eras.ensures c.as_slice.ensures.value c.in_ok-order.ensures (c.if-eras.false ∙ c.eras.ensures) c.check_places.ensures in
    shape_on_ok history.eras history.calls plan c.check_places.result checked

pub returns-clause-only : goal.returns-clause-only
returns-clause-only c =
    let history = c.args.calls.now in
    let plan = c.args.certificate.now.eras in
    let checked = whole_check history.eras history.calls plan c.check_places.result c.args.calls.now.calls c.as_slice-eras.result.now c.in_ok-order.order.items c.as_slice.result.now
    refl c.as_slice-eras.ensures c.as_slice.ensures.value c.in_ok-order.ensures (c.if-eras.false ∙ c.eras.ensures) c.check_places.ensures in
    shape_only history.eras history.calls plan c.check_places.result checked
