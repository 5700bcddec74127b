-- A boundary with the value that is shown there.
use Rattle.std.proofs.Common.{Some, ap, ◌∙◌}
use Rattle.std.specs.Ordering.{nat_cmp}
use Rattle.std.specs.BTreeMap.{get}
use Rattle.cut_check.proofs.BoundaryLaws.{shown_split, is_at_apart}
use Rattle.cut_check.proofs.last_writes.split.Goals as goal

pub returns-clause-same : goal.returns-clause-same
returns-clause-same c =
    let old = get nat_cmp c.args.boundaries.now in
    let new = get nat_cmp c.insert.new.self in
    let updates = c.in_ok-insert.ensures.updates in
    shown_split old new c.args.byte (updates.1 ∙ ap Some c.shown_at-position.ensures) (λ q apart. updates.2 q (is_at_apart c.args.byte q apart))
