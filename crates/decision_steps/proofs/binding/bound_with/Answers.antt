use Rattle.std.proofs.Common.{rules, ◌≡◌, true, Some, sym, ap, ◌∙◌}
use Rattle.std.specs.Arc.{arc_value}
use Rattle.decision_steps.specs.Bound.{are_bound, has_other}
use Rattle.decision_steps.specs.Listed.{given_pairs}
use Rattle.decision_steps.proofs.Placed.{all_kept, other_refuses}
use Rattle.decision_steps.proofs.binding.bound_with.Goals as goal

pub returns-then-are_bound-clause-ok : goal.returns-then-are_bound-clause-ok
returns-then-are_bound-clause-ok c =
    let bound : are_bound (arc_value c.args.binds.now) (given_pairs c.args.given.now) ≡ true = search rules in
    let same : arc_value c.in_ok-clone.field-0 ≡ arc_value c.args.binds.now = search rules in
    all_kept (arc_value c.args.binds.now) (given_pairs c.args.given.now) bound ∙ ap Some (sym same)

pub returns-then-has_other-clause-not_legal : goal.returns-then-has_other-clause-not_legal
returns-then-has_other-clause-not_legal c =
    let other : has_other (arc_value c.args.binds.now) (given_pairs c.args.given.now) ≡ true = search rules in
    λ _. other_refuses (arc_value c.args.binds.now) (given_pairs c.args.given.now) other
