use Rattle.std.proofs.Common.{rules, ◌≡◌, true, ℕ, List, Option, None, Contains, sym, subst}
use Rattle.decision_steps.specs.Bound.{are_bound}
use Rattle.decision_steps.specs.Listed.{given_pairs}
use Rattle.decision_steps.specs.Differing.{DifferenceView, Keeps, Notes}
use Rattle.decision_steps.proofs.Differences.{nothing_noted, given_too}
use Rattle.tree_handles.specs.Binding.{object_of}
use Rattle.std.proofs.Common.{◌⊎◌}
use Rattle.std.specs.Prelude.{IsSome}
use Rattle.decision_steps.proofs.difference.difference_after.Goals as goal

pub returns-then-are_bound : goal.returns-then-are_bound
returns-then-are_bound c =
    let kept : c.in_ok-same.same.value ≡ c.args.difference.now.value = search rules in
    let one : c.args.touched.0 ≡ None = search rules in
    let other : c.args.touched.1 ≡ None = search rules in
    let bound : are_bound c.args.binds.now (given_pairs c.args.given.now) ≡ true = search rules in
    subst (λ (d : DifferenceView). Notes c.args.difference.now.value c.args.touched c.args.binds.now (given_pairs c.args.given.now) d) (sym kept)
    (subst (λ (t : Option ℕ × Option ℕ). Notes c.args.difference.now.value t c.args.binds.now (given_pairs c.args.given.now) c.args.difference.now.value) (λ i. (sym one i, sym other i))
    (nothing_noted c.args.difference.now.value c.args.binds.now (given_pairs c.args.given.now) bound))

pub returns : goal.returns
returns c =
    let before : c.deref.result.now ≡ c.args.difference.now.value = search rules in
    let before_too : c.deref-2.result.now ≡ c.args.difference.now.value = search rules in
    let origin : c.in_ok-after.after.value.origin ≡ c.args.difference.now.value.origin = search rules in
    let objects : c.in_ok-after.after.value.objects ≡ c.in_ok-objects.objects.items = search rules in
    let handles : c.in_ok-after.after.value.handles ≡ c.in_ok-handles.handles.items = search rules in
    let keeps_objects = subst (λ (d : DifferenceView). Keeps d.objects c.in_ok-objects.objects.items) before c.in_ok-objects.ensures.keeps in
    let keeps_handles = subst (λ (d : DifferenceView). Keeps d.handles c.in_ok-handles.handles.items) before_too c.in_ok-handles.ensures.keeps in
    let given = given_too (λ h. Contains c.in_ok-handles.handles.items h ⊎ IsSome (object_of c.args.binds.now h)) c.args.given.now c.in_ok-handles.ensures.has in
    record {
      origin = origin;
      objects = λ o there. subst (λ (l : List ℕ). Contains l o) (sym objects) (keeps_objects o there);
      has = λ o there. subst (λ (l : List ℕ). Contains l o) (sym objects) (c.in_ok-objects.ensures.has o there);
      handles = λ h there. subst (λ (l : List (List ℕ)). Contains l h) (sym handles) (keeps_handles h there);
      given = λ pair there. subst (λ (l : List (List ℕ)). Contains l pair.0 ⊎ IsSome (object_of c.args.binds.now pair.0)) (sym handles) (given pair there);
    }
