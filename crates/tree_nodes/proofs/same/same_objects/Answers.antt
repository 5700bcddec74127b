use Rattle.std.proofs.Common.{rules, ◌≡◌, ℕ, ◌+◌, ◌<◌, ◌≤◌, ◌⊎◌, inl, inr, get_or, refl, sym, ap, subst, ◌∙◌, arith}
use Rattle.std.proofs.lemmas.Bool.{cases_lt}
use Rattle.std.proofs.lemmas.List.{get_or_default}
use Rattle.tree_nodes.specs.Table.{held}
use Rattle.tree_nodes.proofs.same.same_objects.Goals as goal

pub loop-object-preserved : goal.loop-object-preserved
loop-object-preserved c = λ k d below.
    let here : held c.args.one.now (get_or c.args.objects.now c.loop-object.object-index 0) ≡ held c.args.other.now (get_or c.args.objects.now c.loop-object.object-index 0) = search rules in
    elim (cases_lt k c.loop-object.object-index) [
      | inl ahead ↦ c.loop-object.invariant k d ahead
      | inr past ↦ let same : c.loop-object.object-index ≡ k = omega (arith, past, below) in
          subst (λ o. held c.args.one.now o ≡ held c.args.other.now o)
          (get_or_default c.args.objects.now c.loop-object.object-index 0 d c.loop-object-test.true ∙ ap (λ i. get_or c.args.objects.now i d) same) here
    ]

pub returns : goal.returns
returns c = λ done k d below. c.loop-object.invariant k d (let past = c.loop-object-test.false in omega (arith, below, past))
