use Rattle.std.proofs.Common.{rules, ℕ, List, Some, [], ◌∷◌, ◌++◌, ◌≡◌, ◌∙◌, ap, subst}
use Rattle.decision_core.specs.Events.{IsWithout}
use Rattle.decision_core.proofs.Sets.{all_among}
use Rattle.decision_core.specs.Layers.{ExtendsAll}
use Rattle.decision_core.proofs.deciding.take_answer.Goals as goal

pub returns-clause-step : goal.returns-clause-step
returns-clause-step g c =
    let Extended : List ℕ → Type 0 = λ calls. ExtendsAll (g.M.Machine.StandsFor c.args.machine.now) (g.M.Machine.placed c.args.machine.now) (g.M.Machine.Next c.args.machine.now) calls c.args.n c.args.states.items c.in_ok-extended.extended.items in
    let calls : c.as_slice-3.result.now ≡ c.in_ok-left.left.items ++ c.args.n ∷ [] = c.as_slice-3.ensures.value ∙ (c.in_ok-calls.ensures ∙ ap (λ l. l ++ c.args.n ∷ []) c.as_slice-2.ensures.value) in (
      subst (λ waiting. IsWithout c.args.n waiting c.in_ok-left.left.items) c.as_slice.ensures.value c.in_ok-left.ensures,
      (
        c.in_ok-extended.extended.items,
        subst Extended calls c.in_ok-extended.ensures.extends,
        λ plan gone point held. c.in_ok-after.ensures.forgets plan gone point (held.0, c.later_first.ensures.has held.0 held.1, held.2),
      ),
    )

pub forget_in_all-requires : goal.forget_in_all-requires
forget_in_all-requires g c κs within = (
  search rules,
  (
    search rules,
    (
      search rules,
      all_among (λ s. Some (g.M.Machine.origin s) ≡ g.of) c.in_ok-extended.extended.items c.later_first.result.items c.later_first.ensures.only c.in_ok-extended.ensures.origin,
    ),
  ),
)
