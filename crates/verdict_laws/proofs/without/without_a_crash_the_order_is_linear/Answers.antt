use Rattle.std.proofs.Common.{◌≡◌, List, [], ◌∷◌, length, map, refl, ap, subst, ◌∙◌, arith}
use Rattle.nfs_history.specs.declared.knowing.KnownCalls.{KnownCalls}
use Rattle.certificate.specs.declared.plan.Certificate.{Certificate}
use Rattle.certificate.specs.declared.plan.EraPlan.{EraPlan}
use Rattle.order_check.specs.Order.{EachEraRespectsOrder}
use Rattle.order_check.specs.Shape.{HasShape}
use Rattle.witness_check.specs.Run.{era_of}
use Rattle.witness_check.specs.Witness.{IsWitness}
use Rattle.verdict_laws.specs.Without.{IsLinearization}
use Rattle.verdict_laws.proofs.without.without_a_crash_the_order_is_linear.Goals as goal

-- a list of one
alone : (eras : List EraPlan) → length eras ≡ 1 → (era : EraPlan) × (eras ≡ era ∷ [])
alone [] one = absurd (omega arith)
alone (era ∷ []) one = (era, refl)
alone (era ∷ next ∷ eras) one = absurd (omega arith)

linear : (history : KnownCalls) (plan : Certificate) (era : EraPlan) → IsWitness history plan → plan.eras ≡ era ∷ [] → IsLinearization history plan era.places
linear history plan era witness is =
    let shape = subst (HasShape history.eras history.calls) is witness.shape in
    record {
      complete = shape.complete;
      once = shape.once;
      right = shape.right;
      order = (subst (EachEraRespectsOrder history.calls) is witness.order).0;
      runs = witness.runs [] [] (era_of history.calls era) (ap (map (era_of history.calls)) is);
    }

pub returns : goal.returns
returns c = λ history plan witness one.
    let found = alone plan.eras (witness.shape.as_many_eras ∙ one) in
    (found.0, found.1, linear history plan found.0 witness found.1)
