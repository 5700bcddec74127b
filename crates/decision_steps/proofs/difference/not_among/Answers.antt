use Rattle.std.proofs.Common.{◌⊎◌, inl, inr, Contains}
use Rattle.decision_steps.proofs.Differences.{next_done}
use Rattle.decision_steps.proofs.difference.not_among.Goals as goal

pub loop-object-preserved : goal.loop-object-preserved
loop-object-preserved c =
    next_done (λ o. Contains c.args.objects.now o ⊎ Contains c.loop-object.rest.items o) (λ o. Contains c.args.objects.now o ⊎ Contains c.put_other.new.rest.items o) c.args.others.now 0
    c.loop-object.object-index c.loop-object-test.true (λ o was. elim was [ inl among ↦ inl among | inr there ↦ inr (c.in_ok-put_other.ensures.keeps o there) ]) c.in_ok-put_other.ensures.has c.loop-object.invariant
