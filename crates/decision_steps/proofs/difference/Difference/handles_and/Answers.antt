use Rattle.std.proofs.Common.{rules, ◌≡◌, ◌⊎◌, inl, inr, get_or, Contains, sym, subst}
use Rattle.std.specs.Prelude.{IsSome}
use Rattle.tree_handles.specs.Binding.{object_of}
use Rattle.decision_steps.specs.declared.given.GivenHandle.{GivenHandle}
use Rattle.decision_steps.proofs.Differences.{next_done}
use Rattle.decision_steps.proofs.difference.Difference.handles_and.Goals as goal

pub loop-one-preserved : goal.loop-one-preserved
loop-one-preserved c =
    let inv = c.loop-one.invariant in
    let item : get_or c.args.given.now c.loop-one.one-index c.one-item.result ≡ c.one-item.result = search rules in (
      (λ h there. c.in_ok-put_given.ensures.keeps h (inv.0 h there)),
      next_done (λ (one : GivenHandle). Contains c.loop-one.handles.items one.handle.now ⊎ IsSome (object_of c.args.binds.now one.handle.now))
          (λ (one : GivenHandle). Contains c.put_given.new.handles.items one.handle.now ⊎ IsSome (object_of c.args.binds.now one.handle.now))
          c.args.given.now c.one-item.result c.loop-one.one-index c.loop-one-test.true
          (λ one was. elim was [ inl there ↦ inl (c.in_ok-put_given.ensures.keeps one.handle.now there) | inr bound ↦ inr bound ])
          (subst (λ (one : GivenHandle). Contains c.put_given.new.handles.items one.handle.now ⊎ IsSome (object_of c.args.binds.now one.handle.now)) (sym item) c.in_ok-put_given.ensures.has)
          inv.1,
    )
