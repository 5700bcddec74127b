use Rattle.std.proofs.Common.{rules, ◌≡◌, ◌∙◌, true, Some, Err, sym, ap, subst}
use Rattle.file_tree.specs.Setting.{under}
use Rattle.decision_steps.specs.Known.{knows_handles}
use Rattle.decision_steps.specs.Given.{given}
use Rattle.decision_steps.specs.Bound.{with_handles}
use Rattle.decision_steps.specs.Listed.{given_pairs}
use Rattle.decision_steps.specs.Differing.{Notes}
use Rattle.decision_steps.proofs.Differences.{differs_after}
use Rattle.decision_steps.proofs.Answered.{are_taken, is_stepped, stepped_covers, fault_covers}
use Rattle.decision_steps.proofs.state.State.place_known.Goals as goal

pub returns-in_err-binds-clause-covers : goal.returns-in_err-binds-clause-covers
returns-in_err-binds-clause-covers c =
    let is : c.from_residual-in_err-binds.result ≡ Err c.in_err-binds.field-0.0 = search rules in
    let knows : knows_handles c.args.self.now.binds c.args.call.now ≡ true = search rules in
    let pairs : given_pairs c.as_slice.result.now ≡ given c.args.self.now.binds c.args.self.now.tree c.args.number c.args.call.now c.args.outcome.now = search rules in
    let binds : c.args.self.now.binds ≡ c.self.inside.binds.value = search rules in
    λ plan after agrees leads. fault_covers c.from_residual-in_err-binds.result c.args.self.now c.args.call.now plan after c.in_err-binds.field-0.0 is
    (λ e. are_taken c.args.profile c.args.self.now.binds plan c.args.self.now.tree after c.args.number c.args.call.now c.args.outcome.now agrees knows leads
    (ap (with_handles c.args.self.now.binds) (sym pairs) ∙ ap (λ b. with_handles b (given_pairs c.as_slice.result.now)) binds ∙ c.bound_with.ensures.not_legal (c.in_err-binds.was ∙ ap Err e)))
    (λ e. c.bound_with.ensures.decided (c.in_err-binds.was ∙ ap Err e))

pub returns-in_err-tree-clause-covers : goal.returns-in_err-tree-clause-covers
returns-in_err-tree-clause-covers c =
    let is : c.from_residual-in_err-tree.result ≡ Err c.in_err-tree.field-0.0 = search rules in
    let knows : knows_handles c.args.self.now.binds c.args.call.now ≡ true = search rules in
    let bound : with_handles c.args.self.now.binds (given c.args.self.now.binds c.args.self.now.tree c.args.number c.args.call.now c.args.outcome.now) ≡ Some c.in_ok-binds.binds.value = search rules in
    let tree : c.args.self.now.tree ≡ c.self.inside.tree.value = search rules in
    let lent : c.in_ok-binds.binds.value ≡ c.deref-3.result.now = search rules in
    λ plan after agrees leads. fault_covers c.from_residual-in_err-tree.result c.args.self.now c.args.call.now plan after c.in_err-tree.field-0.0 is
    (λ e. is_stepped c.args.profile c.args.self.now.binds plan c.args.self.now.tree after c.args.number c.args.call.now c.args.outcome.now agrees knows leads
    c.in_ok-binds.binds.value bound (ap (λ b. under c.args.profile b c.args.self.now.tree c.args.number c.args.call.now c.args.outcome.now) lent
    ∙ ap (λ t. under c.args.profile c.deref-3.result.now t c.args.number c.args.call.now c.args.outcome.now) tree ∙ c.tree_stepped.ensures.not_legal (c.in_err-tree.was ∙ ap Err e)))
    (λ e. c.tree_stepped.ensures.decided (c.in_err-tree.was ∙ ap Err e))

pub returns-clause-covers : goal.returns-clause-covers
returns-clause-covers c =
    let knows : knows_handles c.args.self.now.binds c.args.call.now ≡ true = search rules in
    let items : c.as_slice.result.now ≡ c.in_ok-given.given.items = search rules in
    let seen : c.deref.result.now ≡ c.args.self.now.binds = search rules in
    let nodes : c.nodes.result.now ≡ c.args.self.now.tree = search rules in
    let pairs : given_pairs c.as_slice.result.now ≡ given c.args.self.now.binds c.args.self.now.tree c.args.number c.args.call.now c.args.outcome.now =
    ap given_pairs items ∙ c.in_ok-given.ensures ∙ ap (λ b. given b c.nodes.result.now c.args.number c.args.call.now c.args.outcome.now) seen
    ∙ ap (λ t. given c.args.self.now.binds t c.args.number c.args.call.now c.args.outcome.now) nodes in
    let binds : c.args.self.now.binds ≡ c.self.inside.binds.value = search rules in
    let bound : with_handles c.args.self.now.binds (given c.args.self.now.binds c.args.self.now.tree c.args.number c.args.call.now c.args.outcome.now) ≡ Some c.in_ok-binds.binds.value =
    ap (with_handles c.args.self.now.binds) (sym pairs) ∙ ap (λ b. with_handles b (given_pairs c.as_slice.result.now)) binds ∙ c.in_ok-binds.ensures.ok in
    let tree : c.args.self.now.tree ≡ c.self.inside.tree.value = search rules in
    let lent : c.in_ok-binds.binds.value ≡ c.deref-3.result.now = search rules in
    let stepped : under c.args.profile c.in_ok-binds.binds.value c.args.self.now.tree c.args.number c.args.call.now c.args.outcome.now ≡ Some c.in_ok-tree.tree.value =
    ap (λ b. under c.args.profile b c.args.self.now.tree c.args.number c.args.call.now c.args.outcome.now) lent
    ∙ ap (λ t. under c.args.profile c.deref-3.result.now t c.args.number c.args.call.now c.args.outcome.now) tree ∙ c.in_ok-tree.ensures.next in
    λ plan after agrees leads. stepped_covers c.args.profile c.args.self.now.binds plan c.args.self.now.tree after c.args.number c.args.call.now c.args.outcome.now agrees knows leads
    c.in_ok-binds.binds.value bound c.in_ok-tree.tree.value stepped

pub invariant_of-result : goal.invariant_of-result
invariant_of-result c =
    let lent : c.deref-4.result.now ≡ c.self.inside.binds.value = search rules in
    let listed : c.as_slice-2.result.now ≡ c.as_slice.result.now = search rules in
    let notes = subst (λ b. Notes c.self.inside.difference.value c.in_ok-tree.touched b (given_pairs c.as_slice-2.result.now) c.in_ok-difference.difference.value) lent c.in_ok-difference.ensures in
    differs_after c.self.inside.difference.value c.in_ok-difference.difference.value c.in_ok-tree.touched c.self.inside.binds.value c.in_ok-binds.binds.value (given_pairs c.as_slice-2.result.now)
    c.self.inside.tree.value c.in_ok-tree.tree.value notes c.self.invariant c.in_ok-tree.ensures.touched (ap (λ l. with_handles c.self.inside.binds.value (given_pairs l)) listed ∙ c.in_ok-binds.ensures.ok)
