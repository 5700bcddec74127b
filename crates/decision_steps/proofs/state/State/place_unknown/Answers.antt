use Rattle.std.proofs.Common.{◌≡◌, true, false, None, Some, rules, sym, ap, ◌∙◌}
use Rattle.file_tree.specs.Setting.{under}
use Rattle.decision_steps.specs.Known.{is_failure}
use Rattle.decision_steps.proofs.Unknown.{success_names, failure_names}
use Rattle.decision_steps.proofs.Answered.{kept_covers, kept_placed}
use Rattle.decision_steps.proofs.state.State.place_unknown.Goals as goal

pub returns-then-not-is_failure-clause-covers : goal.returns-then-not-is_failure-clause-covers
returns-then-not-is_failure-clause-covers c =
    let fails : is_failure c.args.outcome.now ≡ false = search rules in
    λ plan after agrees leads. success_names c.args.profile c.args.self.now.binds plan c.args.self.now.tree after c.args.number c.args.call.now c.args.outcome.now agrees leads c.requires fails

pub returns-in_ok-with_tree-in-Ok-clause-covers : goal.returns-in_ok-with_tree-in-Ok-clause-covers
returns-in_ok-with_tree-in-Ok-clause-covers c =
    let fails : is_failure c.args.outcome.now ≡ true = search rules in
    let tree : c.in_ok-with_tree-in-Ok.field-0.tree ≡ c.in-Ok.tree.value = search rules in
    let same : c.in_ok-with_tree-in-Ok.field-0.binds ≡ c.args.self.now.binds = search rules in
    let stepped : under c.args.profile c.args.self.now.binds c.args.self.now.tree c.args.number c.args.call.now c.args.outcome.now ≡ Some c.in-Ok.tree.value = search rules in
    λ plan after agrees leads. kept_covers c.args.profile c.args.self.now.binds plan c.args.self.now.tree after c.args.number c.args.call.now c.args.outcome.now agrees leads fails
    c.in_ok-with_tree-in-Ok.field-0 same (stepped ∙ ap Some (sym tree))

pub returns-in_ok-with_tree-in-Ok-clause-next : goal.returns-in_ok-with_tree-in-Ok-clause-next
returns-in_ok-with_tree-in-Ok-clause-next c =
    let fails : is_failure c.args.outcome.now ≡ true = search rules in
    let tree : c.in_ok-with_tree-in-Ok.field-0.tree ≡ c.in-Ok.tree.value = search rules in
    let same : c.in_ok-with_tree-in-Ok.field-0.binds ≡ c.args.self.now.binds = search rules in
    let origin : c.in_ok-with_tree-in-Ok.field-0.origin ≡ c.args.self.now.origin = search rules in
    let stepped : under c.args.profile c.args.self.now.binds c.args.self.now.tree c.args.number c.args.call.now c.args.outcome.now ≡ Some c.in-Ok.tree.value = search rules in
    kept_placed c.args.profile c.args.self.now c.in_ok-with_tree-in-Ok.field-0 c.args.number c.args.call.now c.args.outcome.now fails same (stepped ∙ ap Some (sym tree)) origin

pub returns-in-Err-NotLegal-clause-covers : goal.returns-in-Err-NotLegal-clause-covers
returns-in-Err-NotLegal-clause-covers c =
    let fails : is_failure c.args.outcome.now ≡ true = search rules in
    let refused : under c.args.profile c.args.self.now.binds c.args.self.now.tree c.args.number c.args.call.now c.args.outcome.now ≡ None = search rules in
    λ plan after agrees leads. failure_names c.args.profile c.args.self.now.binds plan c.args.self.now.tree after c.args.number c.args.call.now c.args.outcome.now agrees leads fails refused
