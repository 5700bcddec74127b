use Rattle.std.proofs.Common.{◌≡◌, ◌<◌, ◌-◌, ℕ, List, sym, ap, ◌∙◌, subst, arith}
use Rattle.std.specs.Prelude.{option_and_then}
use Rattle.std.specs.FinMap as map
use Rattle.tree_nodes.specs.declared.table.Body.{Body}
use Rattle.tree_nodes.specs.Walk.{IsBeyond}
use Rattle.tree_nodes.specs.Table.{name_in, named, child}
use Rattle.tree_nodes.proofs.Below.{Passed, none_passed, all_passed, beyond_all}
use Rattle.tree_nodes.proofs.table.+look_below.Goals as goal

pub returns-in_default-clause-outside : goal.returns-in_default-clause-outside
returns-in_default-clause-outside t c = λ _.
    beyond_all (child c.args.entries.now) c.args.object c.args.front c.if-object-front.false (λ x next is. absurd (cc (is, ap (option_and_then (λ e. named e x)) c.in_default.ensures.value)))

pub loop-next-init : goal.loop-next-init
loop-next-init t c =
    let steps = child c.args.entries.now c.args.front in
    let fact = IsBeyond (child c.args.entries.now) c.args.object in
    let here = c.get-2.result.now.names in
    let same : (x : List ℕ) → steps x ≡ map.get here x = λ x. sym (ap (option_and_then (λ e. named e x)) c.in-Some.ensures.value) ∙ ap (λ (z : Body). name_in z.names x) (sym c.get-2.ensures) in
    let less : c.args.most - 1 < c.args.most = omega (arith, c.if-most-eq0.false) in
    (less, subst (λ (z : List (List ℕ × ℕ)). Passed fact steps z) (sym (c.into_iter-next-iterator.ensures.into_iter_gives ∙ c.iter-next-items.ensures)) (none_passed fact steps here same))

pub returns-clause-outside : goal.returns-clause-outside
returns-clause-outside t c = λ _.
    let steps = child c.args.entries.now c.args.front in
    let fact = IsBeyond (child c.args.entries.now) c.args.object in
    beyond_all (child c.args.entries.now) c.args.object c.args.front c.if-object-front.false
    (λ x next is. all_passed fact steps (subst (λ (z : List (List ℕ × ℕ)). Passed fact steps z) c.in-None.ensures.steps.0 c.loop-next.invariant.1) x next is)
