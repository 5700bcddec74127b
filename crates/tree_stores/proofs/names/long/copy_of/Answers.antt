use Rattle.std.proofs.Common.{◌≡◌, ℕ, List, ◌++◌, append-nil, sym, ap, subst, ◌∙◌}
use Rattle.tree_stores.specs.Names.{entered}
use Rattle.tree_stores.proofs.Orders.{holds, copied_more}
use Rattle.tree_stores.proofs.names.long.copy_of.Goals as goal

pub loop-name-init : goal.loop-name-init
loop-name-init c = ap (λ z. entered (λ key. key.items) z ++ c.into_iter-name-iterator.result) c.new-many.ensures.empty ∙ c.into_iter-name-iterator.ensures.into_iter_gives

pub loop-name-preserved : goal.loop-name-preserved
loop-name-preserved c =
    let before = entered (λ key. key.items) c.loop-name.many.entries in
    let so_far = subst (λ (z : List (List ℕ × ℕ)). before ++ z ≡ c.args.names) c.in-Some.ensures.steps c.loop-name.invariant in
    ap (λ (z : List (List ℕ × ℕ)). z ++ c.next.new.self) c.in_ok-put.ensures.ok
    ∙ copied_more c.args.names before c.next.new.self c.in-Some.name.now c.in-Some.object (holds _ c.requires) so_far

pub returns : goal.returns
returns c =
    let all = entered (λ key. key.items) c.loop-name.many.entries in
    sym (append-nil all) ∙ subst (λ (z : List (List ℕ × ℕ)). all ++ z ≡ c.args.names) c.in-None.ensures.steps.0 c.loop-name.invariant
