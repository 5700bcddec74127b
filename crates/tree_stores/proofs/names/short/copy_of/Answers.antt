use Rattle.std.proofs.Common.{◌≡◌, ℕ, List, ◌++◌, append-nil, sym, ap, subst, ◌∙◌}
use Rattle.tree_stores.specs.Names.{entered}
use Rattle.tree_stores.specs.Places.{AreShort}
use Rattle.tree_stores.proofs.Orders.{holds, copied_more}
use Rattle.tree_stores.proofs.names.short.copy_of.Goals as goal

pub loop-name-init : goal.loop-name-init
loop-name-init c = (
  ap (λ z. entered (λ key. key) z ++ c.into_iter-name-iterator.result) c.new-many.ensures.empty ∙ c.into_iter-name-iterator.ensures.into_iter_gives,
  subst (λ z. AreShort (entered (λ key. key) z)) (sym c.new-many.ensures.empty) tt,
)

pub put-requires-clause-short : goal.put-requires-clause-short
put-requires-clause-short c = c.loop-name.invariant.1

pub loop-name-preserved : goal.loop-name-preserved
loop-name-preserved c =
    let before = entered (λ key. key) c.loop-name.many.entries in
    let so_far = subst (λ (z : List (List ℕ × ℕ)). before ++ z ≡ c.args.names) c.in-Some.ensures.steps c.loop-name.invariant.0 in (
      ap (λ (z : List (List ℕ × ℕ)). z ++ c.next.new.self) c.in_ok-put.ensures.ok
          ∙ copied_more c.args.names before c.next.new.self c.in-Some.name.now c.in-Some.object (holds _ c.requires) so_far,
      c.put.ensures.short,
    )

pub returns-clause-same : goal.returns-clause-same
returns-clause-same c =
    let all = entered (λ key. key) c.loop-name.many.entries in
    sym (append-nil all) ∙ subst (λ (z : List (List ℕ × ℕ)). all ++ z ≡ c.args.names) c.in-None.ensures.steps.0 c.loop-name.invariant.0

pub returns-clause-short : goal.returns-clause-short
returns-clause-short c = c.loop-name.invariant.1
