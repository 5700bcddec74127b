use Rattle.std.proofs.Common.{◌≡◌, ◌≤◌, ◌∷◌, ◌++◌, [], ◌^◌, length, subst, sym, ap, ◌∙◌, List, ℕ, true, arith}
use Rattle.std.proofs.lemmas.List.{length_push}
use Rattle.tree_stores.specs.Pages.{Block, absent, owns, is_set}
use Rattle.tree_stores.specs.Books.{values_of}
use Rattle.tree_stores.proofs.Blocks.{values_push, own_push}
use Rattle.tree_stores.proofs.slots.steps.reach.Goals as goal

pub loop-blocks-preserved : goal.loop-blocks-preserved
loop-blocks-preserved g c =
    let bs = c.loop-blocks.blocks.items in
    let more = ap (λ (b : Block g.row.V.Denot). bs ++ b ∷ []) (sym c.blank.ensures) ∙ sym c.in_ok-push.ensures.items in
    let few : length (bs ++ absent ∷ []) ≤ 2 ^ 51 = omega (arith, length_push bs absent) in (
      subst (λ (z : List (Block g.row.V.Denot)). values_of z ≡ values_of c.args.blocks.now.items) more (values_push bs ∙ c.loop-blocks.invariant.0),
      subst (λ (z : List (Block g.row.V.Denot)). length z ≤ 2 ^ 51) more few,
      subst (λ (z : List (Block g.row.V.Denot)). (other : ℕ) → is_set (owns c.args.blocks.now.items) other ≡ true → is_set (owns z) other ≡ true) more
          (λ other h. own_push bs other (c.loop-blocks.invariant.2 other h)),
    )
