-- The last boundary that isn't behind the byte.
use Rattle.std.proofs.Common.{◌≡◌, ℕ, ◌≤◌, List, [], ◌∷◌, ◌++◌, false, sym, arith}
use Rattle.std.specs.Ordering.{nat_cmp, is_gt}
use Rattle.std.specs.BTreeMap.{BTreeMap, get}
use Rattle.std.specs.BTreeMap.Range.{IsRangeOf}
use Rattle.std.specs.declared.ops.Bound.TheVariants.{Included, Unbounded}
use Rattle.std.proofs.lemmas.Map.Keys.{le_from_not_gt, ge_from_not_lt}
use Rattle.std.proofs.lemmas.Grind.{common_steps}
use Rattle.cut_check.specs.Boundaries.{shown}
use Rattle.cut_check.proofs.BoundaryLaws.{none_from, shown_last, shown_none}
use Rattle.cut_check.proofs.last_writes.shown_at.Goals as goal

not_above : (a b : ℕ) → a ≤ b → is_gt (nat_cmp a b) ≡ false
not_above a b by = grind (arith, common_steps)

-- what a range up to a byte ends with
ends : (m : BTreeMap ℕ ℕ) (byte : ℕ) (r t : List (ℕ × ℕ)) (k v : ℕ) → IsRangeOf nat_cmp Unbounded (Included byte) m r → r ≡ t ++ (k, v) ∷ [] → shown (get nat_cmp m) byte ≡ v
ends m byte r t k v range steps =
    let here = range.3 (k, v) t steps in
    let greatest = range.4 (k, v) t steps in
    shown_last (get nat_cmp m) byte k v here.1 (le_from_not_gt k byte here.0.1)
    (λ q after by. none_from (get nat_cmp m q) (λ some. let upto : q ≤ k = ge_from_not_lt k q (greatest q (tt, not_above q byte by) some) in absurd (omega arith)))

-- a range up to a byte that is empty
empty : (m : BTreeMap ℕ ℕ) (byte : ℕ) (r : List (ℕ × ℕ)) → IsRangeOf nat_cmp Unbounded (Included byte) m r → r ≡ [] → shown (get nat_cmp m) byte ≡ 0
empty m byte r range none = shown_none (get nat_cmp m) byte (λ q by. range.5 none q (tt, not_above q byte by))

pub returns-in-Some : goal.returns-in-Some
returns-in-Some c = sym (ends c.args.boundaries.now c.args.byte c.range.result c.next_back.new.self c.in-Some.field-0-0.now c.in-Some.position.now (c.range.ensures.in_range tt) (c.in-Some.ensures.steps))

pub returns-in-None : goal.returns-in-None
returns-in-None c = sym (empty c.args.boundaries.now c.args.byte c.range.result (c.range.ensures.in_range tt) (c.in-None.ensures.steps.0))
