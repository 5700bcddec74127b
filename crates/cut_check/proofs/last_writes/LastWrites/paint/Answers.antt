-- The part has boundaries at both ends, and one value.
use Rattle.std.proofs.Common.{◌≡◌, ◌≢◌, ℕ, ◌+◌, ◌^◌, ◌<◌, ◌≤◌, Option, Some, IsSome, unwrap_or, max, sym, ap, subst, ◌∙◌}
use Rattle.std.specs.Ordering.{nat_cmp}
use Rattle.std.specs.BTreeMap.{get}
use Rattle.cut_check.specs.Boundaries.{shown, Shows, IsCleared}
use Rattle.cut_check.specs.LastWrites.{IsPainted}
use Rattle.cut_check.specs.declared.last_writes.LastWrites.{LastWrites}
use Rattle.cut_check.proofs.BoundaryLaws.{painted_inside, painted_ahead, painted_behind, painted_bound, painted_had, is_at_apart}
use Rattle.cut_check.proofs.last_writes.LastWrites.paint.Goals as goal

painted : (old new : LastWrites) (f1 f2 f3 : ℕ → Option ℕ) (first last position greatest most : ℕ) → first ≤ last
    → Shows f1 (shown (get nat_cmp old.boundaries)) → (last + 1 < 2 ^ 64 → IsSome (f2 (last + 1)))
    → Shows f2 (shown f1) → IsSome (f2 first) → IsCleared f2 f3 first last greatest
    → get nat_cmp new.boundaries first ≡ Some position → ((q : ℕ) → q ≢ first → get nat_cmp new.boundaries q ≡ f3 q)
    → most ≡ max (unwrap_or (f3 first) 0) greatest → IsPainted old new first last position most
painted old new f1 f2 f3 first last position greatest most a b c d e f g h is =
    let from = get nat_cmp old.boundaries in
    let to = get nat_cmp new.boundaries in
    subst (IsPainted old new first last position) (sym is)
    (record {
      inside = painted_inside from f1 f2 f3 to first last position greatest a b c d e f g h;
      ahead = painted_ahead from f1 f2 f3 to first last position greatest a b c d e f g h;
      behind = painted_behind from f1 f2 f3 to first last position greatest a b c d e f g h;
      bound = painted_bound from f1 f2 f3 to first last position greatest a b c d e f g h;
      had = painted_had from f1 f2 f3 to first last position greatest a b c d e f g h;
    })

pub returns-clause-ok : goal.returns-clause-ok
returns-clause-ok c =
    let first = c.args.first in
    let last = c.args.last in
    let updates = c.in_ok-insert.ensures.updates in
    let greatest = c.clear-behind.result in
    painted c.args.self.now (record { boundaries = c.insert.new.self }) (get nat_cmp c.split_behind.new.boundaries) (get nat_cmp c.split.new.boundaries) (get nat_cmp c.clear-behind.new.boundaries)
    first last c.args.position greatest c.max.result c.requires c.in_ok-split_behind.ensures.same
    (λ within. c.in_ok-split.ensures.kept (last + 1) (c.in_ok-split_behind.ensures.there within))
    c.in_ok-split.ensures.same c.in_ok-split.ensures.there c.clear-behind.ensures updates.1 (λ q apart. updates.2 q (is_at_apart first q apart))
    (c.max.ensures ∙ ap (λ v. max v greatest) (c.unwrap_or-here.ensures ∙ ap (λ o. unwrap_or o 0) c.in_ok-insert.ensures.old))
