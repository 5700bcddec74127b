-- One more place, by what it means.
use Rattle.std.proofs.Common.{◌+◌, ◌∷◌, ◌++◌, ◌<◌, ◌≤◌, [], max, sym, subst, arith}
use Rattle.cut_check.specs.declared.effect.Effect.TheVariants.{Committed}
use Rattle.cut_check.specs.Stability.{Keeps, kept_at, last_byte}
use Rattle.cut_check.proofs.KeepsLaws.{keeps_nothing, keeps_empty, keeps_write, keeps_commit}
use Rattle.cut_check.proofs.stability.take_in.Goals as goal

pub returns-in-Nothing : goal.returns-in-Nothing
returns-in-Nothing c =
    let at = kept_at c.args.files.now in
    record {
      ok = λ effects kept. subst (λ e. Keeps (c.args.placed + 1) c.args.needed at (effects ++ e ∷ [])) (sym c.in-Nothing.is) (keeps_nothing c.args.placed c.args.needed at effects kept);
      err = tt;
    }

pub returns-then-count-eq0-clause-ok : goal.returns-then-count-eq0-clause-ok
returns-then-count-eq0-clause-ok c = λ effects kept.
    let at = kept_at c.args.files.now in
    let call = c.in-Unstable in
    subst (λ e. Keeps (c.args.placed + 1) c.args.needed at (effects ++ e ∷ [])) (sym call.is)
    (keeps_empty c.args.placed c.args.needed at effects kept call.object call.offset call.count c.if-count-eq0.true)

pub returns-in_ok-paint-in-Unstable-clause-ok : goal.returns-in_ok-paint-in-Unstable-clause-ok
returns-in_ok-paint-in-Unstable-clause-ok c = λ effects kept.
    let at = kept_at c.args.files.now in
    let now = kept_at c.paint.new.files in
    let call = c.in-Unstable in
    let within : call.offset ≤ last_byte = omega arith in
    let some : 0 < call.count = omega arith in
    subst (λ e. Keeps (c.args.placed + 1) c.args.needed now (effects ++ e ∷ [])) (sym call.is)
    (keeps_write c.args.placed c.args.needed at effects kept now call.object call.offset call.count c.last_written-last.result c.in_ok-paint-in-Unstable.field-0
    within some c.last_written-last.ensures c.in_ok-paint-in-Unstable.ensures.ok)

pub returns-in_ok-greatest-in-Committed-clause-ok : goal.returns-in_ok-greatest-in-Committed-clause-ok
returns-in_ok-greatest-in-Committed-clause-ok c = λ effects kept.
    let at = kept_at c.args.files.now in
    let now = kept_at c.paint-in-Committed.new.files in
    let call = c.in-Committed in
    let greatest = c.in_ok-greatest-in-Committed.greatest in
    let within : call.offset ≤ last_byte = omega arith in
    let ends = c.last_reached-last.ensures in
    let more : Keeps (c.args.placed + 1) (max greatest c.args.needed) now (effects ++ Committed call.object call.offset call.count ∷ []) =
    keeps_commit c.args.placed c.args.needed at effects kept now call.object call.offset call.count c.last_reached-last.result greatest
    within ends.without_end ends.of_count c.in_ok-greatest-in-Committed.ensures.ok in
    subst (λ e. Keeps (c.args.placed + 1) c.max.result now (effects ++ e ∷ [])) (sym call.is)
    (subst (λ n. Keeps (c.args.placed + 1) n now (effects ++ Committed call.object call.offset call.count ∷ [])) (sym c.max.ensures) more)
