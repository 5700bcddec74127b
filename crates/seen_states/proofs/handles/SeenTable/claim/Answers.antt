use Rattle.std.proofs.Common.{◌≡◌, ◌+◌, ◌<◌, arith, ap, ◌∙◌}
use Rattle.seen_states.specs.Seen.{word_at, times}
use Rattle.seen_states.specs.Handles.{known, word_count}
use Rattle.seen_states.proofs.Places.{word_at-lt, word_at-next, word_at-round}
use Rattle.seen_states.proofs.handles.SeenTable.claim.Goals as goal
use Rattle.seen_states.proofs.handles.SeenTable.claim.Goals.{then-word-count, else-word-count}

pub loop-place-preserved : goal.loop-place-preserved
loop-place-preserved c =
    let n = word_count c.args.self.now in
    let fp = c.args.fingerprint in
    let k = c.loop-place.place in
    let kept = c.loop-place.invariant in
    let found = c.in_default.ensures.found in
    let here : c.loop-place.word ≡ word_at n fp k = kept.word c.loop-place-test.true in
    let below : word_at n fp k < n = word_at-lt n fp k c.args.self.now.some in
    let was = known c.loop-place.claimer in
    record {
      of_this_table = c.in_default.ensures.of_this_table;
      word = λ inside. elim c.if-word-count.branch [
        | then-word-count w ↦ w.word-is ∙ ap (λ m. m + 1) here ∙ word_at-next n fp k (omega arith)
        | else-word-count w ↦ w.word-is ∙ word_at-round n fp k (omega arith)
      ];
      new = ap (λ v. v.new_answers) found.0 ∙ kept.new;
      seen = ap (λ v. v.seen_answers) found.0 ∙ kept.seen;
      begun = λ some. (ap (λ v. v.fingerprint) found.0, ap (λ v. v.probed) found.0);
      told = λ last before. found.1 (last ∙ c.word_count-count.ensures)
          (let new : times fp was.new_answers ≡ times fp (known c.args.claimer.now).new_answers = ap (times fp) kept.new in
          let seen : times fp was.seen_answers ≡ times fp (known c.args.claimer.now).seen_answers = ap (times fp) kept.seen in omega arith);
    }
