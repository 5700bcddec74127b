use Rattle.std.proofs.Common.{◌∷◌, ◌+◌, [], ap, ◌∙◌, arith, length-append}
use Rattle.tree_starts.proofs.JudgeSteps.{judged_as, at_fault, one_fine, all_fine}
use Rattle.tree_starts.proofs.start.judge.Goals as goal

pub returns-in-Err : goal.returns-in-Err
returns-in-Err c =
    judged_as (Unit {0}) _ _ c.in-Err.fault (λ f. at_fault c.args.objects.now c.loop-index.table c.loop-index.index c.index-objects-index.result c.index-objects-index.result f (omega arith) (omega arith) c.index-objects-index.is c.loop-index.invariant.1) c.in-Err.ensures.judged

pub loop-index-preserved : goal.loop-index-preserved
loop-index-preserved c =
    rw c.in-Ok.ensures.pushed (length-append c.loop-index.table (c.index-objects-index.result ∷ []) ∙ ap (λ n. n + 1) c.loop-index.invariant.0, one_fine c.args.objects.now c.loop-index.table c.loop-index.index c.index-objects-index.result c.index-objects-index.result (omega arith) c.index-objects-index.is c.loop-index.invariant.1 c.in-Ok.ensures.judged)

pub returns : goal.returns
returns c = all_fine c.args.objects.now c.loop-index.table c.loop-index.index (omega arith) (omega arith) c.loop-index.invariant.1
