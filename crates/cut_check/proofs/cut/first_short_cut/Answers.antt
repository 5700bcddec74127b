-- The first era whose cut is short.
use Rattle.std.proofs.Common.{◌≡◌, ◌+◌, ◌-◌, Some, subst, arith}
use Rattle.cut_check.specs.Stable.{IsLastStable}
use Rattle.cut_check.specs.Places.{era_at, effects_of}
use Rattle.cut_check.proofs.EraLaws.{era_there, short_here, keeps_one_more}
use Rattle.cut_check.proofs.cut.first_short_cut.Goals as goal

pub returns-then-cut_of-needed : goal.returns-then-cut_of-needed
returns-then-cut_of-needed c =
    let eras = c.args.eras.now in
    let number = c.loop-number.number in
    let era = c.index-eras-number.result in
    let needed = c.in_ok-needed.needed in
    let back : (number - 1) + 1 ≡ number = omega arith in
    let here : era_at eras number ≡ Some era = subst (λ n. era_at eras n ≡ Some era) back (era_there eras (number - 1) era (omega arith) c.index-eras-number.is) in
    let last = subst (λ places. IsLastStable (effects_of c.args.binds.now c.args.history.now.calls places) needed) c.as_slice.ensures c.in_ok-needed.ensures in
    short_here c.args.binds.now c.args.history.now.calls eras number needed era here last c.loop-number.invariant (omega arith) (let e = c.cut_of.ensures in omega arith)

pub loop-number-preserved : goal.loop-number-preserved
loop-number-preserved c =
    let eras = c.args.eras.now in
    let number = c.loop-number.number in
    let era = c.index-eras-number.result in
    let needed = c.in_ok-needed.needed in
    let back : (number - 1) + 1 ≡ number = omega arith in
    let here : era_at eras number ≡ Some era = subst (λ n. era_at eras n ≡ Some era) back (era_there eras (number - 1) era (omega arith) c.index-eras-number.is) in
    let last = subst (λ places. IsLastStable (effects_of c.args.binds.now c.args.history.now.calls places) needed) c.as_slice.ensures c.in_ok-needed.ensures in
    keeps_one_more c.args.binds.now c.args.history.now.calls eras number needed era here last c.loop-number.invariant (let e = c.cut_of.ensures in omega arith)

pub returns : goal.returns
returns c = λ e era there before. c.loop-number.invariant e era there (omega arith)
