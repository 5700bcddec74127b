use Rattle.std.proofs.Common.{inr, inl, take, arith}
use Rattle.history_file.specs.Owning.{all_seen}
use Rattle.nfs_history.proofs.CheckingSteps.{checked_more, first_here, all_checked, era_within}
use Rattle.nfs_history.proofs.checking.follow_all.Goals as goal

pub returns-in-Some-clause-fault : goal.returns-in-Some-clause-fault
returns-in-Some-clause-fault c =
    let i = c.loop-index.index in
    let at = c.in-Some.ensures (all_seen (take i c.args.events.now)) c.loop-index.invariant.knows in
    let first = first_here c.args.events.now i _ c.loop-index.calls c.in-Some.fault c.loop-index-test.true at c.loop-index.invariant in
    inr (inl (c.in-Some.fault, first, c.from.ensures))

pub follow-requires : goal.follow-requires
follow-requires c = omega (arith, era_within c.args.events.now c.loop-index.index c.loop-index.calls c.loop-index-test.true c.loop-index.invariant)

pub loop-index-preserved : goal.loop-index-preserved
loop-index-preserved c =
    let i = c.loop-index.index in
    let events = c.args.events.now in
    let before = all_seen (take i events) in
    let may = c.in_default.ensures before c.loop-index.invariant.knows in
    checked_more events i _ c.loop-index.calls c.follow.new.self c.loop-index-test.true may (c.in_ok-follow.ensures.ok before c.loop-index.invariant.knows may) c.loop-index.invariant

pub returns-clause-found : goal.returns-clause-found
returns-clause-found c = all_checked c.args.events.now c.loop-index.index c.loop-index.calls c.loop-index-test.false c.loop-index.invariant
