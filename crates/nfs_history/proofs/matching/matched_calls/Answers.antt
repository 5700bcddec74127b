use Rattle.std.proofs.Common.{◌≡◌, ◌+◌, ◌-◌, [], length, drop, take, ap, ◌∙◌, arith, refl}
use Rattle.std.specs.HashMap.{get}
use Rattle.std.proofs.lemmas.List.{drop_all, take_all}
use Rattle.history_file.specs.declared.event.SeenEvent.TheVariants as sees
use Rattle.nfs_history.specs.Calls.{calls_from, eras_from}
use Rattle.nfs_history.specs.Matching.{same_key}
use Rattle.history_file.specs.Owning.{seen_event, all_seen}
use Rattle.nfs_history.proofs.MatchingSteps.{none_met, met_call, met_reply, met_close, met_crash, one_before, behind_it, may_follow_at, era_before, era_at_crash}
use Rattle.nfs_history.proofs.matching.matched_calls.Goals as goal

pub loop-index-init : goal.loop-index-init
loop-index-init c =
    let events = c.args.events.now in
    let none : drop (length events) events ≡ [] = drop_all (length events) events (omega arith) in
    let all : take (length events) events ≡ events = take_all (length events) events (omega arith) in
    record {
      matched = rw none (none_met (all_seen (take (length events) events)) (length events) c.args.eras c.new-replies.result c.new-calls.result.items c.new-replies.ensures.empty c.new-calls.ensures.items);
      era_is = rw all c.requires.count;
    }

pub overflow_sub-era : goal.overflow_sub-era
overflow_sub-era c =
    omega (arith, era_at_crash c.args.events.now c.loop-index.index _ c.loop-index.era (omega arith) (omega arith) c.in-Crash.is c.loop-index.invariant.era_is)

pub loop-index-preserved-in-Continue-1 : goal.loop-index-preserved-in-Continue-1
loop-index-preserved-in-Continue-1 c =
    let i = c.loop-index.index in
    let events = c.args.events.now in
    let era = c.loop-index.era in
    let same = c.in-Call.is in
    let this = sees.Call c.in-Call.lane c.in-Call.message in
    let is = one_before events i _ this (omega arith) (omega arith) same in
    let matched = behind_it events i era _ this c.loop-index.replies c.loop-index.calls.items (omega arith) (omega arith) same c.loop-index.invariant.matched in
    record {
      matched = rw (is, c.in_ok-push-in-Call.ensures.items) (met_call (i - 1) era (all_seen (take (i - 1) events)) (all_seen (drop ((i - 1) + 1) events)) c.loop-index.replies c.swap_remove-answer.new.self c.loop-index.calls.items _ refl refl
          (c.swap_remove-answer.ensures.value ∙ ap (λ x. get same_key c.loop-index.replies (c.in-Call.lane, x)) c.transaction-xid.ensures)
          (rw c.transaction-xid.ensures at c.swap_remove-answer.ensures.updates.0)
          (may_follow_at events (i - 1) (seen_event this) (all_seen (drop ((i - 1) + 1) events)) is c.requires.follow).2 matched);
      era_is = era_before events i _ this era (omega arith) (omega arith) same refl c.loop-index.invariant.era_is;
    }

pub loop-index-preserved-in_ok-insert-in-Reply : goal.loop-index-preserved-in_ok-insert-in-Reply
loop-index-preserved-in_ok-insert-in-Reply c =
    let i = c.loop-index.index in
    let events = c.args.events.now in
    let era = c.loop-index.era in
    let same = c.in-Reply.is in
    let this = sees.Reply c.in-Reply.lane c.in-Reply.message in
    let is = one_before events i _ this (omega arith) (omega arith) same in
    let matched = behind_it events i era _ this c.loop-index.replies c.loop-index.calls.items (omega arith) (omega arith) same c.loop-index.invariant.matched in
    record {
      matched = rw is (met_reply (i - 1) era (all_seen (take (i - 1) events)) (all_seen (drop ((i - 1) + 1) events)) c.loop-index.replies c.insert.new.self c.loop-index.calls.items c.in-Reply.lane _ _ c.in_ok-insert-in-Reply.ensures.updates.0 c.transaction-xid-in-Reply.ensures refl matched);
      era_is = era_before events i _ this era (omega arith) (omega arith) same refl c.loop-index.invariant.era_is;
    }

pub loop-index-preserved-in-Close : goal.loop-index-preserved-in-Close
loop-index-preserved-in-Close c =
    let i = c.loop-index.index in
    let events = c.args.events.now in
    let era = c.loop-index.era in
    let same = c.in-Close.is in
    let this = sees.Close c.in-Close.lane in
    let is = one_before events i _ this (omega arith) (omega arith) same in
    let matched = behind_it events i era _ this c.loop-index.replies c.loop-index.calls.items (omega arith) (omega arith) same c.loop-index.invariant.matched in
    record {
      matched = rw is (met_close (i - 1) era c.in-Close.lane (all_seen (take (i - 1) events)) (all_seen (drop ((i - 1) + 1) events)) c.loop-index.replies c.loop-index.calls.items matched);
      era_is = era_before events i _ this era (omega arith) (omega arith) same refl c.loop-index.invariant.era_is;
    }

pub loop-index-preserved : goal.loop-index-preserved
loop-index-preserved c =
    let i = c.loop-index.index in
    let events = c.args.events.now in
    let era = c.loop-index.era in
    let same = c.in-Crash.is in
    let is = one_before events i _ sees.Crash (omega arith) (omega arith) same in
    let matched = behind_it events i era _ sees.Crash c.loop-index.replies c.loop-index.calls.items (omega arith) (omega arith) same c.loop-index.invariant.matched in
    let one_less : era ≡ eras_from 1 (all_seen (take (i - 1) events)) + 1 = era_at_crash events i _ era (omega arith) (omega arith) same c.loop-index.invariant.era_is in
    record {
      matched = rw is (met_crash (i - 1) era (all_seen (take (i - 1) events)) (all_seen (drop ((i - 1) + 1) events)) c.loop-index.replies c.loop-index.calls.items (omega (arith, one_less)) matched);
      era_is = omega (arith, one_less);
    }

pub returns : goal.returns
returns c =
    let none : c.loop-index.index ≡ 0 = omega arith in
    let at_front = rw none at c.loop-index.invariant in
    at_front.matched.calls_are ∙ ap (λ n. calls_from 1 n (all_seen c.args.events.now)) at_front.era_is
