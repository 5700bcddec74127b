use Rattle.std.proofs.Common.{◌≡◌, ◌+◌, ◌<◌, length, Some, None, refl, subst, arith}
use Rattle.std.proofs.lemmas.Result.{err_from_is_err_and}
use Rattle.std.specs.Prelude.{vec_len, vec_capacity, is_ok}
use Rattle.history_file.specs.Event.{Event}
use Rattle.history_file.specs.Owning.{happened, all_happened}
use Rattle.nfs_history.specs.Checking.{IsFaultBehind, KnowsOneMore}
use Rattle.nfs_tap.proofs.Kept.{kept_more, era_within, noted_here, pushed_within, refused_here, unchanged_here}
use Rattle.nfs_tap.proofs.log.TapLog.note_event.Goals as goal

pub returns-in-Some : goal.returns-in-Some
returns-in-Some c =
    let log = c.self.inside in
    let number : c.len.result + 1 ≡ length log.events.items + 1 = omega (arith, c.len.ensures, log.events.ok.0) in
    let behind = subst (λ (e : Event). IsFaultBehind log.known (c.len.result + 1) e (Some c.in-Some.fault)) c.as_seen-seen.ensures c.in-Some.ensures in
    refused_here log.root log.events.items log.known log.left (c.len.result + 1) (happened c.args.event) c.args.self.now c.in-Some.fault c.from.result
    c.self.view_is c.self.invariant number behind c.from.ensures

pub returns-in_err-reserve : goal.returns-in_err-reserve
returns-in_err-reserve c =
    let log = c.self.inside in
    let p = err_from_is_err_and c.from_residual.result c.from_residual.ensures.1 in
    rw (p.1, p.2) (unchanged_here log.root log.events.items c.reserve.new.self.items (happened c.args.event) c.args.self.now c.self.view_is c.in_err-reserve.ensures.items)

pub returns-in_err-follow : goal.returns-in_err-follow
returns-in_err-follow c =
    let log = c.self.inside in
    let p = err_from_is_err_and c.from_residual-in_err-follow.result c.from_residual-in_err-follow.ensures.1 in
    rw (p.1, p.2) (unchanged_here log.root log.events.items c.reserve.new.self.items (happened c.args.event) c.args.self.now c.self.view_is c.in_ok-reserve.ensures.items)

pub follow-requires : goal.follow-requires
follow-requires c =
    let log = c.self.inside in
    omega (arith, era_within log.root log.events.items log.known log.left c.self.invariant, c.len.ensures, log.events.ok.0, log.events.small)

pub invariant_of-self-2 : goal.invariant_of-self-2
invariant_of-self-2 c =
    let log = c.self.inside in
    let room : vec_len c.reserve.new.self < vec_capacity c.reserve.new.self = omega (arith, c.in_ok-reserve.ensures.ok) in
    let pushed = pushed_within log.events.items c.reserve.new.self.items c.push.new.self.items c.args.event (is_ok c.push.result) c.in_ok-reserve.ensures.items c.push.ensures.items (c.push.ensures.succeeds room) in
    let may = subst (λ (e : Event). IsFaultBehind log.known (c.len.result + 1) e None) c.as_seen-seen.ensures c.in_default.ensures (all_happened log.events.items) c.self.invariant.knows in
    let more = subst (λ (e : Event). KnowsOneMore log.known c.follow.new.self e) c.as_seen-seen.ensures c.in_ok-follow.ensures.ok in
    kept_more log.root log.events.items c.push.new.self.items c.args.event (happened c.args.event) log.known c.follow.new.self log.left c.left_behind-left.result
    pushed refl c.self.invariant may more c.left_behind-left.ensures

pub returns : goal.returns
returns c =
    let log = c.self.inside in
    let room : vec_len c.reserve.new.self < vec_capacity c.reserve.new.self = omega (arith, c.in_ok-reserve.ensures.ok) in
    let pushed = pushed_within log.events.items c.reserve.new.self.items c.push.new.self.items c.args.event (is_ok c.push.result) c.in_ok-reserve.ensures.items c.push.ensures.items (c.push.ensures.succeeds room) in
    let may = subst (λ (e : Event). IsFaultBehind log.known (c.len.result + 1) e None) c.as_seen-seen.ensures c.in_default.ensures (all_happened log.events.items) c.self.invariant.knows in
    noted_here log.root log.events.items c.push.new.self.items c.args.event (happened c.args.event) c.args.self.now c.self.view_is pushed refl may
