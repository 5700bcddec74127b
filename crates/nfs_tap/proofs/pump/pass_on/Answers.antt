use Rattle.std.proofs.Common.{◌≡◌, Result, Err, subst, ap, ◌∙◌}
use Rattle.std.proofs.lemmas.Result.{err_from_is_err_and}
use Rattle.xdr_records.specs.declared.fault.FeedFault.{FeedFault}
use Rattle.xdr_records.specs.declared.fault.FeedFault.TheVariants as feed_faults
use Rattle.nfs_tap.proofs.Forwarding.{HasFed, has_fed, fed_within, stopped_in, no_memory_for}
use Rattle.nfs_tap.proofs.pump.pass_on.Goals as goal

pub forward_waiting-requires : goal.forward_waiting-requires
forward_waiting-requires g c =
    let old = c.args.feed.now in
    let piece = c.args.piece.now in
    let now = c.feed-fed.new.self in
    fed_within c.feed-fed.result old piece now (has_fed c.feed-fed.result old piece now c.requires c.feed-fed.ensures.ok c.feed-fed.ensures.too_long c.feed-fed.ensures.no_memory)

pub returns-in_err-forward_waiting-clause-err : goal.returns-in_err-forward_waiting-clause-err
returns-in_err-forward_waiting-clause-err g c =
    let held = g.W.Write.contents c.args.writer.now in
    let held' = g.W.Write.contents c.forward_waiting.new.writer in
    let old = c.args.feed.now in
    let piece = c.args.piece.now in
    let now = c.feed-fed.new.self in
    let fed = has_fed c.feed-fed.result old piece now c.requires c.feed-fed.ensures.ok c.feed-fed.ensures.too_long c.feed-fed.ensures.no_memory in
    let p = err_from_is_err_and c.from_residual.result c.from_residual.ensures.1 in
    rw (p.1, p.2) (stopped_in c.feed-fed.result _ held held' old piece now fed c.in_err-forward_waiting.ensures.err)

pub returns-in-NoMemory-clause-err : goal.returns-in-NoMemory-clause-err
returns-in-NoMemory-clause-err g c =
    let held = g.W.Write.contents c.args.writer.now in
    let held' = g.W.Write.contents c.forward_waiting.new.writer in
    let old = c.args.feed.now in
    let piece = c.args.piece.now in
    let now = c.feed-fed.new.self in
    let fed = has_fed c.feed-fed.result old piece now c.requires c.feed-fed.ensures.ok c.feed-fed.ensures.too_long c.feed-fed.ensures.no_memory in
    let refused : c.feed-fed.result ≡ Err feed_faults.NoMemory = c.in-Err.is ∙ ap (λ (f : FeedFault). let r : Result (Unit {0}) FeedFault = Err f in r) c.in-NoMemory.is in
    no_memory_for {X = Unit {0}} held held' old piece now (subst (λ (r : Result (Unit {0}) FeedFault). HasFed r old piece now) refused fed) c.in_ok-forward_waiting.ensures.ok
