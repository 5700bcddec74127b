use Rattle.std.proofs.Common.{◌≡◌, Result, Err, subst, ap, ◌∙◌}
use Rattle.std.proofs.lemmas.Result.{err_from_is_err_and}
use Rattle.xdr_records.specs.declared.fault.FeedFault.{FeedFault}
use Rattle.xdr_records.specs.declared.fault.FeedFault.TheVariants as feed_faults
use Rattle.nfs_tap.proofs.Forwarding.{HasFed, has_fed}
use Rattle.server_connection.proofs.Streams.{stopped_in, too_long_in, no_memory_in}
use Rattle.server_connection.proofs.serving.serve_piece.Goals as goal

pub returns-in_err-serve_waiting-clause-err : goal.returns-in_err-serve_waiting-clause-err
returns-in_err-serve_waiting-clause-err g c =
    let held = g.W.Write.contents c.args.writer.now in
    let held' = g.W.Write.contents c.serve_waiting.new.writer in
    let old = c.args.intake.now.feed in
    let piece = c.args.piece.now in
    let now = c.feed-fed.new.self in
    let fed = has_fed c.feed-fed.result old piece now c.requires.idle c.feed-fed.ensures.ok c.feed-fed.ensures.too_long c.feed-fed.ensures.no_memory in
    let p = err_from_is_err_and c.from_residual.result c.from_residual.ensures.1 in
    rw (p.1, p.2) (stopped_in c.args.export old piece now c.args.pass.now c.serve_waiting.new.pass held held' c.feed-fed.result _ c.args.intake.now.left fed c.in_err-serve_waiting.ensures.err)

pub returns-in-RecordTooLong-clause-err : goal.returns-in-RecordTooLong-clause-err
returns-in-RecordTooLong-clause-err g c =
    let held = g.W.Write.contents c.args.writer.now in
    let held' = g.W.Write.contents c.serve_waiting.new.writer in
    let old = c.args.intake.now.feed in
    let piece = c.args.piece.now in
    let now = c.feed-fed.new.self in
    let fed = has_fed c.feed-fed.result old piece now c.requires.idle c.feed-fed.ensures.ok c.feed-fed.ensures.too_long c.feed-fed.ensures.no_memory in
    let refused : c.feed-fed.result ≡ Err feed_faults.RecordTooLong = c.in-Err.is ∙ ap (λ (f : FeedFault). let r : Result (Unit {0}) FeedFault = Err f in r) c.in-RecordTooLong.is in
    too_long_in c.args.export old piece now c.args.pass.now c.serve_waiting.new.pass held held' {X = Unit {0}} c.args.intake.now.left c.serve_waiting.new.intake.left
    (subst (λ (r : Result (Unit {0}) FeedFault). HasFed r old piece now) refused fed) c.in_ok-serve_waiting.ensures.ok c.in_ok-serve_waiting.ensures.emptied.count

pub returns-in-NoMemory-clause-err : goal.returns-in-NoMemory-clause-err
returns-in-NoMemory-clause-err g c =
    let held = g.W.Write.contents c.args.writer.now in
    let held' = g.W.Write.contents c.serve_waiting.new.writer in
    let old = c.args.intake.now.feed in
    let piece = c.args.piece.now in
    let now = c.feed-fed.new.self in
    let fed = has_fed c.feed-fed.result old piece now c.requires.idle c.feed-fed.ensures.ok c.feed-fed.ensures.too_long c.feed-fed.ensures.no_memory in
    let refused : c.feed-fed.result ≡ Err feed_faults.NoMemory = c.in-Err.is ∙ ap (λ (f : FeedFault). let r : Result (Unit {0}) FeedFault = Err f in r) c.in-NoMemory.is in
    no_memory_in c.args.export old piece now c.args.pass.now c.serve_waiting.new.pass held held' {X = Unit {0}} c.args.intake.now.left c.serve_waiting.new.intake.left
    (subst (λ (r : Result (Unit {0}) FeedFault). HasFed r old piece now) refused fed) c.in_ok-serve_waiting.ensures.ok c.in_ok-serve_waiting.ensures.emptied.count
