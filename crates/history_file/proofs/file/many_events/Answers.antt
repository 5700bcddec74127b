use Rattle.std.proofs.Common.{◌≡◌, ◌++◌, ◌∷◌, []}
use Rattle.std.proofs.lemmas.Result.{err_from_is_err_and}
use Rattle.std.proofs.lemmas.List.{map_push}
use Rattle.history_file.specs.HistoryFile.{events}
use Rattle.history_file.specs.FileReading.{reading_of}
use Rattle.history_file.specs.Owning.{seen_event, all_seen}
use Rattle.history_file.proofs.EventLoop.{goes_on, stops, is_done}
use Rattle.history_file.proofs.file.many_events.Goals as goal

pub returns-in_err-event : goal.returns-in_err-event
returns-in_err-event c =
    let p = err_from_is_err_and c.from_residual-in_err-event.result c.from_residual-in_err-event.ensures.1 in
    rw (p.1, p.2) (stops c.in_err-event.field-0.0 (all_seen c.loop-index.seen.items) c.args.count c.loop-index.index c.loop-index.reader (reading_of (events c.args.count 1) c.args.reader.now) c.loop-index-test.true c.in_err-event.ensures c.loop-index.invariant)

pub loop-index-preserved : goal.loop-index-preserved
loop-index-preserved c =
    let event = c.in_ok-event.event in
    let e : all_seen c.push.new.self.items ≡ all_seen c.loop-index.seen.items ++ seen_event event ∷ [] = rw c.in_ok-push.ensures.items (map_push _ c.loop-index.seen.items event) in
    rw e (goes_on (all_seen c.loop-index.seen.items) c.args.count c.loop-index.index c.loop-index.reader (seen_event event) c.one_event.new.reader (reading_of (events c.args.count 1) c.args.reader.now) c.loop-index-test.true c.in_ok-event.ensures c.loop-index.invariant)

pub returns : goal.returns
returns c = is_done (all_seen c.loop-index.seen.items) c.args.count c.loop-index.index c.loop-index.reader (reading_of (events c.args.count 1) c.args.reader.now) c.loop-index-test.false c.loop-index.invariant
