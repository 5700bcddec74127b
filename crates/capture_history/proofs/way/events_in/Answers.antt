use Rattle.std.proofs.Common.{sym, ap, refl}
use Rattle.xdr_records.specs.Feed.{Feed}
use Rattle.capture_history.proofs.Feeding.{all_fed, fed_too_long}
use Rattle.capture_history.proofs.way.events_in.Goals as goal
use Rattle.capture_history.proofs.way.events_in.Goals.{in-Ok, in-Err-RecordTooLong}

pub returns : goal.returns
returns c = record {
  messages = c.feed.new.self.waiting;
  are = rw (sym c.as_slice.ensures.value) (elim c.match-feed.branch [ in-Ok w ↦ all_fed c.new-feed.result c.as_slice.result.now c.feed.new.self c.new-feed.ensures w.in-Ok.ensures.ok | in-Err-RecordTooLong w ↦ fed_too_long c.new-feed.result c.as_slice.result.now c.feed.new.self c.new-feed.ensures (w.in-Err-RecordTooLong.ensures.too_long (rw w.in-Err-RecordTooLong.field-0-is refl) (ap (λ (f : Feed). f.broken) c.new-feed.ensures)) ]);
  made = c.in_ok-found.ensures;
}
