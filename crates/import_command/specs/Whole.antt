-- For the prover.
-- A capture of which it shows nowhere that something of the server's connections is wanting: the file isn't cut off; no packet has a header that
-- none has, is cut by the snap length, is a fragment, or is earlier than one ahead of it; of each connection the beginning was captured, and
-- both ways, and all go to one server; no lane ends early and no event is left out, which a note would tell; each call got its reply; and the
-- history can be judged, and has judged calls. Segments behind the last one that was captured don't show, unless a reply is wanting.
use Rattle.std.specs.Prelude.{◌≡◌, ◌<◌, [], None}
use Rattle.capture_history.specs.declared.passed.PassedCounts.{PassedCounts}
use Rattle.capture_history.specs.declared.capture.CaptureLog.{CaptureLog}
use Rattle.import_command.specs.declared.import.Counts.{Counts}

pub record MissesNothing (passed : PassedCounts) : Type 0 where
  pub sound : passed.malformed ≡ 0
  pub headers : passed.cut_headers ≡ 0
  pub payloads : passed.cut_payloads ≡ 0
  pub fragments : passed.fragments ≡ 0
  pub order : passed.too_early ≡ 0
  pub ways : passed.one_way ≡ 0
  pub beginnings : passed.without_beginning ≡ 0
  pub servers : passed.other_servers ≡ 0

pub record AreAnswered (counts : Counts) : Type 0 where
  pub answered : counts.unanswered ≡ 0
  pub judged : counts.reading.fault ≡ None
  pub judges : 0 < counts.reading.judged
  pub some : 0 < counts.calls

pub record IsWhole (log : CaptureLog) (counts : Counts) : Type 0 where
  pub uncut : log.cut ≡ None
  pub notes : log.import.notes.items ≡ []
  pub packets : MissesNothing log.passed
  pub calls : AreAnswered counts
