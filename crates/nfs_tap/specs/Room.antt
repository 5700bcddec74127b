-- For the prover, and for callers.
-- Whether a log may take one record more, so that its file stays within the limits of a history's (this project's own).
use Rattle.std.specs.Prelude.{ℕ, ◌+◌, ◌*◌, ◌≤◌, length}
use Rattle.xdr_records.specs.Items.{padded}
use Rattle.history_file.specs.Event.{Recording}
use Rattle.history_file.specs.Limits.{history_limit, event_limit}
use Rattle.history_file.specs.Writing.{file_text}

-- so many closes are to find room behind the last record
abbrev pub closes : ℕ
closes = 4096

-- with a call or a reply of n bytes, and the closes behind it, the file is within its limits: a call takes three words and its bytes, a
-- close two words
pub record HasRoom (log : Recording) (n : ℕ) : Type 0 where
  pub events : length log.events + 1 + closes ≤ event_limit
  pub bytes : length (file_text log.head.root log.events) + (12 + padded n) + 8 * closes ≤ history_limit
