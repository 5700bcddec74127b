-- For the prover, and for callers.
-- What is done with a stream of calls: its whole records from the front are answered, one after the other, and each reply is written as one
-- fragment (RFC 5531, section 11).
use Rattle.std.specs.Prelude.{◌≡◌, ◌≢◌, ◌⊎◌, ℕ, ◌+◌, ◌≤◌, List, [], ◌∷◌, ◌++◌, length, map, take, Option}
use Rattle.std.specs.Io.KnownBytes.{Consumes, Appends}
use Rattle.xdr_records.specs.Record.{IsRecord, IsUnfinished, IsTooLong, IsSplit, record_text}
use Rattle.nfs_tap.specs.Pumping.{frames}
use Rattle.server_passes.specs.PassValue.{ExchangeValue, PassValue}
use Rattle.journal_server.specs.declared.fault.CallFault.{CallFault}
use Rattle.journal_server.specs.declared.fault.CallFault.TheVariants as faults
use Rattle.journal_server.specs.Passing.{IsAnsweredAs, IsToRecord, MayStop}
use Rattle.server_requests.specs.Mounting.{IsMountedAs, IsLeft}
use Rattle.server_connection.specs.declared.export.Export.{Export}
use Rattle.server_connection.specs.declared.export.Export.TheVariants as exports
use Rattle.server_connection.specs.declared.end.StreamEnd.{StreamEnd}
use Rattle.server_connection.specs.declared.end.StreamEnd.TheVariants as ends

-- the messages that were answered, and what they were told
abbrev pub messages : List ExchangeValue → List (List ℕ)
messages answers = map (λ (x : ExchangeValue). x.message) answers

abbrev pub replies : List ExchangeValue → List (List ℕ)
replies answers = map (λ (x : ExchangeValue). x.reply) answers

-- the answer to a call that isn't recorded: the one that the server gives by itself, and ahead of it, where stock clients may mount the server,
-- the one that lets them
abbrev pub IsAnsweredSo : Export → List ℕ → List ℕ → Type 0
IsAnsweredSo exports.Plain message reply = IsAnsweredAs message reply
IsAnsweredSo exports.Mountable message reply = IsMountedAs message reply ⊎ (IsLeft message × IsAnsweredAs message reply)

-- Of these answers those are noted, in order, that are of calls to be recorded. No other is of such a call.
abbrev pub AreNoted : Export → List ExchangeValue → List ExchangeValue → Type 0
AreNoted export [] noted = noted ≡ []
AreNoted export (x ∷ xs) noted =
    (IsAnsweredSo export x.message x.reply × AreNoted export xs noted)
    ⊎ (IsToRecord x.message × ((others : List ExchangeValue) × (noted ≡ x ∷ others) × AreNoted export xs others))

-- the pass knows what it knew, and behind it what is noted of these answers
pub record IsToldOf (export : Export) (answers : List ExchangeValue) (old new : PassValue) : Type 0 where
  pub lane : new.lane ≡ old.lane
  pub noted : List ExchangeValue
  pub which : AreNoted export answers noted
  pub behind : new.exchanges ≡ old.exchanges ++ noted

-- these replies were written whole, but for the last, of which a front was written, or nothing
pub record IsCutShort (given : List (List ℕ)) (written : List ℕ) : Type 0 where
  pub whole : List (List ℕ)
  pub last : List ℕ
  pub parts : given ≡ whole ++ last ∷ []
  pub count : ℕ
  pub within : count ≤ length (record_text last)
  pub bytes : written ≡ frames whole ++ take count (record_text last)

-- these replies were written whole, but for the last, of which nothing was
pub record IsWithoutLast (given : List (List ℕ)) (written : List ℕ) : Type 0 where
  pub whole : List (List ℕ)
  pub last : List ℕ
  pub parts : given ≡ whole ++ last ∷ []
  pub bytes : written ≡ frames whole

-- what was written of the replies
abbrev pub IsSent : StreamEnd → List (List ℕ) → List ℕ → Type 0
IsSent ends.WriteFault given written = IsCutShort given written
IsSent ends.NoMemory given written = (written ≡ frames given) ⊎ IsWithoutLast given written
IsSent end given written = written ≡ frames given

-- the first record of these bytes is a message that is refused so
pub record IsRefused (fault : CallFault) (bytes : List ℕ) : Type 0 where
  pub message : List ℕ
  pub front : List ℕ
  pub back : List ℕ
  pub parts : bytes ≡ front ++ back
  pub whole : IsRecord front message
  pub stops : MayStop message fault
  pub named : fault ≢ faults.NoMemory

-- What stands behind the records that were answered, where `left` more might be: at the end of the stream, and where a read failed, a record
-- that is begun, or nothing; at a record past the limit that record; at a refusal the record that was refused; at the bound any bytes if no
-- more might be answered, else no whole record; where a write failed, or memory or room was wanting, any bytes.
abbrev pub Behind : StreamEnd → ℕ → List ℕ → Type 0
Behind ends.End left rest = IsUnfinished rest
Behind ends.ReadFault left rest = IsUnfinished rest
Behind ends.RecordTooLong left rest = IsTooLong rest
Behind (ends.Refused fault) left rest = IsRefused fault rest
Behind ends.Bound left rest = (left ≡ 0) ⊎ IsUnfinished rest
Behind end left rest = Unit {0}

-- so it ended in these bytes, of which at most so many records may be answered: what was answered, what the pass knows of it, and what was
-- written of it
pub record EndsIn (export : Export) (end : StreamEnd) (most : ℕ) (bytes : List ℕ) (old new : PassValue) (held held' : Option (List ℕ)) : Type 0 where
  pub answers : List ExchangeValue
  pub left : ℕ
  pub count : most ≡ length answers + left
  pub rest : List ℕ
  pub split : IsSplit (Behind end left) bytes (messages answers) rest
  pub told : IsToldOf export answers old new
  pub written : List ℕ
  pub appended : Appends held held' written
  pub sent : IsSent end (replies answers) written

-- what becomes of the pass, and of the bytes that the reader has left and that the writer holds, where these are known
pub record Serves (export : Export) (end : StreamEnd) (most : ℕ) (old new : PassValue) (left left' held held' : Option (List ℕ)) : Type 0 where
  pub read : List ℕ
  pub consumed : Consumes left left' read
  pub ended : EndsIn export end most read old new held held'
