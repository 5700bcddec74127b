-- For the prover.
-- What the private functions say to the prover.
use Rattle.std.specs.Prelude.{◌≡◌, ◌≢◌, ◌⊎◌, ◌<◌, ◌≤◌, ℕ, ◌+◌, List, [], ◌∷◌, ◌++◌, length, take, Option}
use Rattle.std.specs.Io.KnownBytes.{Appends}
use Rattle.xdr_records.specs.Record.{IsUnfinished, IsSplit, record_text}
use Rattle.nfs_tap.specs.Pumping.{frames, IsIdle}
use Rattle.server_passes.specs.PassValue.{ExchangeValue, PassValue}
use Rattle.journal_server.specs.declared.fault.CallFault.{CallFault}
use Rattle.journal_server.specs.declared.fault.CallFault.TheVariants as faults
use Rattle.journal_server.specs.Passing.{MayStop, IsAsBefore, IsNoted, IsToRecord}
use Rattle.server_connection.specs.declared.export.Export.{Export}
use Rattle.server_connection.specs.declared.end.StreamEnd.{StreamEnd}
use Rattle.server_connection.specs.declared.end.StreamEnd.TheVariants as ends
use Rattle.server_connection.specs.declared.intake.Intake.{Intake}
use Rattle.server_connection.specs.Serving.{messages, replies, IsAnsweredSo, IsToldOf, IsSent}

-- the end of a stream of which a call was refused
abbrev pub end_of : CallFault → StreamEnd
end_of faults.NoMemory = ends.NoMemory
end_of fault = ends.Refused fault

-- the end of a stream of which so many bytes of a reply were written, and not the others
abbrev pub IsLost : StreamEnd → ℕ → Type 0
IsLost ends.WriteFault count = Unit {0}
IsLost ends.NoMemory count = count ≡ 0
IsLost end count = ⊥

-- a front of a text was written
pub record IsUnsent (end : StreamEnd) (held held' : Option (List ℕ)) (text : List ℕ) : Type 0 where
  pub count : ℕ
  pub within : count ≤ length text
  pub appended : Appends held held' (take count text)
  pub lost : IsLost end count

-- a call was answered
abbrev pub IsAnsweredBy : Export → PassValue → List ℕ → List ℕ → PassValue → Type 0
IsAnsweredBy export old message reply new = (IsAnsweredSo export message reply × (new ≡ old)) ⊎ (IsToRecord message × IsNoted old message reply new)

-- a record was answered, and the reply written
pub record IsServed (export : Export) (message : List ℕ) (old new : PassValue) (held held' : Option (List ℕ)) : Type 0 where
  pub reply : List ℕ
  pub answered : IsAnsweredBy export old message reply new
  pub appended : Appends held held' (record_text reply)

-- a record got no reply, and nothing was written
pub record IsUnanswered (end : StreamEnd) (message : List ℕ) (old new : PassValue) (held held' : Option (List ℕ)) : Type 0 where
  pub fault : CallFault
  pub is : end ≡ end_of fault
  pub stops : MayStop message fault
  pub kept : IsAsBefore old new
  pub same : held' ≡ held

-- a record was answered, and a front of the reply written
pub record IsHalfServed (export : Export) (end : StreamEnd) (message : List ℕ) (old new : PassValue) (held held' : Option (List ℕ)) : Type 0 where
  pub reply : List ℕ
  pub answered : IsAnsweredBy export old message reply new
  pub unsent : IsUnsent end held held' (record_text reply)

-- these records were answered
pub record Answers (export : Export) (records : List (List ℕ)) (old new : PassValue) (held held' : Option (List ℕ)) : Type 0 where
  pub answers : List ExchangeValue
  pub are : records ≡ messages answers
  pub told : IsToldOf export answers old new
  pub appended : Appends held held' (frames (replies answers))

-- so it ended at the first of these records, where `left` of them might be answered
abbrev pub IsStop : StreamEnd → ℕ → List (List ℕ) → Type 0
IsStop ends.Bound left records = left ≡ 0
IsStop ends.Full left records = Unit {0}
IsStop ends.WriteFault left records = Unit {0}
IsStop ends.NoMemory left records = Unit {0}
IsStop (ends.Refused fault) left [] = ⊥
IsStop (ends.Refused fault) left (x ∷ xs) = MayStop x fault × (fault ≢ faults.NoMemory)
IsStop end left records = ⊥

-- so it ended in these records, of which at most so many may be answered
pub record Stops (export : Export) (end : StreamEnd) (most : ℕ) (records : List (List ℕ)) (old new : PassValue) (held held' : Option (List ℕ)) : Type 0 where
  pub answers : List ExchangeValue
  pub behind : List (List ℕ)
  pub parts : records ≡ messages answers ++ behind
  pub left : ℕ
  pub count : most ≡ length answers + left
  pub stop : IsStop end left behind
  pub told : IsToldOf export answers old new
  pub written : List ℕ
  pub appended : Appends held held' written
  pub sent : IsSent end (replies answers) written

-- no record waits, no header passed the limit, and more records may be answered
pub record IsReady (intake : Intake) : Type 0 where
  pub idle : IsIdle intake.feed
  pub more : 0 < intake.left

-- the records that waited were taken, and more may be answered
pub record IsEmptied (old new : Intake) : Type 0 where
  pub waiting : new.feed.waiting ≡ []
  pub rest : new.feed.rest ≡ old.feed.rest
  pub broken : new.feed.broken ≡ old.feed.broken
  pub count : old.left ≡ length old.feed.waiting + new.left
  pub more : 0 < new.left

-- a piece of the stream was taken, and the records were answered that it made whole
pub record Takes (export : Export) (old : Intake) (piece : List ℕ) (new : Intake) (before after : PassValue) (held held' : Option (List ℕ)) : Type 0 where
  pub ready : IsReady new
  pub answers : List ExchangeValue
  pub count : old.left ≡ length answers + new.left
  pub split : IsSplit IsUnfinished (old.feed.rest ++ piece) (messages answers) new.feed.rest
  pub told : IsToldOf export answers before after
  pub appended : Appends held held' (frames (replies answers))
