-- For the prover.
-- Records that came as one fragment each, and are forwarded as they came: what the code's private functions say to the prover.
use Rattle.std.specs.Prelude.{◌≡◌, ◌≢◌, ℕ, ◌≤◌, List, [], ◌++◌, length, Option}
use Rattle.std.specs.Io.KnownBytes.{Consumes, Appends, IsAtEnd, prepend_known}
use Rattle.xdr_records.specs.Record.{IsUnfinished, IsSplit, record_text, record_limit}
use Rattle.nfs_tap.specs.declared.pump.PumpEnd.{PumpEnd}
use Rattle.nfs_tap.specs.declared.pump.PumpEnd.TheVariants as ends
use Rattle.nfs_tap.specs.declared.pump.Turn.{Turn}
use Rattle.nfs_tap.specs.declared.pump.Turn.TheVariants as turns
use Rattle.nfs_tap.specs.Pumping.{frames, IsNamed, IsForwarded, Pumps}

-- a record's text at the front of bytes, its content, and what stands behind it
pub record IsFirst (bytes text content behind : List ℕ) : Type 0 where
  pub parts : bytes ≡ text ++ behind
  pub spelled : text ≡ record_text content
  pub limit : length content ≤ record_limit

-- of some bytes others are left: those ahead of them are whole records, which were written
pub record PassesOn (old new : List ℕ) (held held' : Option (List ℕ)) : Type 0 where
  pub records : List (List ℕ)
  pub front : List ℕ
  pub parts : old ≡ front ++ new
  pub split : IsSplit IsUnfinished front records []
  pub appended : Appends held held' (frames records)

-- so many bytes from the front are whole records, which were written
pub record IsPassed (held held' : Option (List ℕ)) (bytes : List ℕ) (used : ℕ) : Type 0 where
  pub back : List ℕ
  pub passed : PassesOn bytes back held held'
  pub size : length passed.front ≡ used

-- a pump ended so amid some bytes, of which whole records from the front were written
pub record StopsAmid (end : PumpEnd) (bytes : List ℕ) (held held' : Option (List ℕ)) : Type 0 where
  pub written : List ℕ
  pub appended : Appends held held' written
  pub forwarded : IsForwarded end bytes written
  pub unended : end ≢ ends.End
  pub named : IsNamed end

-- what a turn made of the bytes that waited
abbrev pub IsTurned : Turn → List ℕ → List ℕ → Option (List ℕ) → Option (List ℕ) → Type 0
IsTurned turns.On old new held held' = PassesOn old new held held'
IsTurned turns.Odd old new held held' = PassesOn old new held held'
IsTurned (turns.Over end) old new held held' = StopsAmid end old held held'

-- a pump isn't over
abbrev pub IsNext : Turn → Type 0
IsNext turns.On = Unit {0}
IsNext turns.Odd = Unit {0}
IsNext (turns.Over end) = ⊥

-- whole records were read of what was left, and written; behind them stand bytes that wait, and what is left now
pub record GoesOn (left left' : Option (List ℕ)) (waiting : List ℕ) (held held' : Option (List ℕ)) : Type 0 where
  pub records : List (List ℕ)
  pub front : List ℕ
  pub consumed : Consumes left (prepend_known waiting left') front
  pub split : IsSplit IsUnfinished front records []
  pub appended : Appends held held' (frames records)

-- what a turn does, where bytes that wait count as left
abbrev pub Turns : Turn → Option (List ℕ) → Option (List ℕ) → List ℕ → Option (List ℕ) → Option (List ℕ) → Type 0
Turns turns.On left left' waiting held held' = GoesOn left left' waiting held held'
Turns turns.Odd left left' waiting held held' = GoesOn left left' waiting held held'
Turns (turns.Over end) left left' waiting held held' = IsNamed end × Pumps end left left' held held'

-- the end of the stream is told only where nothing is left
abbrev pub EndsAtEnd : Turn → Option (List ℕ) → Type 0
EndsAtEnd (turns.Over ends.End) left = IsAtEnd left
EndsAtEnd turn left = Unit {0}
