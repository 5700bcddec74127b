-- Believed.
-- The calls of a history (Herlihy and Wing 1990, section 2: an operation is an invocation and the response
-- that matches it). Events, calls and eras are numbered from 1.
use Rattle.std.specs.Prelude.{◌==◌, ◌&&◌, ℕ, ◌+◌, nat_lt, if◌then◌else◌, List, [], ◌∷◌, length, Option, Some, None}
use Rattle.xdr_records.specs.Items.{word_of}
use Rattle.history_file.specs.Event.{Event}
use Rattle.history_file.specs.Event.Event.{call, reply, close, crash}

-- the transaction number of a message, its first word (RFC 5531, section 9)
unfoldable pub xid_of : List ℕ → ℕ
xid_of message = if nat_lt (length message) 4 then 0 else word_of message

-- a reply, with the number of its event
pub record ReplyEvent : Type 0 where
  pub number : ℕ
  pub message : List ℕ

-- a call, with the number of its event, its era, and the reply that answers it
pub record CallEvent : Type 0 where
  pub lane : ℕ
  pub message : List ℕ
  pub begin : ℕ
  pub era : ℕ
  pub answer : Option ReplyEvent

-- the first reply on a lane with a transaction number, among events that are numbered from i on
abbrev pub first_reply : ℕ → ℕ → ℕ → List Event → Option ReplyEvent
first_reply lane xid i [] = None
first_reply lane xid i (reply on message ∷ events) =
    if (on == lane) && (xid_of message == xid) then Some (record { number = i; message = message }) else first_reply lane xid (i + 1) events
first_reply lane xid i (call on message ∷ events) = first_reply lane xid (i + 1) events
first_reply lane xid i (close on ∷ events) = first_reply lane xid (i + 1) events
first_reply lane xid i (crash ∷ events) = first_reply lane xid (i + 1) events

-- the calls among events that are numbered from i on, the first of them in an era: call n is the n-th of them
abbrev pub calls_from : ℕ → ℕ → List Event → List CallEvent
calls_from i era [] = []
calls_from i era (call lane message ∷ events) =
    record { lane = lane; message = message; begin = i; era = era; answer = first_reply lane (xid_of message) (i + 1) events } ∷ calls_from (i + 1) era events
calls_from i era (reply lane message ∷ events) = calls_from (i + 1) era events
calls_from i era (close lane ∷ events) = calls_from (i + 1) era events
calls_from i era (crash ∷ events) = calls_from (i + 1) (era + 1) events

-- the calls of a whole history, in order
abbrev pub calls_of : List Event → List CallEvent
calls_of events = calls_from 1 1 events

-- the eras from the first on: one more than the server went down
abbrev pub eras_from : ℕ → List Event → ℕ
eras_from era [] = era
eras_from era (call lane message ∷ events) = eras_from era events
eras_from era (reply lane message ∷ events) = eras_from era events
eras_from era (close lane ∷ events) = eras_from era events
eras_from era (crash ∷ events) = eras_from (era + 1) events
