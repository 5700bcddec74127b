-- Believed.
-- What a client of the server is told: by a call that isn't recorded the answer that the server gives by itself, by one that is its reply,
-- which is noted in the client's pass.
use Rattle.std.specs.Prelude.{◌≡◌, ◌⊎◌, ℕ, List, [], ◌∷◌, ◌++◌, MatchResult, Result}
use Rattle.rpc_reader.specs.Values.{CallValue, Body}
use Rattle.rpc_reader.specs.Texts.{reply_text}
use Rattle.nfs3_types.specs.declared.calls.NfsCall.{NfsCall}
use Rattle.server_requests.specs.Handling.{IsCallMessage, IsAnsweredAlone, IsRecorded}
use Rattle.server_passes.specs.PassValue.{PassValue}
use Rattle.journal_server.specs.declared.fault.CallFault.{CallFault}
use Rattle.journal_server.specs.declared.fault.CallFault.TheVariants as faults

-- the message isn't a call's
abbrev pub IsNoCall : List ℕ → Type 0
IsNoCall message = (head : CallValue) → ¬ IsCallMessage message head

-- the message is a call that is recorded
abbrev pub IsToRecord : List ℕ → Type 0
IsToRecord message = (head : CallValue) × (call : NfsCall) × IsCallMessage message head × IsRecorded head call

-- the message is a call that isn't recorded, and is answered so
abbrev pub IsAnsweredAs : List ℕ → List ℕ → Type 0
IsAnsweredAs message reply = (head : CallValue) × (body : Body) × IsCallMessage message head × IsAnsweredAlone head body × (reply ≡ reply_text head.xid body)

-- a pass with one exchange more
pub record IsNoted (old : PassValue) (message reply : List ℕ) (new : PassValue) : Type 0 where
  pub lane : new.lane ≡ old.lane
  pub behind : new.exchanges ≡ old.exchanges ++ record { message = message; reply = reply } ∷ []

-- a pass that knows what it knew
pub record IsAsBefore (old new : PassValue) : Type 0 where
  pub lane : new.lane ≡ old.lane
  pub same : new.exchanges ≡ old.exchanges

-- a call was answered
abbrev pub IsAnswered : PassValue → List ℕ → List ℕ → PassValue → Type 0
IsAnswered old message reply new = (IsAnsweredAs message reply × (new ≡ old)) ⊎ (IsToRecord message × IsNoted old message reply new)

-- why no reply came: but for the want of memory, a message that is no call is told so, and any other fault is that of a recorded call
abbrev pub MayStop : List ℕ → CallFault → Type 0
MayStop message faults.BadRecord = IsNoCall message
MayStop message faults.NoMemory = Unit {0}
MayStop message fault = IsToRecord message
