-- For the prover, and for callers.
-- Which exchanges of a walk are noted: those that give handles to a client, LOOKUP and READDIRPLUS (RFC 1813, sections 3.3.3 and 3.3.17).
use Rattle.std.specs.Prelude.{◌≡◌, ℕ, ◌==◌, ◌&&◌, ◌||◌, Bool, true, false, if◌then◌else◌, List, [], ◌∷◌, Option, Some, None, MatchBool}
use Rattle.nfs3_types.specs.declared.calls.NfsCall.{NfsCall}
use Rattle.nfs3_types.specs.declared.procedures.Procedure.TheVariants.{Lookup, ReadDirPlus}
use Rattle.nfs3_types.specs.declared.replies.NfsReply.{NfsReply}
use Rattle.nfs3_types.specs.declared.status.Failure.{Failure}
use Rattle.nfs3_types.specs.Procedures.{number, procedure_called, failure_in}
use Rattle.nfs3_msgs.specs.Messages.{IsResult}
use Rattle.rpc_reader.specs.Values.Body.{success}
use Rattle.rpc_reader.specs.Messages.{IsReply}
use Rattle.rpc_client.specs.declared.asking.Credential.{Credential}
use Rattle.rpc_client.specs.Asking.{message_text}
use Rattle.walk_accounts.specs.declared.exchange.Exchange.{Exchange}
use Rattle.walk_accounts.specs.Accounts.{IsTold}
use Rattle.export_walk.specs.declared.noting.NotedExchange.{NotedExchange}
use Rattle.export_walk.specs.declared.walking.WalkedExport.{WalkedExport}

-- ---- which

abbrev pub gives_handles : ℕ → Bool
gives_handles procedure = procedure == number Lookup || procedure == number ReadDirPlus

abbrev pub is_success : Option Failure → Bool
is_success None = true
is_success (Some failure) = false

-- a LOOKUP or a READDIRPLUS that succeeded
abbrev pub is_noted : NfsCall → NfsReply → Bool
is_noted call reply = gives_handles (procedure_called call) && is_success (failure_in reply)

abbrev pub noted_if : Bool → NotedExchange → List NotedExchange
noted_if is_due exchange = if is_due then exchange ∷ [] else []

-- ---- what is noted of them

-- the message is a reply of success, with this result of the procedure
abbrev pub IsAnswer : ℕ → List ℕ → NfsReply → Type 0
IsAnswer procedure message reply =
    (xid : ℕ) × (results : List ℕ) × IsReply message (record { xid = xid; body = success results }) × IsResult procedure results reply

-- the messages of an exchange: that of the call, and one that is the reply to it
abbrev pub AreMessages : Credential → NfsCall → NfsReply → NotedExchange → Type 0
AreMessages who call reply messages =
    (xid : ℕ) × (results : List ℕ) × (messages.call.items ≡ message_text xid who call) × IsReply messages.reply.items (record { xid = xid; body = success results }) × IsResult (procedure_called call) results reply

-- the messages of an exchange come first, and others behind them
abbrev pub ComeFirst : Credential → Exchange → (List NotedExchange → Type 0) → List NotedExchange → Type 0
ComeFirst who e Others [] = ⊥
ComeFirst who e Others (messages ∷ others) = AreMessages who e.call e.reply messages × Others others

-- of these exchanges, those that are to be noted are, in order, and nothing else is
abbrev pub AreNoted : Credential → List Exchange → List NotedExchange → Type 0
AreNoted who [] noted = noted ≡ []
AreNoted who (e ∷ exchanges) noted =
    MatchBool (is_noted e.call e.reply) (ComeFirst who e (AreNoted who exchanges) noted) (AreNoted who exchanges noted)

-- the tree of an export with this root is what some exchanges say, and noted are those of them that are to be
abbrev pub IsWalked : List ℕ → Credential → WalkedExport → Type 0
IsWalked root who walked = (exchanges : List Exchange) × IsTold root exchanges walked.start × AreNoted who exchanges walked.noted.items
