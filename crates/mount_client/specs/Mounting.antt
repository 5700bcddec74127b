-- For the prover, and for callers.
-- How a client asks the MOUNT service of version 3, and what it is answered: RFC 1813, section 5 and appendix I.
use Rattle.std.specs.Prelude.{◌≡◌, ◌<◌, ℕ, zero, suc, ◌==◌, ◌||◌, Bool, List, [], ◌∷◌, length, Vec, Result, Ok, Err}
use Rattle.std.specs.declared.alloc.Global.{Global}
use Rattle.std.specs.List.{list_any}
use Rattle.xdr_records.specs.declared.fault.XdrFault.{XdrFault}
use Rattle.xdr_records.specs.Grammar.{Grammar, ◌>>=◌, either}
use Rattle.xdr_records.specs.Grammar.Grammar.{one_word, one_opaque, nothing}
use Rattle.xdr_records.specs.Spelling.{Spells}
use Rattle.rpc_reader.specs.Messages.{IsCall}
use Rattle.mount_client.specs.declared.fault.MountFault.{MountFault}
use Rattle.mount_client.specs.declared.fault.MountFault.TheVariants as faults

-- ---- what is asked

-- section 5.1.5, dirpath: at most MNTPATHLEN bytes
abbrev pub dirpath : Grammar XdrFault (List ℕ)
dirpath = one_opaque 1024

-- sections 5.1.2, 5.2.1 and 5.2.3: the message is a call of this procedure, of program 100005 in version 3, with this path as its arguments;
-- its credential is of AUTH_SYS, whose flavor is 1, and its transaction number is 1
abbrev pub IsMountCall : ℕ → List ℕ → List ℕ → Type 0
IsMountCall procedure path message =
    (args : List ℕ) × IsCall message (record { xid = 1; program = 100005; version = 3; procedure = procedure; flavor = 1; args = args }) × Spells dirpath args path

-- the message of such a call, or none where the path is too long
abbrev pub IsAsked : ℕ → List ℕ → Result (Vec ℕ Global) MountFault → Type 0
IsAsked procedure path (Ok message) = IsMountCall procedure path message.items
IsAsked procedure path (Err faults.PathTooLong) = 1024 < length path
IsAsked procedure path (Err faults.NoMemory) = Unit {0}
IsAsked procedure path (Err other) = ⊥

-- ---- what is answered

-- section 5.1.5, fhandle3: at most FHSIZE3 bytes
abbrev pub fhandle3 : Grammar XdrFault (List ℕ)
fhandle3 = one_opaque 64

-- RFC 4506, section 4.13, the items of a counted array: so many words
unfoldable pub words : ℕ → Grammar XdrFault (List ℕ)
words zero = nothing []
words (suc count) = one_word >>= λ word. words count >>= λ others. nothing (word ∷ others)

-- RFC 5531, section 8.2: AUTH_NONE is 0, and AUTH_SYS is 1
abbrev pub is_ours : ℕ → Bool
is_ours flavor = flavor == 0 || flavor == 1

-- section 5.1.5, the flavors of credentials that the export takes: whether one of them is AUTH_NONE or AUTH_SYS. A server that tells none has
-- no opinion.
abbrev pub flavors : ℕ → Grammar XdrFault Bool
flavors count = words count >>= λ told. nothing (count == 0 || list_any is_ours told)

-- what MNT results in: the root's handle, with whether the export takes what is asked with, or a status that is no success
pub data MountResult : Type 0 where
  mounted : List ℕ → Bool → MountResult
  failed : ℕ → MountResult

-- section 5.1.5, mountres3_ok: the handle, and the flavors behind their count
abbrev pub mountres3_ok : Grammar XdrFault MountResult
mountres3_ok = fhandle3 >>= λ root. one_word >>= λ count. flavors count >>= λ is_taken. nothing (mounted root is_taken)

-- section 5.1.5, mountres3: behind MNT3_OK, which is 0, stands mountres3_ok, and nothing behind another status
unfoldable pub mountres3 : Grammar XdrFault MountResult
mountres3 = one_word >>= λ status. either (status == 0) mountres3_ok (nothing (failed status))
