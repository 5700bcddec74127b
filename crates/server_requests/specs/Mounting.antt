-- For the prover, and for callers.
-- Which calls are answered ahead of a server, and how: the MOUNT service of version 3 (RFC 1813, section 5), and what NFS of version 3 tells
-- of rights and limits (section 3.3). That every right is given, and whatever a handle names, is this project's own.
use Rattle.std.specs.Prelude.{◌≡◌, ◌⊎◌, ◌==◌, ◌&&◌, ◌||◌, not, nat_lt, ℕ, Bool, false, List, [], if◌then◌else◌, codes, bytes_eq, Option, Some, None, Vec, IsTrue, MatchBool}
use Rattle.std.specs.declared.alloc.Global.{Global}
use Rattle.nfs3_types.specs.Procedures.{nfs_program, nfs_version}
use Rattle.xdr_records.specs.declared.fault.XdrFault.{XdrFault}
use Rattle.xdr_records.specs.Grammar.{Grammar, ◌>>=◌, either}
use Rattle.xdr_records.specs.Grammar.Grammar.{one_word, one_opaque, nothing}
use Rattle.xdr_records.specs.Spelling.{Spells}
use Rattle.xdr_records.specs.Texts.{word_text, flag_text}
use Rattle.rpc_reader.specs.Values.{CallValue, Body, sealed_flavor}
use Rattle.rpc_reader.specs.Values.Body.{success, prog_mismatch, proc_unavail, garbage_args}
use Rattle.rpc_reader.specs.Messages.{IsCall}
use Rattle.rpc_reader.specs.Texts.{reply_text}
use Rattle.server_requests.specs.Results.{root_text, exports_text, rights_text, space_text, transfers_text, names_text}

-- ---- which calls

-- ACCESS, FSSTAT, FSINFO and PATHCONF of NFS, unless the credential is of RPCSEC_GSS
abbrev pub asks_for_limits : CallValue → Bool
asks_for_limits head =
    head.program == nfs_program && head.version == nfs_version && not (head.flavor == sealed_flavor) && (head.procedure == 4 || head.procedure == 18 || head.procedure == 19 || head.procedure == 20)

-- or any call of the MOUNT service
abbrev pub is_mountable : CallValue → Bool
is_mountable head = head.program == 100005 || asks_for_limits head

-- ---- the arguments of each procedure, and behind them what it results in

-- section 5.1.5, dirpath: at most MNTPATHLEN bytes
abbrev pub dirpath : Grammar XdrFault (List ℕ)
dirpath = one_opaque 1024

-- section 2.6, nfs_fh3: at most NFS3_FHSIZE bytes
abbrev pub handle : Grammar XdrFault (List ℕ)
handle = one_opaque 64

-- section 5.2.1: the root alone can be mounted; of another path the status stands alone, MNT3ERR_NOENT
abbrev pub path_results : List ℕ → List ℕ
path_results path = if bytes_eq path (codes "/") then root_text else word_text 2

unfoldable pub mount_procedure : ℕ → Grammar XdrFault (List ℕ)
mount_procedure procedure =
    -- section 5.2.0, NULL
    either (procedure == 0) (nothing [])
    -- section 5.2.1, MNT
    (either (procedure == 1) (dirpath >>= λ path. nothing (path_results path))
    -- section 5.2.2, DUMP: no mounts are noted
    (either (procedure == 2) (nothing (flag_text false))
    -- section 5.2.3, UMNT
    (either (procedure == 3) (dirpath >>= λ path. nothing [])
    -- section 5.2.4, UMNTALL
    (either (procedure == 4) (nothing [])
    -- section 5.2.5, EXPORT, the last
    (nothing exports_text)))))

-- a handle, whatever it names
abbrev pub of_a_handle : List ℕ → Grammar XdrFault (List ℕ)
of_a_handle results = handle >>= λ object. nothing results

-- section 3.3.4: all rights are given that were asked for
abbrev pub of_rights : Grammar XdrFault (List ℕ)
of_rights = handle >>= λ object. one_word >>= λ rights. nothing (rights_text rights)

unfoldable pub nfs_procedure : ℕ → Grammar XdrFault (List ℕ)
nfs_procedure procedure =
    -- section 3.3.4, ACCESS
    either (procedure == 4) of_rights
    -- section 3.3.18, FSSTAT
    (either (procedure == 18) (of_a_handle space_text)
    -- section 3.3.19, FSINFO
    (either (procedure == 19) (of_a_handle transfers_text)
    -- section 3.3.20, PATHCONF, the last
    (of_a_handle names_text)))

-- ---- the answers

-- arguments that are a procedure's get its results, and all others GARBAGE_ARGS (RFC 5531, section 9)
abbrev pub IsServed : Grammar XdrFault (List ℕ) → List ℕ → Body → Type 0
IsServed procedure args body =
    ((results : List ℕ) × Spells procedure args results × (body ≡ success results))
    ⊎ (((results : List ℕ) → ¬ Spells procedure args results) × (body ≡ garbage_args))

-- the MOUNT service has version 3 alone, and procedures up to 5
abbrev pub IsMountAnswer : CallValue → Body → Type 0
IsMountAnswer head body =
    MatchBool (not (head.version == 3)) (body ≡ prog_mismatch 3 3)
    (MatchBool (nat_lt 5 head.procedure) (body ≡ proc_unavail)
    (IsServed (mount_procedure head.procedure) head.args body))

abbrev pub IsAnswer : CallValue → Body → Type 0
IsAnswer head body = MatchBool (head.program == 100005) (IsMountAnswer head body) (IsServed (nfs_procedure head.procedure) head.args body)

-- the reply to a call with this head is the one of its answer
abbrev pub IsReplyOf : CallValue → List ℕ → Type 0
IsReplyOf head reply = IsTrue (is_mountable head) × ((body : Body) × IsAnswer head body × (reply ≡ reply_text head.xid body))

-- what a call with this head gets, or none where the call is left to the server
abbrev pub IsReplyTo : CallValue → Option (Vec ℕ Global) → Type 0
IsReplyTo head (Some reply) = IsReplyOf head reply.items
IsReplyTo head None = ¬ IsTrue (is_mountable head)

-- the message is a call that is answered so ahead of the server
abbrev pub IsMountedAs : List ℕ → List ℕ → Type 0
IsMountedAs message reply = (head : CallValue) × IsCall message head × IsReplyOf head reply

-- the message is no such call: it is left to the server
abbrev pub IsLeft : List ℕ → Type 0
IsLeft message = (head : CallValue) → IsCall message head → ¬ IsTrue (is_mountable head)

-- what a message gets: a call's reply, or none
abbrev pub IsMountReply : List ℕ → Option (Vec ℕ Global) → Type 0
IsMountReply message (Some reply) = IsMountedAs message reply.items
IsMountReply message None = IsLeft message
