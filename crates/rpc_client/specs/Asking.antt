-- For the prover, and for callers.
-- The message of a call with a credential of AUTH_SYS: RFC 5531, sections 8.2 and 9 and appendix A; RFC 1813, section 3.3.
use Rattle.std.specs.Prelude.{ℕ, List, [], ◌++◌, codes}
use Rattle.xdr_records.specs.Texts.{word_text, opaque_text}
use Rattle.nfs3_types.specs.declared.calls.NfsCall.{NfsCall}
use Rattle.nfs3_types.specs.Procedures.{nfs_program, nfs_version, procedure_called}
use Rattle.nfs3_msgs.specs.Messages.{arguments_text}
use Rattle.rpc_reader.specs.Values.{CallValue}
use Rattle.rpc_client.specs.declared.asking.Asked.{Asked}
use Rattle.rpc_client.specs.declared.asking.Credential.{Credential}

-- appendix A, struct authsys_parms: a stamp of 0, the machine's name, user and group, and no further groups
unfoldable pub body_text : Credential → List ℕ
body_text who = word_text 0 ++ (opaque_text (codes "nfsbench") ++ (word_text who.uid ++ (word_text who.gid ++ word_text 0)))

-- section 8.2, struct opaque_auth: a credential of AUTH_SYS, whose flavor is 1, and a verifier of AUTH_NONE, whose flavor is 0, with no bytes
unfoldable pub credential_text : Credential → List ℕ
credential_text who = word_text 1 ++ opaque_text (body_text who)

unfoldable pub verifier_text : List ℕ
verifier_text = word_text 0 ++ opaque_text []

-- section 9, struct call_body up to the arguments: rpcvers 2, the program, its version and the procedure, credential and verifier
unfoldable pub asked_text : Credential → Asked → List ℕ
asked_text who asked =
    word_text 2 ++ (word_text asked.program ++ (word_text asked.version ++ (word_text asked.procedure ++ (credential_text who ++ verifier_text))))

-- section 9, struct rpc_msg of CALL, up to the arguments
unfoldable pub head_text : ℕ → Credential → Asked → List ℕ
head_text xid who asked = word_text xid ++ (word_text 0 ++ asked_text who asked)

-- the call that such a head begins, with these arguments; the flavor of AUTH_SYS is 1
abbrev pub called : ℕ → Asked → List ℕ → CallValue
called xid asked args =
    record { xid = xid; program = asked.program; version = asked.version; procedure = asked.procedure; flavor = 1; args = args }

-- what a call of NFS version 3 asks for
abbrev pub asked_by : NfsCall → Asked
asked_by call = record { program = nfs_program; version = nfs_version; procedure = procedure_called call }

-- its message: a head, and after it the arguments
abbrev pub message_text : ℕ → Credential → NfsCall → List ℕ
message_text xid who call = head_text xid who (asked_by call) ++ arguments_text call
