-- The message of a call is that call (RFC 5531, section 9).
use Rattle.std.proofs.Common.{◌≡◌, ℕ, ◌<◌, ◌^◌, List, [], ◌++◌, length, refl, sym, lit<, lit≤, arith}
use Rattle.std.specs.Prelude.{codes}
use Rattle.std.proofs.lemmas.List.{append-nil, length-append}
use Rattle.xdr_records.specs.Spelling.{Spells, Joined}
use Rattle.xdr_records.specs.Texts.{word_text, opaque_text}
use Rattle.xdr_records.proofs.Written.{word_spelled, opaque_spelled, length-word_text, length-opaque_text}
use Rattle.nfs3_types.specs.declared.calls.NfsCall.{NfsCall}
use Rattle.nfs3_types.specs.declared.calls.NfsCall.TheVariants as calls
use Rattle.nfs3_types.specs.Procedures.{procedure_called}
use Rattle.nfs3_msgs.specs.Messages.{arguments_text}
use Rattle.rpc_reader.specs.Heads.{auth, call_head}
use Rattle.rpc_reader.specs.Messages.{call_start, IsCall}
use Rattle.rpc_client.specs.declared.asking.Asked.{Asked}
use Rattle.rpc_client.specs.declared.asking.Credential.{Credential}
use Rattle.rpc_client.specs.Asking.{body_text, credential_text, verifier_text, asked_text, head_text, called, asked_by, message_text}

pub body_fits : (who : Credential) → length (body_text who) ≡ 28
unfolding body_text
body_fits who =
    let name = length-opaque_text (codes "nfsbench") in
    omega (
      arith,
      length-append (word_text 0) (opaque_text (codes "nfsbench") ++ (word_text who.uid ++ (word_text who.gid ++ word_text 0))),
      length-append (opaque_text (codes "nfsbench")) (word_text who.uid ++ (word_text who.gid ++ word_text 0)),
      length-append (word_text who.uid) (word_text who.gid ++ word_text 0),
      length-append (word_text who.gid) (word_text 0),
      name,
      length-word_text 0,
      length-word_text who.uid,
      length-word_text who.gid,
    )

-- one item, and others after it
joined : {First Others : List ℕ → Type 0} (front back : List ℕ) → First front → Others back → Joined First Others (front ++ back)
joined front back first others = record { front = front; back = back; parts = refl; first = first; others = others }

-- the last item, after which comes the value
last : {A : Type 0} {First : List ℕ → Type 0} (x : A) (text : List ℕ) → First text → Joined First (λ back. (back ≡ []) × (x ≡ x)) text
last x text first = record { front = text; back = []; parts = sym (append-nil text); first = first; others = (refl, refl) }

credential_spelled : (who : Credential) → Spells auth (credential_text who) 1
unfolding auth credential_text
credential_spelled who =
    (1, joined (word_text 1) (opaque_text (body_text who)) (word_spelled 1 (lit< tt)) (body_text who, last 1 (opaque_text (body_text who)) (opaque_spelled 400 (body_text who) (omega (arith, body_fits who)) (omega (arith, body_fits who)))))

verifier_spelled : Spells auth verifier_text 0
unfolding auth verifier_text
verifier_spelled = (0, joined (word_text 0) (opaque_text []) (word_spelled 0 (lit< tt)) ([], last 0 (opaque_text []) (opaque_spelled 400 [] (lit< tt) (lit≤ tt))))

head_spelled : (xid : ℕ) (who : Credential) (asked : Asked) → xid < 2 ^ 32 → asked.program < 2 ^ 32 → asked.version < 2 ^ 32 → asked.procedure < 2 ^ 32
    → Spells call_head (head_text xid who asked) (call_start (called xid asked []))
unfolding call_head head_text asked_text
head_spelled xid who asked xid_fits program_fits version_fits procedure_fits =
    let auths = credential_text who ++ verifier_text in
    let asks = word_text asked.procedure ++ auths in
    let versions = word_text asked.version ++ asks in
    let programs = word_text asked.program ++ versions in (
      xid,
      joined (word_text xid) (word_text 0 ++ (word_text 2 ++ programs)) (word_spelled xid xid_fits) (
        tt,
        joined (word_text 0) (word_text 2 ++ programs) (0, word_spelled 0 (lit< tt), refl) (
          tt,
          joined (word_text 2) programs (2, word_spelled 2 (lit< tt), refl) (
            asked.program,
            joined (word_text asked.program) versions (word_spelled asked.program program_fits) (
              asked.version,
              joined (word_text asked.version) asks (word_spelled asked.version version_fits) (
                asked.procedure,
                joined (word_text asked.procedure) auths (word_spelled asked.procedure procedure_fits) (
                  1,
                  joined (credential_text who) verifier_text (credential_spelled who)
                      (0, last (call_start (called xid asked [])) verifier_text verifier_spelled),
                ),
              ),
            ),
          ),
        ),
      ),
    )

-- a head with any arguments after it is a call
pub call_spelled : (xid : ℕ) (who : Credential) (asked : Asked) → xid < 2 ^ 32 → asked.program < 2 ^ 32 → asked.version < 2 ^ 32 → asked.procedure < 2 ^ 32
    → (args : List ℕ) → IsCall (head_text xid who asked ++ args) (called xid asked args)
call_spelled xid who asked xid_fits program_fits version_fits procedure_fits args =
    joined (head_text xid who asked) args (head_spelled xid who asked xid_fits program_fits version_fits procedure_fits) refl

number_fits : (call : NfsCall) → procedure_called call < 2 ^ 32
number_fits (calls.GetAttr a) = lit< tt
number_fits (calls.SetAttr a) = lit< tt
number_fits (calls.Lookup a) = lit< tt
number_fits (calls.ReadLink a) = lit< tt
number_fits (calls.Read a) = lit< tt
number_fits (calls.Write a) = lit< tt
number_fits (calls.Create a) = lit< tt
number_fits (calls.MkDir a) = lit< tt
number_fits (calls.SymLink a) = lit< tt
number_fits (calls.Remove a) = lit< tt
number_fits (calls.RmDir a) = lit< tt
number_fits (calls.Rename a) = lit< tt
number_fits (calls.ReadDir a) = lit< tt
number_fits (calls.ReadDirPlus a) = lit< tt
number_fits (calls.Commit a) = lit< tt

pub message_spelled : (xid : ℕ) (who : Credential) (call : NfsCall) → xid < 2 ^ 32 → IsCall (message_text xid who call) (called xid (asked_by call) (arguments_text call))
message_spelled xid who call fits = call_spelled xid who (asked_by call) fits (lit< tt) (lit< tt) (number_fits call) (arguments_text call)
