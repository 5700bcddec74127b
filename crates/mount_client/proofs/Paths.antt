-- The message of a call of MOUNT is that call.
use Rattle.std.proofs.Common.{◌≡◌, ℕ, ◌≤◌, List, [], ◌++◌, length, sym, ap, subst, ◌∙◌, arith}
use Rattle.xdr_records.specs.Texts.{opaque_text}
use Rattle.xdr_records.proofs.Written.{opaque_spelled}
use Rattle.rpc_reader.specs.Values.{CallValue}
use Rattle.rpc_reader.specs.Messages.{IsCall}
use Rattle.mount_client.specs.Mounting.{IsMountCall}

-- the call whose arguments these are
abbrev mounting : ℕ → List ℕ → CallValue
mounting procedure args = record { xid = 1; program = 100005; version = 3; procedure = procedure; flavor = 1; args = args }

-- what was appended to nothing, in two parts
pub joined : (head start front message args : List ℕ) → start ≡ [] → front ≡ start ++ head → message ≡ front ++ args → message ≡ head ++ args
joined head start front message args empty first second =
    let begun : front ≡ head = first ∙ ap (λ (xs : List ℕ). xs ++ head) empty in
    second ∙ ap (λ (xs : List ℕ). xs ++ args) begun

-- a head that any arguments may follow, and behind it the path
pub is_asked : (procedure : ℕ) (path head start front message : List ℕ) → length path ≤ 1024 → ((args : List ℕ) → IsCall (head ++ args) (record { xid = 1; program = 100005; version = 3; procedure = procedure; flavor = 1; args = args })) → start ≡ [] → front ≡ start ++ head → message ≡ front ++ opaque_text path → IsMountCall procedure path message
is_asked procedure path head start front message within spelled empty first second =
    let args = opaque_text path in
    let all : message ≡ head ++ args = joined head start front message args empty first second in
    (args, subst (λ (xs : List ℕ). IsCall xs (mounting procedure args)) (sym all) (spelled args), opaque_spelled 1024 path (omega (arith, within)) within)
