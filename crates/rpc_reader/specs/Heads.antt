-- Believed.
-- The layout of a call's head, RFC 5531, section 9.
use Rattle.std.specs.Prelude.{ℕ, zero, suc, Result, Ok, Err, ◌==◌, if◌then◌else◌}
use Rattle.xdr_records.specs.declared.fault.XdrFault.{XdrFault}
use Rattle.xdr_records.specs.declared.fault.XdrFault.TheVariants as xdr
use Rattle.xdr_records.specs.Grammar.{Grammar, ◌>>=◌}
use Rattle.xdr_records.specs.Grammar.Grammar.{one_word, one_opaque, named, nothing}
use Rattle.rpc_reader.specs.declared.fault.RpcFault.{RpcFault}
use Rattle.rpc_reader.specs.declared.fault.RpcFault.TheVariants.{Short, NotCall, BadVersion, BadEnum, AuthTooLong, Trailing}

-- The only opaque of a head is the body of a credential or a verifier; a head has no flag.
abbrev pub kind_of : XdrFault → RpcFault
kind_of xdr.Short = Short
kind_of xdr.BadFlag = BadEnum
kind_of xdr.TooLong = AuthTooLong
kind_of xdr.Trailing = Trailing

-- RFC 5531, section 8.2: struct opaque_auth, a flavor and at most 400 bytes; its value here is the flavor
unfoldable pub auth : Grammar RpcFault ℕ
auth = do
  flavor ← one_word
  body ← one_opaque 400
  nothing flavor

-- enum msg_type, of a message that is to be a call
abbrev pub call_type : ℕ → Result (Unit {0}) RpcFault
call_type zero = Ok tt
call_type (suc zero) = Err NotCall
call_type (suc (suc n)) = Err BadEnum

-- rpcvers is 2
abbrev pub two : ℕ → Result (Unit {0}) RpcFault
two n = if n == 2 then Ok tt else Err BadVersion

-- what stands before the arguments of a call
pub record CallStart : Type 0 where
  pub xid : ℕ
  pub program : ℕ
  pub version : ℕ
  pub procedure : ℕ
  pub flavor : ℕ

-- struct rpc_msg with struct call_body, up to the arguments
unfoldable pub call_head : Grammar RpcFault CallStart
call_head = do
  xid ← one_word
  type ← named call_type
  rpc ← named two
  program ← one_word
  version ← one_word
  procedure ← one_word
  flavor ← auth
  verifier ← auth
  nothing (record { xid = xid; program = program; version = version; procedure = procedure; flavor = flavor })
