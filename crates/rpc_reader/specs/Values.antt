-- Believed.
-- What the head of a call and of a reply say, RFC 5531, section 9.
use Rattle.std.specs.Prelude.{ℕ, List}

-- the flavor of RPCSEC_GSS, which hides a call's arguments: RFC 5531, section 8.2, and RFC 2203
abbrev pub sealed_flavor : ℕ
sealed_flavor = 6

-- struct call_body, with its arguments; flavor is that of the credential
pub record CallValue : Type 0 where
  pub xid : ℕ
  pub program : ℕ
  pub version : ℕ
  pub procedure : ℕ
  pub flavor : ℕ
  pub args : List ℕ

-- what a reply says: union accepted_reply and union rejected_reply
pub data Body : Type 0 where
  success : List ℕ → Body
  prog_unavail : Body
  prog_mismatch : ℕ → ℕ → Body
  proc_unavail : Body
  garbage_args : Body
  system_err : Body
  rpc_mismatch : ℕ → ℕ → Body
  auth_error : ℕ → Body

-- a reply
pub record ReplyValue : Type 0 where
  pub xid : ℕ
  pub body : Body
