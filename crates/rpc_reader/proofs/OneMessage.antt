-- A message says one thing: it is a call, or a reply, in one way.
use Rattle.std.proofs.Common.{◌≡◌, ℕ, ◌+◌, List, length, Ok, refl, sym, ap, subst, ◌∙◌}
use Rattle.xdr_records.specs.Unread.{Unread, whole}
use Rattle.xdr_records.specs.Spelling.{Spells}
use Rattle.xdr_records.specs.Faults.{Stands}
use Rattle.xdr_records.specs.Kinds.{kind_reading}
use Rattle.xdr_records.proofs.Fronts.{left_at, pair_is}
use Rattle.xdr_records.proofs.KindLaws.{kind_again}
use Rattle.rpc_reader.specs.declared.fault.RpcFault.{RpcFault}
use Rattle.rpc_reader.specs.Values.{CallValue, ReplyValue, Body}
use Rattle.rpc_reader.specs.Heads.{CallStart, call_head}
use Rattle.rpc_reader.specs.ReplyHeads.{Status, ReplyStart, reply_head}
use Rattle.rpc_reader.specs.Heads as heads
use Rattle.rpc_reader.specs.ReplyHeads.Status.{results_follow, final}
use Rattle.rpc_reader.specs.Messages.{call_start, IsCall, IsEnding, IsReply}

with_args : CallStart → List ℕ → CallValue
with_args start args = record { xid = start.xid; program = start.program; version = start.version; procedure = start.procedure; flavor = start.flavor; args = args }

call_again : (message : List ℕ) (value : CallValue) (is : IsCall message value) → kind_reading heads.kind_of call_head (whole message) ≡ Ok (call_start value, left_at (0 + length is.front) is.back)
call_again message value is =
    let s : Stands (λ head. Spells call_head head (call_start value)) (whole message) (left_at (0 + length is.front) is.back) = record { front = is.front; parts = is.parts; at = refl; item = is.first } in
    kind_again heads.kind_of call_head (call_start value) (whole message) (left_at (0 + length is.front) is.back) s

pub one_head : (message : List ℕ) (v w : CallValue) → IsCall message v → IsCall message w → v ≡ w
unfolding with_args
one_head message v w is other =
    let same = pair_is {F = RpcFault} (call_start v) (call_start w) (left_at (0 + length is.front) is.back) (left_at (0 + length other.front) other.back) (sym (call_again message v is) ∙ call_again message w other) in
    let args_are : v.args ≡ w.args = sym is.others ∙ ap (λ (u : Unread). u.rest) same.1 ∙ other.others in
    ap (λ (start : CallStart). with_args start v.args) same.0 ∙ ap (λ (bytes : List ℕ). with_args (call_start w) bytes) args_are

reply_again : (message : List ℕ) (value : ReplyValue) (is : IsReply message value) → kind_reading heads.kind_of reply_head (whole message) ≡ Ok (record { xid = value.xid; status = is.0 }, left_at (0 + length is.1.front) is.1.back)
reply_again message value is =
    let start : ReplyStart = record { xid = value.xid; status = is.0 } in
    let s : Stands (λ head. Spells reply_head head start) (whole message) (left_at (0 + length is.1.front) is.1.back) = record { front = is.1.front; parts = is.1.parts; at = refl; item = is.1.first } in
    kind_again heads.kind_of reply_head start (whole message) (left_at (0 + length is.1.front) is.1.back) s

one_ending : (status : Status) (rest : List ℕ) (a b : Body) → IsEnding status rest a → IsEnding status rest b → a ≡ b
one_ending results_follow rest a b h k = h ∙ sym k
one_ending (final body) rest a b h k = h.1 ∙ sym k.1

pub one_body : (message : List ℕ) (v w : ReplyValue) → IsReply message v → IsReply message w → v.body ≡ w.body
one_body message v w is other =
    let start : ReplyStart = record { xid = v.xid; status = is.0 } in
    let start' : ReplyStart = record { xid = w.xid; status = other.0 } in
    let same = pair_is {F = RpcFault} start start' (left_at (0 + length is.1.front) is.1.back) (left_at (0 + length other.1.front) other.1.back) (sym (reply_again message v is) ∙ reply_again message w other) in
    let status : is.0 ≡ other.0 = ap (λ (s : ReplyStart). s.status) same.0 in
    let rest : is.1.back ≡ other.1.back = ap (λ (u : Unread). u.rest) same.1 in
    let at_status = subst (λ (s : Status). IsEnding s is.1.back v.body) status is.1.others in
    let at_rest = subst (λ (xs : List ℕ). IsEnding other.0 xs v.body) rest at_status in
    one_ending other.0 other.1.back v.body w.body at_rest other.1.others
