-- A call is read exactly where the message is one.
use Rattle.std.proofs.Common.{◌≡◌, ℕ, ◌+◌, List, length, Result, Ok, Err, refl, sym, ap, ◌∙◌}
use Rattle.std.specs.Prelude.{IfOk, IfErr, IsOkAnd}
use Rattle.xdr_records.specs.Unread.{Unread, whole}
use Rattle.xdr_records.specs.Spelling.{Spells}
use Rattle.xdr_records.specs.Faults.{Stands}
use Rattle.xdr_records.specs.Kinds.{Tells, kind_reading}
use Rattle.xdr_records.proofs.Fronts.{left_at, pair_is}
use Rattle.xdr_records.proofs.KindLaws.{kind_found, kind_again, kind_fault, kind_fails}
use Rattle.rpc_reader.specs.declared.fault.RpcFault.{RpcFault}
use Rattle.rpc_reader.specs.declared.call.CallHead.{CallHead}
use Rattle.rpc_reader.specs.Values.{CallValue}
use Rattle.rpc_reader.specs.Views.{call_value}
use Rattle.rpc_reader.specs.Heads.{kind_of, CallStart, call_head}
use Rattle.rpc_reader.specs.Messages.{call_start, IsCall, CallFails}

-- a call of what stands before its arguments, and of them
abbrev with_args : CallStart → List ℕ → CallValue
with_args start args = record { xid = start.xid; program = start.program; version = start.version; procedure = start.procedure; flavor = start.flavor; args = args }

-- what a reader of the head answers
abbrev pub Reads : List ℕ → Unread → Result CallHead RpcFault → Type 0
Reads message new result = Tells (λ call. call_start (call_value call)) new result (kind_reading kind_of call_head (whole message))

abbrev pub HasArgs : Unread → Result CallHead RpcFault → Type 0
HasArgs new result = IfOk result (λ call. call.args.now ≡ new.rest)

pub call_found : (message : List ℕ) (new : Unread) (result : Result CallHead RpcFault) → Reads message new result → HasArgs new result → IfOk result (λ call. IsCall message (call_value call))
call_found message new (Ok call) reads args =
    let s = kind_found kind_of call_head (call_start (call_value call)) (whole message) new reads in
    record { front = s.front; back = new.rest; parts = s.parts; first = s.item; others = sym args }
call_found message new (Err fault) reads args = tt

-- what a message that is a call has in front
call_again : (message : List ℕ) (value : CallValue) (is : IsCall message value) → kind_reading kind_of call_head (whole message) ≡ Ok (call_start value, left_at (0 + length is.front) is.back)
call_again message value is =
    let s : Stands (λ head. Spells call_head head (call_start value)) (whole message) (left_at (0 + length is.front) is.back) = record { front = is.front; parts = is.parts; at = refl; item = is.first } in
    kind_again kind_of call_head (call_start value) (whole message) (left_at (0 + length is.front) is.back) s

pub call_only : (message : List ℕ) (new : Unread) (result : Result CallHead RpcFault) → Reads message new result → HasArgs new result → (value : CallValue) → IsCall message value → IsOkAnd result (λ call. call_value call ≡ value)
call_only message new (Ok call) reads args value is =
    let back = left_at (0 + length is.front) is.back in
    let same = pair_is {F = RpcFault} (call_start (call_value call)) (call_start value) new back (sym reads ∙ call_again message value is) in
    let args_are : call.args.now ≡ value.args = args ∙ ap (λ (u : Unread). u.rest) same.1 ∙ is.others in
    ap (λ (start : CallStart). with_args start call.args.now) same.0 ∙ ap (λ (bytes : List ℕ). with_args (call_start value) bytes) args_are
call_only message new (Err fault) reads args value is = let again = call_again message value is in absurd cc

pub call_fault : (message : List ℕ) (new : Unread) (result : Result CallHead RpcFault) → Reads message new result → IfErr result (λ fault. CallFails message fault)
call_fault message new (Ok call) reads = tt
call_fault message new (Err fault) reads = kind_fault kind_of call_head (whole message) fault reads

pub call_fails : (message : List ℕ) (new : Unread) (result : Result CallHead RpcFault) → Reads message new result → (fault : RpcFault) → CallFails message fault → result ≡ Err fault
call_fails message new (Ok call) reads fault h = let wrong = kind_fails kind_of call_head (whole message) h.0 h.1 in absurd cc
call_fails message new (Err found) reads fault h = let wrong = kind_fails kind_of call_head (whole message) h.0 h.1 in let is = h.2 in cc
