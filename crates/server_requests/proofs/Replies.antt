-- A message gets the reply of the one call that it is.
use Rattle.std.proofs.Common.{◌≡◌, ℕ, List, Option, Some, None, Result, Ok, Err, subst}
use Rattle.std.specs.Prelude.{Vec, IfOk, IsOkAnd}
use Rattle.std.specs.declared.alloc.Global.{Global}
use Rattle.std.specs.declared.alloc.AllocError.{AllocError}
use Rattle.rpc_reader.specs.declared.fault.RpcFault.{RpcFault}
use Rattle.rpc_reader.specs.declared.call.CallHead.{CallHead}
use Rattle.rpc_reader.specs.Values.{CallValue}
use Rattle.rpc_reader.specs.Messages.{IsCall}
use Rattle.rpc_reader.specs.Views.{call_value}
use Rattle.server_requests.specs.Mounting.{IsReplyTo, IsMountReply}

module _ (message : List ℕ) (r : Result CallHead RpcFault) (found : IfOk r (λ call. IsCall message (call_value call)))
    (only : (v : CallValue) → IsCall message v → IsOkAnd r (λ call. call_value call ≡ v)) where
  -- the message is a call, and what is told of the call is told of the message
  replied : (head : CallHead) → r ≡ Ok head → (reply : Option (Vec ℕ Global)) → IsReplyTo (call_value head) reply → IsMountReply message reply
  replied head is (Some reply) h = (call_value head, subst (λ (r : Result CallHead RpcFault). IfOk r (λ call. IsCall message (call_value call))) is found, h)
  replied head is None h =
      λ v asks.
      let one : call_value head ≡ v = subst (λ (r : Result CallHead RpcFault). IsOkAnd r (λ call. call_value call ≡ v)) is (only v asks) in
      subst (λ (v : CallValue). IsReplyTo v None) one h

  pub call_replied : (head : CallHead) → r ≡ Ok head → (result : Result (Option (Vec ℕ Global)) AllocError) → IfOk result (IsReplyTo (call_value head)) → IfOk result (IsMountReply message)
  call_replied head is (Ok reply) h = replied head is reply h
  call_replied head is (Err fault) h = tt

  -- it isn't
  pub not_replied : (fault : RpcFault) → r ≡ Err fault → IsMountReply message None
  not_replied fault is = λ v asks. absurd (subst (λ (r : Result CallHead RpcFault). IsOkAnd r (λ call. call_value call ≡ v)) is (only v asks))
