-- which messages are calls
use Rattle.std.proofs.Common.{◌≡◌, ℕ, List, Option, Some, None, Result, Ok, Err, sym, subst, arith}
use Rattle.std.specs.Prelude.{◌<◌, ◌≤◌, length, IfOk, IsOkAnd}
use Rattle.xdr_records.specs.Record.{record_limit}
use Rattle.rpc_reader.specs.declared.fault.RpcFault.{RpcFault}
use Rattle.rpc_reader.specs.declared.call.CallHead.{CallHead}
use Rattle.rpc_reader.specs.Values.{CallValue}
use Rattle.rpc_reader.specs.Messages.{IsCall}
use Rattle.rpc_reader.specs.Views.{call_value}
use Rattle.journal.specs.Exactly.{IsOnly, MeansNothing}
use Rattle.server_requests.specs.Handling.{IsCallMessage}

module _ (message : List ℕ) (r : Result CallHead RpcFault) (found : IfOk r (λ call. IsCall message (call_value call)))
    (only : (v : CallValue) → IsCall message v → IsOkAnd r (λ call. call_value call ≡ v)) where
  only_head : (head : CallHead) → r ≡ Ok head → (v : CallValue) → IsCallMessage message v → v ≡ call_value head
  only_head head is v asks = sym (subst (λ (r : Result CallHead RpcFault). IsOkAnd r (λ call. call_value call ≡ v)) is (only v asks.is_call))

  pub is_head : (head : CallHead) → r ≡ Ok head → length message ≤ record_limit → IsOnly (IsCallMessage message) (call_value head)
  is_head head is fits = record {
    means = record { within = fits; is_call = subst (λ (r : Result CallHead RpcFault). IfOk r (λ call. IsCall message (call_value call))) is found };
    only = only_head head is;
  }

  pub no_head : (fault : RpcFault) → r ≡ Err fault → MeansNothing (IsCallMessage message)
  no_head fault is v asks = subst (λ (r : Result CallHead RpcFault). IsOkAnd r (λ call. call_value call ≡ v)) is (only v asks.is_call)
