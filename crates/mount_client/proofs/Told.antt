-- A root that is told of a reply to the call.
use Rattle.std.proofs.Common.{ℕ, List, Result, Ok, Err}
use Rattle.std.specs.Prelude.{IfOk}
use Rattle.nfs3_types.specs.declared.bytes.FileHandle.{FileHandle}
use Rattle.rpc_connection.specs.Answers.{IsReplyTo}
use Rattle.mount_client.specs.declared.fault.MountFault.{MountFault}
use Rattle.mount_client.specs.Hearing.{IsHeard, IsRootTold}

pub root_told : (message : List ℕ) (result : Result FileHandle MountFault) → IsReplyTo 1 message → IsHeard message result → IfOk result (λ root. IsRootTold root)
root_told message (Ok root) is h = (message, is, h)
root_told message (Err fault) is h = tt
