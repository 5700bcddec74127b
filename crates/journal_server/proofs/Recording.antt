-- a message of which a server found that it is recorded can be recorded
use Rattle.std.proofs.Common.{ℕ, List}
use Rattle.nfs3_types.specs.declared.calls.NfsCall.{NfsCall}
use Rattle.rpc_reader.specs.Values.{CallValue}
use Rattle.server_requests.specs.Handling.{IsCallMessage, IsRecorded}
use Rattle.server_requests.proofs.Asked.{asked_of_nfs}
use Rattle.recorder.specs.book_laws_specs.Steps.{IsRecordable}

pub can_record : (message : List ℕ) (call : NfsCall) → (head : CallValue) × IsCallMessage message head × IsRecorded head call → IsRecordable message call
can_record message call is =
    record { within = is.1.within; head = is.0; is_call = is.1.is_call; of_nfs = asked_of_nfs is.0 call is.2; inside = is.2.inside }
