-- For the prover, and for callers.
-- The fault of a call, item by item: what the code's private functions say to the prover.
use Rattle.std.specs.Prelude.{◌≡◌, ◌==◌, nat_lt, ℕ, if◌then◌else◌, List, [], length, Option, Some, None, option_map, Result, Ok, Err}
use Rattle.std.specs.List.{AllByRecursion}
use Rattle.nfs3_types.specs.declared.calls.NfsCall.{NfsCall}
use Rattle.nfs3_types.specs.declared.replies.NfsReply.{NfsReply}
use Rattle.nfs3_types.specs.declared.replies.Outcome.{Outcome}
use Rattle.nfs3_types.specs.declared.replies.Outcome.TheVariants as outcomes
use Rattle.rpc_reader.specs.Values.{CallValue, Body, sealed_flavor}
use Rattle.rpc_reader.specs.Messages.{IsCall}
use Rattle.xdr_records.specs.Unread.{At}
use Rattle.nfs3_msgs.specs.nfs3_values_specs.declared.fault.Kind.{Kind}
use Rattle.nfs3_msgs.specs.Messages.{arguments_of, result_of}
use Rattle.nfs_history.specs.declared.fault.Which.{Which}
use Rattle.nfs_history.specs.declared.fault.CallFault.{CallFault}
use Rattle.nfs_history.specs.declared.fault.CallFault.TheVariants as faults
use Rattle.nfs_history.specs.declared.fault.HistoryFault as joined
use Rattle.nfs_history.specs.declared.fault.HistoryFault.TheVariants as joined_faults
use Rattle.nfs_history.specs.declared.judging.Stop.{Stop}
use Rattle.nfs_history.specs.declared.judging.Stop.TheVariants as stops
use Rattle.nfs_history.specs.declared.recorded.RecordedCall.{RecordedCall}
use Rattle.nfs_history.specs.JoinedFaults.{of_call}
use Rattle.history_file.specs.Event.{Event}
use Rattle.nfs_history.specs.Calls.{CallEvent, calls_of}
use Rattle.nfs_history.specs.Standing.{EachMayFollow}
use Rattle.nfs3_types.specs.Procedures.{is_judged}
use Rattle.nfs_history.specs.Effects.{Says, results_of, has_no_effect}
use Rattle.nfs_history.specs.History.{AreRecorded}
use Rattle.nfs_history.specs.Outside.{outside}
use Rattle.nfs_history.specs.CallFaults.{which_left_out}

-- MKNOD or LINK that wasn't answered by a failure; a result without a status isn't one
abbrev pub left_out : ℕ → Which → Option (List ℕ) → CallFault
left_out n which None = faults.Outside n which
left_out n which (Some results) = if nat_lt (length results) 4 then faults.BadResult n else faults.Outside n which

-- what is outside the model where the call came out like this
abbrev pub outside_fault : ℕ → NfsCall → Option Outcome → Option CallFault
outside_fault n call outcome = option_map (λ which. faults.Outside n which) (outside call outcome)

-- where the result is read: a call and a result that lie outside the model
abbrev pub answered_fault : ℕ → NfsCall → Result NfsReply (At Kind) → Option CallFault
answered_fault n call (Ok answer) = outside_fault n call (Some (outcomes.Received answer))
answered_fault n call (Err fault) = Some (faults.BadResult n)

-- where the arguments are read: the result can't be read, or it all lies outside the model
abbrev pub result_fault : ℕ → ℕ → NfsCall → Option (List ℕ) → Option CallFault
result_fault n procedure call None = outside_fault n call None
result_fault n procedure call (Some results) = answered_fault n call (result_of procedure results)

abbrev pub argued_fault : ℕ → ℕ → Option (List ℕ) → Result NfsCall (At Kind) → Option CallFault
argued_fault n procedure results (Err fault) = Some (faults.BadArgs n)
argued_fault n procedure results (Ok call) = result_fault n procedure call results

-- a judged call: its arguments can't be read, or its result is at fault
abbrev pub judged_fault : ℕ → ℕ → List ℕ → Option (List ℕ) → Option CallFault
judged_fault n procedure args results = argued_fault n procedure results (arguments_of procedure args)

-- a call that may have an effect: it is sealed (RPCSEC_GSS, RFC 2203), or what its procedure says
abbrev pub effect_fault : ℕ → CallValue → Option (List ℕ) → Option CallFault
effect_fault n head results =
    if head.flavor == sealed_flavor then Some (faults.Sealed n)
    else (if is_judged head.procedure then judged_fault n head.procedure head.args results
    else Some (left_out n (which_left_out head.procedure) results))

-- the fault of call n with this head and this reply
abbrev pub fault_of : ℕ → CallValue → Option Body → Option CallFault
fault_of n head body = if has_no_effect head body then None else effect_fault n head (results_of body)

-- the fault that is found of call n
abbrev pub IsFound : ℕ → CallEvent → CallFault → Type 0
IsFound n event fault =
    (head : CallValue) × (body : Option Body) × IsCall event.message head × Says event.answer body × (fault_of n head body ≡ Some fault)

-- the message of a call, and of the reply to it, can be read
abbrev pub IsReadable : CallEvent → Type 0
IsReadable event = ((head : CallValue) × IsCall event.message head) × ((body : Option Body) × Says event.answer body)

abbrev pub AreReadable : List CallEvent → Type 0
AreReadable events = AllByRecursion IsReadable events

-- where a call isn't known, for want of memory or for such a fault
abbrev pub IsStopFor : {X : Type 0} → (CallFault → Type 0) → Result X Stop → Type 0
IsStopFor Is (Ok x) = Unit {0}
IsStopFor Is (Err (stops.Fault fault)) = Is fault
IsStopFor Is (Err stops.NoMemory) = Unit {0}

abbrev pub of_stop : Stop → joined.HistoryFault
of_stop (stops.Fault fault) = of_call fault
of_stop stops.NoMemory = joined_faults.NoMemory

-- what the calls of events were
abbrev pub AreKnown : List Event → List RecordedCall → Type 0
AreKnown events calls = EachMayFollow [] events × AreRecorded (calls_of events) calls
