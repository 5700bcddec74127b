-- The file of a history has no first fault, and another one at most.
use Rattle.std.proofs.Common.{◌≡◌, ◌⊎◌, inl, inr, ℕ, ◌+◌, Bool, true, false, List, [], ◌∷◌, ◌++◌, Option, Some, None, Result, Ok, Err, IfOk, refl, sym, ap, subst, ◌∙◌, ◌==◌, ◌&&◌, if◌then◌else◌}
use Rattle.rpc_reader.specs.Values.{Body}
use Rattle.history_file.specs.declared.fault.FileFault.{FileFault}
use Rattle.history_file.specs.declared.fault.FileFault.TheVariants as file_faults
use Rattle.history_file.specs.Event.{Event, Recording}
use Rattle.history_file.specs.Event.Event.{call, reply, close, crash}
use Rattle.history_file.specs.HistoryFile.{HistoryFile}
use Rattle.history_file.specs.FileFaults.{IsFileFault}
use Rattle.history_file.proofs.FileLaws.{one_recording, one_file_fault, file_fault_or_recording}
use Rattle.nfs_history.specs.declared.fault.HistoryFault.{HistoryFault}
use Rattle.nfs_history.specs.declared.fault.HistoryFault.TheVariants as faults
use Rattle.nfs_history.specs.declared.judging.Stop.{Stop}
use Rattle.nfs_history.specs.declared.judging.Stop.TheVariants as stops
use Rattle.nfs_history.specs.HistoryValue.{CallsValue, HistoryValue}
use Rattle.nfs_history.specs.Calls.{ReplyEvent, CallEvent, first_reply, calls_from, calls_of, eras_from, xid_of}
use Rattle.nfs_history.specs.Standing.{EachMayFollow}
use Rattle.nfs_history.specs.Effects.{Says}
use Rattle.nfs_history.specs.History.{AreCallsOf, IsCallsFile, IsHistory, IsHistoryFile}
use Rattle.nfs_history.specs.CallFaults.{FirstCallFault}
use Rattle.nfs_history.specs.JoinedFaults.{of_file, of_event, of_call}
use Rattle.nfs_history.specs.FirstFault.{FirstFaultOf, FirstFault}
use Rattle.nfs_history.specs.Answers.{IsFineOrNoMemory, IsErrorOf, IsThatOrNoMemory}
use Rattle.nfs_history.specs.Judging.{AreReadable, IsStopFor, of_stop, AreKnown}
use Rattle.nfs_history.proofs.EventFaultLaws.{first_fault_or_fine, one_first_fault}
use Rattle.nfs_history.proofs.CallFaultLaws.{first_call_fault_or_fine, one_first_call_fault, all_fine}

-- ---- events that may follow one another can be read

said : (b : Bool) (r : ReplyEvent) (o : Option ReplyEvent) → ((body : Option Body) × Says (Some r) body) → ((body : Option Body) × Says o body) → (body : Option Body) × Says (if b then Some r else o) body
said true r o x y = x
said false r o x y = y

reply_readable : (lane xid i : ℕ) (before events : List Event) → EachMayFollow before events → (body : Option Body) × Says (first_reply lane xid i events) body
reply_readable lane xid i before [] may = (None, refl)
reply_readable lane xid i before (call on m ∷ events) may = reply_readable lane xid (i + 1) (before ++ call on m ∷ []) events may.1
reply_readable lane xid i before (close on ∷ events) may = reply_readable lane xid (i + 1) (before ++ close on ∷ []) events may.1
reply_readable lane xid i before (crash ∷ events) may = reply_readable lane xid (i + 1) (before ++ crash ∷ []) events may.1
reply_readable lane xid i before (reply on m ∷ events) may =
    said ((on == lane) && (xid_of m == xid)) (record { number = i; message = m }) (first_reply lane xid (i + 1) events)
    (Some may.0.1.0.body, (may.0.1.0, may.0.1.1, refl))
    (reply_readable lane xid (i + 1) (before ++ reply on m ∷ []) events may.1)

pub calls_readable : (i era : ℕ) (before events : List Event) → EachMayFollow before events → AreReadable (calls_from i era events)
calls_readable i era before [] may = tt
calls_readable i era before (call lane message ∷ events) may =
    ((may.0.1, reply_readable lane (xid_of message) (i + 1) (before ++ call lane message ∷ []) events may.1), calls_readable (i + 1) era (before ++ call lane message ∷ []) events may.1)
calls_readable i era before (reply lane message ∷ events) may = calls_readable (i + 1) era (before ++ reply lane message ∷ []) events may.1
calls_readable i era before (close lane ∷ events) may = calls_readable (i + 1) era (before ++ close lane ∷ []) events may.1
calls_readable i era before (crash ∷ events) may = calls_readable (i + 1) (era + 1) (before ++ crash ∷ []) events may.1

-- ---- the first fault of events

pub fault_or_calls : (seen : Recording) (fault : HistoryFault) (known : CallsValue) → FirstFaultOf seen.events fault → AreCallsOf seen known → ⊥
fault_or_calls seen fault known (inl h) is = first_fault_or_fine [] seen.events h.0 h.1 is.follow
fault_or_calls seen fault known (inr h) is = first_call_fault_or_fine 1 (calls_of seen.events) h.0 h.2 (all_fine (calls_of seen.events) known.calls is.calls)

pub one_first_of : (events : List Event) (f g : HistoryFault) → FirstFaultOf events f → FirstFaultOf events g → f ≡ g
one_first_of events f g (inl x) (inl y) = x.2 ∙ ap of_event (one_first_fault [] events x.0 y.0 x.1 y.1) ∙ sym y.2
one_first_of events f g (inl x) (inr y) = absurd (first_fault_or_fine [] events x.0 x.1 y.1)
one_first_of events f g (inr x) (inl y) = absurd (first_fault_or_fine [] events y.0 y.1 x.1)
one_first_of events f g (inr x) (inr y) = x.3 ∙ ap of_call (one_first_call_fault 1 (calls_of events) x.0 y.0 x.2 y.2) ∙ sym y.3

-- ---- the first fault of a file

pub file_fault_or_calls : (bytes : List ℕ) (fault : HistoryFault) (known : CallsValue) → FirstFault bytes fault → IsCallsFile bytes known → ⊥
file_fault_or_calls bytes fault known (inl h) is = file_fault_or_recording bytes h.0 is.0 h.1 is.1
file_fault_or_calls bytes fault known (inr h) is =
    let same = one_recording bytes h.0 is.0 h.1 is.1 in
    fault_or_calls is.0 fault known (subst (λ (s : Recording). FirstFaultOf s.events fault) same h.2) is.2

-- the calls of a history are those of its file
pub calls_in : (bytes : List ℕ) (history : HistoryValue) → IsHistoryFile bytes history → IsCallsFile bytes history.known
calls_in bytes history is = (is.0, is.1, is.2.known)

pub file_fault_or_history : (bytes : List ℕ) (fault : HistoryFault) (history : HistoryValue) → FirstFault bytes fault → IsHistoryFile bytes history → ⊥
file_fault_or_history bytes fault history first is = file_fault_or_calls bytes fault history.known first (calls_in bytes history is)

pub one_first : (bytes : List ℕ) (f g : HistoryFault) → FirstFault bytes f → FirstFault bytes g → f ≡ g
one_first bytes f g (inl x) (inl y) = x.2 ∙ ap of_file (one_file_fault bytes x.0 y.0 x.1 y.1) ∙ sym y.2
one_first bytes f g (inl x) (inr y) = absurd (file_fault_or_recording bytes x.0 y.0 x.1 y.1)
one_first bytes f g (inr x) (inl y) = absurd (file_fault_or_recording bytes y.0 x.0 y.1 x.1)
one_first bytes f g (inr x) (inr y) =
    let same = one_recording bytes x.0 y.0 x.1 y.1 in
    one_first_of y.0.events f g (subst (λ (s : Recording). FirstFaultOf s.events f) same x.2) y.2

-- ---- what an answer that is right says of others

pub only_memory_of : {X : Type 0} → (bytes : List ℕ) (r : Result X HistoryFault) → IsErrorOf (FirstFault bytes) r → (known : CallsValue) → IsCallsFile bytes known → IsFineOrNoMemory r
only_memory_of bytes (Ok x) h known is = tt
only_memory_of bytes (Err fault) (inl none) known is = none
only_memory_of bytes (Err fault) (inr first) known is = absurd (file_fault_or_calls bytes fault known first is)

pub named_of : {X : Type 0} → (calls : X → CallsValue) (bytes : List ℕ) (r : Result X HistoryFault) → IfOk r (λ x. IsCallsFile bytes (calls x)) → IsErrorOf (FirstFault bytes) r → (fault : HistoryFault) → FirstFault bytes fault → IsThatOrNoMemory fault r
named_of calls bytes (Ok x) found h fault first = absurd (file_fault_or_calls bytes fault (calls x) first found)
named_of calls bytes (Err other) found (inl none) fault first = inl none
named_of calls bytes (Err other) found (inr is) fault first = inr (one_first bytes other fault is first)

-- what is answered of the recording of a file is answered of the file
pub found_in : {X : Type 0} → (IsOf : Recording → X → Type 0) (bytes : List ℕ) (seen : Recording) (r : Result X HistoryFault) → HistoryFile bytes seen → IfOk r (IsOf seen) → IfOk r (λ x. (s : Recording) × HistoryFile bytes s × IsOf s x)
found_in IsOf bytes seen (Ok x) file found = (seen, file, found)
found_in IsOf bytes seen (Err fault) file found = tt

pub history_found : (bytes : List ℕ) (seen : Recording) (r : Result HistoryValue HistoryFault) → HistoryFile bytes seen → IfOk r (IsHistory seen) → IfOk r (λ h. h.spare ≡ 0) → IfOk r (IsHistoryFile bytes)
history_found bytes seen (Ok h) file found bare = (seen, file, found, bare)
history_found bytes seen (Err fault) file found bare = tt

pub calls_found : (seen : Recording) (r : Result HistoryValue HistoryFault) → IfOk r (IsHistory seen) → IfOk r (λ h. AreCallsOf seen h.known)
calls_found seen (Ok x) found = found.known
calls_found seen (Err fault) found = tt

pub fault_in : {X : Type 0} → (bytes : List ℕ) (seen : Recording) (r : Result X HistoryFault) → HistoryFile bytes seen → IsErrorOf (FirstFaultOf seen.events) r → IsErrorOf (FirstFault bytes) r
fault_in bytes seen (Ok x) file h = tt
fault_in bytes seen (Err fault) file (inl none) = inl none
fault_in bytes seen (Err fault) file (inr first) = inr (inr (seen, file, first))

-- a file that can't be read
pub file_stop : (bytes : List ℕ) (fault : FileFault) → (fault ≡ file_faults.NoMemory) ⊎ IsFileFault bytes fault → (of_file fault ≡ faults.NoMemory) ⊎ FirstFault bytes (of_file fault)
file_stop bytes fault (inl none) = inl (ap of_file none)
file_stop bytes fault (inr first) = inr (inl (fault, first, refl))

-- calls of which it isn't known what they were
pub call_stop : (events : List Event) (calls : List CallEvent) (stop : Stop) → calls ≡ calls_of events → EachMayFollow [] events → IsStopFor {X = Unit {0}} (FirstCallFault 1 calls) (Err stop) → (of_stop stop ≡ faults.NoMemory) ⊎ FirstFaultOf events (of_stop stop)
call_stop events calls stops.NoMemory are follow h = inl refl
call_stop events calls (stops.Fault fault) are follow h = inr (inr (fault, follow, subst (λ cs. FirstCallFault 1 cs fault) are h, refl))

-- what an answer that is right says of others, of events
pub only_memory_in : (seen : Recording) (fault : HistoryFault) → (fault ≡ faults.NoMemory) ⊎ FirstFaultOf seen.events fault → (known : CallsValue) → AreCallsOf seen known → fault ≡ faults.NoMemory
only_memory_in seen fault (inl none) known is = none
only_memory_in seen fault (inr first) known is = absurd (fault_or_calls seen fault known first is)

pub named_in : (events : List Event) (other fault : HistoryFault) → (other ≡ faults.NoMemory) ⊎ FirstFaultOf events other → FirstFaultOf events fault → (other ≡ faults.NoMemory) ⊎ (other ≡ fault)
named_in events other fault (inl none) first = inl none
named_in events other fault (inr is) first = inr (one_first_of events other fault is first)

-- what is known of each call, of them all
pub all_known : (events : List Event) (k : CallsValue) → k.eras ≡ eras_from 1 events → AreKnown events k.calls → AreCallsOf (record { head = k.head; events = events }) k
all_known events k eras_are known = record {
  follow = known.0;
  head = refl;
  eras = eras_are;
  calls = known.1;
}
