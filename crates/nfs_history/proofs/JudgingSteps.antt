-- Calls are judged one after the other.
use Rattle.std.proofs.Common.{◌≡◌, inl, inr, ℕ, suc, zero, ◌+◌, ◌<◌, ◌≤◌, List, [], ◌∷◌, ◌++◌, length, take, drop, get_or, map, Err, refl, sym, ap, ◌∙◌, arith, drop-cons, add-one}
use Rattle.std.proofs.lemmas.List.{take_more, map_push, take_all}
use Rattle.nfs_history.specs.declared.fault.CallFault.{CallFault}
use Rattle.nfs_history.specs.declared.judging.Stop.{Stop}
use Rattle.nfs_history.specs.declared.judging.Stop.TheVariants as stops
use Rattle.nfs_history.specs.declared.matching.SeenCall.{SeenCall}
use Rattle.nfs_history.specs.declared.recorded.RecordedCall.{RecordedCall}
use Rattle.nfs_history.specs.declared.recorded.CallKind.{CallKind}
use Rattle.nfs_history.specs.Calls.{CallEvent}
use Rattle.nfs_history.specs.Matching.{seen_call}
use Rattle.nfs_history.specs.History.{IsRecorded, AreRecorded}
use Rattle.nfs_history.specs.CallFaults.{FirstCallFault}
use Rattle.nfs_history.specs.Reread.{known_call, call_kind, IsReadAs, AreReadTo}
use Rattle.nfs_history.specs.Judging.{IsFound, IsReadable, AreReadable, IsStopFor}
use Rattle.nfs_history.proofs.CallFaultTable.{call_fault_found}

pub AreRecorded-push : (events : List CallEvent) (calls : List RecordedCall) (event : CallEvent) (call : RecordedCall) → AreRecorded events calls → IsRecorded event call → AreRecorded (events ++ event ∷ []) (calls ++ call ∷ [])
AreRecorded-push [] [] event call all one = (one, tt)
AreRecorded-push [] (c ∷ calls) event call all one = absurd all
AreRecorded-push (e ∷ events) [] event call all one = absurd all
AreRecorded-push (e ∷ events) (c ∷ calls) event call all one = (all.0, AreRecorded-push events calls event call all.1 one)

-- the calls below i were read, and are of these kinds
pub record AreJudgedTo (seen : List SeenCall) (i : ℕ) (kinds : List CallKind) : Type 0 where
  pub read : AreReadTo (map seen_call (take i seen)) kinds
  pub faults_are : (fault : CallFault) → FirstCallFault (i + 1) (map seen_call (drop i seen)) fault → FirstCallFault 1 (map seen_call seen) fault

one_dropped : (seen : List SeenCall) (i : ℕ) (d : SeenCall) → i < length seen → map seen_call (drop i seen) ≡ seen_call (get_or seen i d) ∷ map seen_call (drop (i + 1) seen)
one_dropped seen i d lt = ap (map seen_call) (drop-cons seen i d lt) ∙ ap (λ n. seen_call (get_or seen i d) ∷ map seen_call (drop n seen)) (sym (add-one i))

AreReadTo-push : (events : List CallEvent) (kinds : List CallKind) (event : CallEvent) (kind : CallKind) → AreReadTo events kinds → IsReadAs event kind → AreReadTo (events ++ event ∷ []) (kinds ++ kind ∷ [])
AreReadTo-push events kinds event kind all one =
    let calls : map known_call (events ++ event ∷ []) ≡ map known_call events ++ known_call event ∷ [] = map_push known_call events event in
    let kept : map call_kind (map known_call events ++ known_call event ∷ []) ≡ map call_kind (map known_call events) ++ call_kind (known_call event) ∷ [] = map_push call_kind (map known_call events) (known_call event) in
    let kinds_are : kinds ++ kind ∷ [] ≡ map call_kind (map known_call (events ++ event ∷ [])) = rw (all.1, one.1, calls, kept) refl in
    (rw calls (AreRecorded-push events (map known_call events) event (known_call event) all.0 one.0), kinds_are)

pub none_judged : (seen : List SeenCall) → AreJudgedTo seen 0 []
none_judged seen = record { read = (tt, refl); faults_are = λ fault h. h }

pub judged_more : (seen : List SeenCall) (i : ℕ) (d : SeenCall) (old new : List CallKind) (kind : CallKind) → i < length seen → new ≡ old ++ kind ∷ [] → IsReadAs (seen_call (get_or seen i d)) kind → AreJudgedTo seen i old → AreJudgedTo seen (i + 1) new
judged_more seen i d old new kind lt pushed one so_far =
    let event = seen_call (get_or seen i d) in
    let taken : map seen_call (take (i + 1) seen) ≡ map seen_call (take i seen) ++ event ∷ [] = ap (map seen_call) (take_more seen i d lt) ∙ map_push seen_call (take i seen) (get_or seen i d) in
    record {
      read = rw (taken, pushed) (AreReadTo-push (map seen_call (take i seen)) old event kind so_far.read one);
      faults_are = λ fault rest. so_far.faults_are fault (rw (one_dropped seen i d lt) (inr (((known_call event).meaning, (known_call event).outcome, one.0.means), rest)));
    }

pub stops_here : (seen : List SeenCall) (i : ℕ) (d : SeenCall) (kinds : List CallKind) (stop : Stop) → i < length seen
    → IsStopFor {X = Unit {0}} (IsFound (i + 1) (seen_call (get_or seen i d))) (Err stop) → AreJudgedTo seen i kinds → IsStopFor {X = Unit {0}} (FirstCallFault 1 (map seen_call seen)) (Err stop)
stops_here seen i d kinds stops.NoMemory lt h so_far = tt
stops_here seen i d kinds (stops.Fault fault) lt h so_far =
    so_far.faults_are fault (rw (one_dropped seen i d lt) (inl (call_fault_found (i + 1) (seen_call (get_or seen i d)) fault h)))

pub all_judged : (seen : List SeenCall) (i : ℕ) (kinds : List CallKind) → length seen ≤ i → AreJudgedTo seen i kinds → AreReadTo (map seen_call seen) kinds
all_judged seen i kinds le so_far = rw (take_all i seen le) at so_far.read

pub readable_at : (seen : List SeenCall) (i : ℕ) (d : SeenCall) → i < length seen → AreReadable (map seen_call seen) → IsReadable (seen_call (get_or seen i d))
readable_at [] i d lt all = absurd (omega arith)
readable_at (c ∷ seen) zero d lt all = all.0
readable_at (c ∷ seen) (suc i) d lt all = readable_at seen i d (omega arith) all.1
