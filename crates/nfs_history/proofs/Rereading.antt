-- What is known of a call is what is read of its messages.
use Rattle.std.proofs.Common.{◌≡◌, ℕ, zero, suc, ◌+◌, ◌<◌, List, [], ◌∷◌, ◌++◌, length, take, get_or, map, Option, Some, None, option_map, option_and_then, Ok, IfSome, Bor, refl, sym, ap, subst, ◌∙◌, arith, add-one}
use Rattle.std.specs.Prelude.{unwrap_or}
use Rattle.std.specs.List.{slice_get}
use Rattle.std.specs.Option.{option_copied}
use Rattle.std.proofs.lemmas.List.{take_more}
use Rattle.std.proofs.lemmas.Option.{slice_get-map, same_Some, get_or_from_slice_get}
use Rattle.xdr_records.proofs.Laws.{all_again}
use Rattle.rpc_reader.specs.Values.{CallValue, Body}
use Rattle.rpc_reader.specs.ReplyHeads.{Status}
use Rattle.rpc_reader.specs.ReplyHeads.Status.{results_follow, final}
use Rattle.rpc_reader.specs.Messages.{IsCall, IsEnding}
use Rattle.nfs3_types.specs.declared.replies.Outcome.{Outcome}
use Rattle.nfs3_msgs.specs.Messages.{arguments, results, arguments_of, result_of}
use Rattle.nfs3_msgs.specs.nfs3_values_specs.Told as told
use Rattle.nfs_history.specs.declared.recorded.Meaning.{Meaning}
use Rattle.nfs_history.specs.declared.recorded.Meaning.TheVariants as meanings
use Rattle.nfs_history.specs.declared.recorded.RecordedCall.{RecordedCall}
use Rattle.nfs_history.specs.declared.recorded.CallKind.{CallKind}
use Rattle.nfs_history.specs.declared.matching.SeenCall.{SeenCall}
use Rattle.nfs_history.specs.declared.matching.SeenReply.{SeenReply}
use Rattle.nfs_history.specs.Matching.{seen_call, seen_reply}
use Rattle.nfs_history.specs.Precedence.{call_at, begin_of, end_of}
use Rattle.nfs_history.specs.Calls.{ReplyEvent, CallEvent}
use Rattle.nfs_history.specs.Effects.{Says, results_of}
use Rattle.nfs_history.specs.History.{CameOut, IsKnownAs, IsRecorded, AreRecorded}
use Rattle.nfs_history.specs.Reread.{head_from, head_in, body_behind, body_from, body_in, came_out, meaning_in, outcome_in, known_call, known_as, item_at, call_kind}
use Rattle.nfs_history.specs.declared.fault.CallFault.{CallFault}
use Rattle.nfs_history.specs.Judging.{IsFound}
use Rattle.nfs_history.proofs.CallFaultTable.{call_fault_found}
use Rattle.nfs_history.proofs.CallFaultLaws.{call_fault_or_fine}
use Rattle.nfs_history.proofs.EitherWay.{call_again, reply_again, reply_start}
use Rattle.nfs_history.proofs.OneHistory.{has_effect, same_call}

pub head_again : (message : List ℕ) (value : CallValue) → IsCall message value → head_in message ≡ value
head_again message value is = ap head_from (call_again message value is) ∙ args where
  args : record value { args = is.back } ≡ value
  args = rw is.others refl

behind_again : (status : Status) (rest : List ℕ) (body : Body) → IsEnding status rest body → body_behind status rest ≡ body
behind_again results_follow rest body is = sym is
behind_again (final status) rest body is = sym is.1

pub body_again : (answer : Option ReplyEvent) (body : Option Body) → Says answer body → body_in answer ≡ body
unfolding reply_start
body_again None body is = sym is
body_again (Some reply) body is =
    ap body_from (reply_again reply.message is.0 is.1) ∙ ap (λ (b : Body). Some b) (behind_again is.1.0 is.1.1.back is.0.body is.1.1.others) ∙ sym is.2

came_again : (procedure : ℕ) (bytes : Option (List ℕ)) (outcome : Option Outcome) → CameOut procedure bytes outcome → came_out procedure bytes ≡ outcome
came_again procedure None outcome is = sym is
came_again procedure (Some bytes) outcome is =
    let read : result_of procedure bytes ≡ Ok is.0 = all_again told.kind_of (results procedure) bytes is.0 is.1 in
    rw read (sym is.2)

meant_again : (head : CallValue) (body : Option Body) (meaning : Meaning) (outcome : Option Outcome) → IsKnownAs head body meaning outcome → (meaning_in head body ≡ meaning) × (outcome_in head body ≡ outcome)
meant_again head body meanings.Unjudged outcome is = (rw is.0 refl, rw is.0 (sym is.1))
meant_again head body (meanings.Judged call) outcome is =
    let effect = has_effect head body call outcome is in
    let read : arguments_of head.procedure head.args ≡ Ok call = all_again told.kind_of (arguments head.procedure) head.args call is.of_nfs.arguments in
    (rw (effect, read) refl, rw effect (came_again head.procedure (results_of body) outcome is.came_out))

-- what was read once is read again
pub known_again : (event : CallEvent) (call : RecordedCall) → IsRecorded event call → known_call event ≡ call
unfolding known_call
known_again event call is =
    let means = is.means in
    let head = head_again event.message means.0 means.2 in
    let body = body_again event.answer means.1 means.3 in
    let meant = meant_again means.0 means.1 call.meaning call.outcome means.4 in
    same_call (known_call event) call (sym is.lane) (sym is.xid) (rw (head, body) meant.0) (sym is.begin) (sym is.«end») (sym is.era) (rw (head, body) meant.1)

pub recorded_again : (event : CallEvent) (call : RecordedCall) → IsRecorded event call → IsRecorded event (known_call event)
recorded_again event call is = subst (IsRecorded event) (sym (known_again event call is)) is

pub call_read_at : (events : List CallEvent) (calls : List RecordedCall) → AreRecorded events calls → map known_call events ≡ calls
call_read_at [] [] is = refl
call_read_at [] (c ∷ calls) is = absurd is
call_read_at (e ∷ events) [] is = absurd is
call_read_at (e ∷ events) (c ∷ calls) is =
    ap (λ (first : RecordedCall). first ∷ map known_call events) (known_again e c is.0) ∙ ap (λ (others : List RecordedCall). c ∷ others) (call_read_at events calls is.1)

-- a call that was read without a fault has none
pub never_found : (n : ℕ) (event : CallEvent) (fault : CallFault) → IsRecorded event (known_call event) → IsFound n event fault → ⊥
never_found n event fault is found = call_fault_or_fine n event fault (call_fault_found n event fault found) ((known_call event).meaning, (known_call event).outcome, is.means)

-- ---- a call in the list of those that were seen

at_once : (o : Option SeenCall) → option_map known_as o ≡ option_map known_call (option_map seen_call o)
at_once None = refl
at_once (Some c) = refl

found_at : (seen : List SeenCall) (n : ℕ) → option_map known_as (item_at seen n) ≡ call_at (map known_call (map seen_call seen)) n
found_at seen zero = refl
found_at seen (suc k) =
    at_once (slice_get seen k) ∙ ap (option_map known_call) (sym (slice_get-map seen_call seen k)) ∙ sym (slice_get-map known_call (map seen_call seen) k)

pub found_as : (seen : List SeenCall) (n : ℕ) (o : Option SeenCall) → o ≡ item_at seen n → option_map known_as o ≡ call_at (map known_call (map seen_call seen)) n
found_as seen n o is = ap (option_map known_as) is ∙ found_at seen n

pub kind_found : (calls : List RecordedCall) (kinds : List CallKind) (n : ℕ) → kinds ≡ map call_kind calls → item_at kinds n ≡ option_map call_kind (call_at calls n)
kind_found calls kinds zero are = refl
kind_found calls kinds (suc k) are = ap (λ ks. slice_get ks k) are ∙ slice_get-map call_kind calls k

recorded_behind : (seen : List SeenCall) (k : ℕ) (c : SeenCall) → AreRecorded (map seen_call seen) (map known_call (map seen_call seen)) → slice_get seen k ≡ Some c → IsRecorded (seen_call c) (known_as c)
recorded_behind [] k c all is = absurd (cc)
recorded_behind (x ∷ seen) zero c all is = subst (λ s. IsRecorded (seen_call s) (known_as s)) (same_Some x c is) all.0
recorded_behind (x ∷ seen) (suc k) c all is = recorded_behind seen k c all.1 is

recorded_at : (seen : List SeenCall) (n : ℕ) (c : SeenCall) → AreRecorded (map seen_call seen) (map known_call (map seen_call seen)) → item_at seen n ≡ Some c → IsRecorded (seen_call c) (known_as c)
recorded_at seen zero c all is = absurd (cc)
recorded_at seen (suc k) c all is = recorded_behind seen k c all is

pub recorded_as : (seen : List SeenCall) (n : ℕ) (r : Option (Bor SeenCall)) → AreRecorded (map seen_call seen) (map known_call (map seen_call seen)) → option_copied r ≡ item_at seen n → IfSome r (λ c. IsRecorded (seen_call c.now) (known_as c.now))
recorded_as seen n None all is = tt
recorded_as seen n (Some b) all is = recorded_at seen n b.now all (sym is)

pub began_at : (calls : List RecordedCall) (n : ℕ) (c : SeenCall) → Some (known_as c) ≡ call_at calls n → c.begin ≡ begin_of calls n
unfolding known_call
began_at calls n c is = ap (λ (o : Option RecordedCall). unwrap_or (option_map (λ call. call.begin) o) 0) is

pub ended_at : (calls : List RecordedCall) (n : ℕ) (c : SeenCall) → Some (known_as c) ≡ call_at calls n → option_map (λ reply. reply.number) c.answer ≡ end_of calls n
unfolding known_call
ended_at calls n c is = number_kept c.answer ∙ ap (λ (o : Option RecordedCall). option_and_then (λ call. call.«end») o) is where
  number_kept : (o : Option SeenReply) → option_map (λ reply. reply.number) o ≡ option_map (λ reply. reply.number) (option_map seen_reply o)
  number_kept None = refl
  number_kept (Some r) = refl

pub era_at : (calls : List RecordedCall) (n : ℕ) (c : SeenCall) → Some (known_as c) ≡ call_at calls n → Some c.era ≡ option_map (λ call. call.era) (call_at calls n)
unfolding known_call
era_at calls n c is = ap (λ (o : Option RecordedCall). option_map (λ call. call.era) o) is

pub lane_at : (calls : List RecordedCall) (n : ℕ) (c : SeenCall) → Some (known_as c) ≡ call_at calls n → Some c.lane ≡ option_map (λ call. call.lane) (call_at calls n)
unfolding known_call
lane_at calls n c is = ap (λ (o : Option RecordedCall). option_map (λ call. call.lane) o) is

-- ---- calls that are read one after the other

one_more : (calls : List RecordedCall) (i : ℕ) (o : Option RecordedCall) → o ≡ call_at calls (i + 1) → o ≡ slice_get calls i
one_more calls i o is = is ∙ ap (call_at calls) (add-one i)

pub none_missing : (calls : List RecordedCall) (i : ℕ) (o : Option RecordedCall) → i < length calls → o ≡ call_at calls (i + 1) → o ≡ None → ⊥
none_missing calls i o lt is none = go calls i lt (sym (one_more calls i o is) ∙ none) where
  go : (xs : List RecordedCall) (k : ℕ) → k < length xs → slice_get xs k ≡ None → ⊥
  go [] k lt is = absurd (omega (arith, lt))
  go (x ∷ xs) zero lt is = absurd (cc)
  go (x ∷ xs) (suc k) lt is = go xs k (omega (arith, lt)) is

pub one_more_read : (calls old new : List RecordedCall) (i : ℕ) (o : Option RecordedCall) (call : RecordedCall) → i < length calls → o ≡ call_at calls (i + 1) → o ≡ Some call → old ≡ take i calls → new ≡ old ++ call ∷ [] → new ≡ take (i + 1) calls
one_more_read calls old new i o call lt is some so_far pushed =
    let here : get_or calls i call ≡ call = get_or_from_slice_get calls i call call (sym (one_more calls i o is) ∙ some) in
    pushed ∙ ap (λ xs. xs ++ call ∷ []) so_far ∙ ap (λ (x : RecordedCall). take i calls ++ x ∷ []) (sym here) ∙ sym (take_more calls i call lt)
