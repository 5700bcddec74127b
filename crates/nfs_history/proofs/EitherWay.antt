-- Bytes are the file of a history or have a first fault.
use Rattle.std.proofs.Common.{◌≡◌, ◌≢◌, ◌⊎◌, inl, inr, ◌==◌, ◌&&◌, ◌||◌, not, ℕ, ◌+◌, Bool, true, false, cond, List, [], ◌∷◌, ◌++◌, length, map, Option, Some, None, option_map, Result, Ok, Err, refl, sym, ap, subst, ◌∙◌}
use Rattle.std.proofs.lemmas.Bool.{eqb-true}
use Rattle.xdr_records.specs.Unread.{Unread, At, whole}
use Rattle.xdr_records.specs.Spelling.{Spells}
use Rattle.xdr_records.specs.Faults.{Stands}
use Rattle.xdr_records.specs.Kinds.{kind_reading}
use Rattle.xdr_records.proofs.Fronts.{left_at, pair_is}
use Rattle.xdr_records.proofs.KindLaws.{kind_found, kind_again}
use Rattle.xdr_records.proofs.Laws.{all_found}
use Rattle.rpc_reader.specs.declared.fault.RpcFault.{RpcFault}
use Rattle.rpc_reader.specs.Values.{CallValue, ReplyValue, Body}
use Rattle.rpc_reader.specs.Values.Body.{success}
use Rattle.rpc_reader.specs.Heads.{kind_of, CallStart, call_head}
use Rattle.rpc_reader.specs.ReplyHeads.{Status, ReplyStart, reply_head}
use Rattle.rpc_reader.specs.ReplyHeads.Status.{results_follow, final}
use Rattle.rpc_reader.specs.Messages.{call_start, IsCall, IsEnding, IsReply}
use Rattle.nfs3_types.specs.declared.calls.NfsCall.{NfsCall}
use Rattle.nfs3_types.specs.declared.replies.NfsReply.{NfsReply}
use Rattle.nfs3_types.specs.declared.replies.Outcome.{Outcome}
use Rattle.nfs3_types.specs.declared.replies.Outcome.TheVariants as outcomes
use Rattle.nfs3_msgs.specs.nfs3_values_specs.declared.fault.Kind.{Kind}
use Rattle.nfs3_msgs.specs.Messages.{arguments, results, arguments_of, result_of, IsArguments}
use Rattle.nfs3_msgs.specs.nfs3_values_specs.Told as told
use Rattle.history_file.specs.Event.{Event, Recording}
use Rattle.history_file.specs.Event.Event.{call, reply, close, crash}
use Rattle.history_file.specs.HistoryFile.{HistoryFile}
use Rattle.history_file.specs.Owning.{all_happened}
use Rattle.history_file.proofs.FileLaws.{recording_or_file_fault}
use Rattle.nfs_history.specs.declared.fault.EventFault.{EventFault}
use Rattle.nfs_history.specs.declared.fault.EventFault.TheVariants as event_faults
use Rattle.nfs_history.specs.declared.fault.CallFault.{CallFault}
use Rattle.nfs_history.specs.declared.fault.HistoryFault.{HistoryFault}
use Rattle.nfs_history.specs.declared.recorded.Meaning.{Meaning}
use Rattle.nfs_history.specs.declared.recorded.Meaning.TheVariants as meanings
use Rattle.nfs_history.specs.declared.recorded.RecordedCall.{RecordedCall}
use Rattle.nfs_history.specs.HistoryValue.{HistoryValue}
use Rattle.nfs_history.specs.Calls.{CallEvent, calls_of, eras_from, xid_of}
use Rattle.nfs_history.specs.Standing.{CanBeCall, CanBeReply, has_unanswered, IsClosed, MayFollow, EachMayFollow}
use Rattle.nfs3_types.specs.Procedures.{is_judged}
use Rattle.nfs_history.specs.Effects.{was_refused, is_of_nfs, results_of, is_left_out, has_failed_status, has_no_effect}
use Rattle.nfs_history.specs.History.{CameOut, IsKnownAs, Means, AreRecorded, IsHistoryFile}
use Rattle.nfs_history.specs.Outside.{outside}
use Rattle.nfs_history.specs.EventFaults.{IsAtFault, FirstEventFault}
use Rattle.nfs_history.specs.CallFaults.{IsCallFault, FirstCallFault}
use Rattle.nfs_history.specs.Judging.{answered_fault, result_fault, argued_fault, judged_fault, effect_fault, fault_of, IsReadable, AreReadable}
use Rattle.nfs_history.specs.JoinedFaults.{of_file, of_event, of_call}
use Rattle.nfs_history.specs.FirstFault.{FirstFault}
use Rattle.nfs_history.specs.Checking.{was_closed}
use Rattle.nfs_history.proofs.Lanes.{closed_is, open_is}
use Rattle.nfs_history.proofs.CallFaultTable.{not_six, call_fault_found}
use Rattle.nfs_history.proofs.FirstFaultLaws.{calls_readable}
use Rattle.nfs_history.proofs.OneHistory.{owned_of}

-- ---- a message is a call, or a reply, or none

-- what stands in front of a message is read
pub call_again : (message : List ℕ) (value : CallValue) (is : IsCall message value) → kind_reading kind_of call_head (whole message) ≡ Ok (call_start value, left_at (0 + length is.front) is.back)
call_again message value is =
    let s : Stands (λ head. Spells call_head head (call_start value)) (whole message) (left_at (0 + length is.front) is.back) = record { front = is.front; parts = is.parts; at = refl; item = is.first } in
    kind_again kind_of call_head (call_start value) (whole message) (left_at (0 + length is.front) is.back) s

unfoldable pub reply_start : ReplyValue → Status → ReplyStart
reply_start value status = record { xid = value.xid; status = status }

pub reply_again : (message : List ℕ) (value : ReplyValue) (is : IsReply message value) → kind_reading kind_of reply_head (whole message) ≡ Ok (reply_start value is.0, left_at (0 + length is.1.front) is.1.back)
unfolding reply_start
reply_again message value is =
    let s : Stands (λ head. Spells reply_head head (reply_start value is.0)) (whole message) (left_at (0 + length is.1.front) is.1.back) = record { front = is.1.front; parts = is.1.parts; at = refl; item = is.1.first } in
    kind_again kind_of reply_head (reply_start value is.0) (whole message) (left_at (0 + length is.1.front) is.1.back) s

call_or_none : (message : List ℕ) → CanBeCall message ⊎ (¬ CanBeCall message)
call_or_none message = go (kind_reading kind_of call_head (whole message)) refl where
  go : (r : Result (CallStart × Unread) RpcFault) → kind_reading kind_of call_head (whole message) ≡ r → CanBeCall message ⊎ (¬ CanBeCall message)
  go (Err fault) is = inr (λ some. let again = call_again message some.0 some.1 in absurd (cc))
  go (Ok x) is =
      let s = kind_found kind_of call_head x.0 (whole message) x.1 is in
      let value : CallValue = record { xid = x.0.xid; program = x.0.program; version = x.0.version; procedure = x.0.procedure; flavor = x.0.flavor; args = x.1.rest } in
      inl (value, record { front = s.front; back = x.1.rest; parts = s.parts; first = s.item; others = refl })

ended_or_more : (rest : List ℕ) → (rest ≡ []) ⊎ (rest ≢ [])
ended_or_more [] = inl refl
ended_or_more (byte ∷ rest) = inr (λ nil. absurd (cc))

reply_or_none : (message : List ℕ) → CanBeReply message ⊎ (¬ CanBeReply message)
unfolding reply_start
reply_or_none message = go (kind_reading kind_of reply_head (whole message)) refl where
  stands : (xid : ℕ) (status : Status) (after : Unread) → kind_reading kind_of reply_head (whole message) ≡ Ok (record { xid = xid; status = status }, after) → CanBeReply message ⊎ (¬ CanBeReply message)
  stands xid results_follow after is =
      let start : ReplyStart = record { xid = xid; status = results_follow } in
      let s = kind_found kind_of reply_head start (whole message) after is in
      let value : ReplyValue = record { xid = xid; body = success after.rest } in
      inl (value, (results_follow, record { front = s.front; back = after.rest; parts = s.parts; first = s.item; others = refl }))
  stands xid (final body) after is =
      let start : ReplyStart = record { xid = xid; status = final body } in
      let s = kind_found kind_of reply_head start (whole message) after is in
      let value : ReplyValue = record { xid = xid; body = body } in
      elim (ended_or_more after.rest) [
        | inl nil ↦ inl (value, (final body, record { front = s.front; back = after.rest; parts = s.parts; first = s.item; others = (nil, refl) }))
        | inr more ↦ inr (λ some.
            let other = some.1 in
            let same = pair_is {F = RpcFault} start (reply_start some.0 other.0) after (left_at (0 + length other.1.front) other.1.back) (sym is ∙ reply_again message some.0 other) in
            let status : final body ≡ other.0 = ap (λ (t : ReplyStart). t.status) same.0 in
            let ending = subst (λ (t : Status). IsEnding t other.1.back some.0.body) (sym status) other.1.others in
            more (ap (λ (u : Unread). u.rest) same.1 ∙ ending.0))
      ]

  go : (r : Result (ReplyStart × Unread) RpcFault) → kind_reading kind_of reply_head (whole message) ≡ r → CanBeReply message ⊎ (¬ CanBeReply message)
  go (Err fault) is = inr (λ some. let again = reply_again message some.0 some.1 in absurd (cc))
  go (Ok x) is = stands x.0.xid x.0.status x.1 is

-- ---- an event may follow those before it, or is at fault

open_or_closed : (lane : ℕ) (before : List Event) → IsClosed lane before ⊎ (¬ IsClosed lane before)
open_or_closed lane before = go (was_closed lane before) refl where
  go : (b : Bool) → was_closed lane before ≡ b → IsClosed lane before ⊎ (¬ IsClosed lane before)
  go true is = inl (closed_is lane before is)
  go false is = inr (open_is lane before is)

true_or_false : (b : Bool) → (b ≡ true) ⊎ (b ≡ false)
true_or_false true = inl refl
true_or_false false = inr refl

abbrev FollowsOrFails : ℕ → List Event → Event → Type 0
FollowsOrFails i before e = MayFollow before e ⊎ ((fault : EventFault) × IsAtFault i before e fault)

event_or_fault : (i : ℕ) (before : List Event) (e : Event) → FollowsOrFails i before e
event_or_fault i before (call lane message) = elim (open_or_closed lane before) [
  | inl shut ↦ inr (event_faults.LaneClosed i, inl (shut, refl))
  | inr free ↦ elim (call_or_none message) [
    | inr none ↦ inr (event_faults.BadRpc i, inr (inl (free, none, refl)))
    | inl value ↦ elim (true_or_false (has_unanswered lane (xid_of message) before)) [
      | inl used ↦ inr (event_faults.XidInUse i, inr (inr (free, value, used, refl)))
      | inr unused ↦ inl (free, value, unused)
    ]
  ]
]
event_or_fault i before (reply lane message) = elim (open_or_closed lane before) [
  | inl shut ↦ inr (event_faults.LaneClosed i, inl (shut, refl))
  | inr free ↦ elim (reply_or_none message) [
    | inr none ↦ inr (event_faults.BadRpc i, inr (inl (free, none, refl)))
    | inl value ↦ elim (true_or_false (has_unanswered lane (xid_of message) before)) [
      | inl used ↦ inl (free, value, used)
      | inr unused ↦ inr (event_faults.NoSuchCall i, inr (inr (free, value, unused, refl)))
    ]
  ]
]
event_or_fault i before (close lane) = elim (open_or_closed lane before) [
  | inl shut ↦ inr (event_faults.LaneClosed i, (shut, refl))
  | inr free ↦ inl free
]
event_or_fault i before crash = inl tt

events_or_fault : (before events : List Event) → EachMayFollow before events ⊎ ((fault : EventFault) × FirstEventFault before events fault)
events_or_fault before [] = inl tt
events_or_fault before (e ∷ events) = elim (event_or_fault (length before + 1) before e) [
  | inr at ↦ inr (at.0, inl at.1)
  | inl may ↦ elim (events_or_fault (before ++ e ∷ []) events) [
    | inl others ↦ inl (may, others)
    | inr first ↦ inr (first.0, inr (may, first.1))
  ]
]

-- ---- it is known what a call was, or it is at fault

none_mapped : {A B : Type 0} (f : A → B) (o : Option A) → option_map f o ≡ None → o ≡ None
none_mapped f None is = refl
none_mapped f (Some x) is = absurd (cc)

none_either : (a b c : Bool) → (a || not b) || c ≡ false → (a ≡ false) × (b ≡ true)
none_either true b c is = absurd (cc)
none_either false true c is = (refl, refl)
none_either false false c is = absurd (cc)

both_true : (a b : Bool) → a && b ≡ true → (a ≡ true) × (b ≡ true)
both_true true b is = (refl, is)
both_true false b is = absurd (cc)

abbrev KnownSo : CallValue → Option Body → Type 0
KnownSo head body = (meaning : Meaning) × (outcome : Option Outcome) × IsKnownAs head body meaning outcome

-- a judged call that lies inside the model is known
judged_so : (head : CallValue) (body : Option Body) (asked : NfsCall) (outcome : Option Outcome) → has_no_effect head body ≡ false → (head.flavor == 6) ≡ false → is_judged head.procedure ≡ true
    → IsArguments head.procedure head.args asked → CameOut head.procedure (results_of body) outcome → outside asked outcome ≡ None → KnownSo head body
judged_so head body asked outcome effect plain judged arguments came inside =
    let accepted = none_either (was_refused body) (is_of_nfs head) (not (head.flavor == 6) && cond (is_left_out head.procedure) (has_failed_status (results_of body)) (not (is_judged head.procedure))) effect in
    let nfs = both_true (head.program == 100003) (head.version == 3) accepted.1 in (
      meanings.Judged asked,
      outcome,
      record {
        of_nfs = record {
          program = eqb-true head.program 100003 nfs.0;
          version = eqb-true head.version 3 nfs.1;
          procedure = judged;
          credential = not_six head.flavor plain;
          arguments = arguments;
        };
        accepted = accepted.0;
        came_out = came;
        inside = inside;
      },
    )

answered_so : (n : ℕ) (head : CallValue) (body : Option Body) (asked : NfsCall) → has_no_effect head body ≡ false → (head.flavor == 6) ≡ false → is_judged head.procedure ≡ true
    → IsArguments head.procedure head.args asked → (shown : Option (List ℕ)) → results_of body ≡ shown → result_fault n head.procedure asked shown ≡ None → KnownSo head body
answered_so n head body asked effect plain judged arguments None is none =
    judged_so head body asked None effect plain judged arguments (subst (λ shown. CameOut head.procedure shown None) (sym is) refl) (none_mapped _ (outside asked None) none)
answered_so n head body asked effect plain judged arguments (Some bytes) is none = go (result_of head.procedure bytes) refl none where
  go : (read : Result NfsReply (At Kind)) → result_of head.procedure bytes ≡ read → answered_fault n asked read ≡ None → KnownSo head body
  go (Err at) read none = absurd (cc)
  go (Ok answer) read none =
      let spelled = all_found told.kind_of (results head.procedure) bytes answer read in
      let outcome : Option Outcome = Some (outcomes.Received answer) in
      judged_so head body asked outcome effect plain judged arguments (subst (λ shown. CameOut head.procedure shown outcome) (sym is) (answer, spelled, refl)) (none_mapped _ (outside asked outcome) none)

argued_so : (n : ℕ) (head : CallValue) (body : Option Body) → has_no_effect head body ≡ false → (head.flavor == 6) ≡ false → is_judged head.procedure ≡ true
    → judged_fault n head.procedure head.args (results_of body) ≡ None → KnownSo head body
argued_so n head body effect plain judged none = go (arguments_of head.procedure head.args) refl none where
  go : (read : Result NfsCall (At Kind)) → arguments_of head.procedure head.args ≡ read → argued_fault n head.procedure (results_of body) read ≡ None → KnownSo head body
  go (Err at) read none = absurd (cc)
  go (Ok asked) read none = answered_so n head body asked effect plain judged (all_found told.kind_of (arguments head.procedure) head.args asked read) (results_of body) refl none

known_so : (n : ℕ) (head : CallValue) (body : Option Body) → fault_of n head body ≡ None → KnownSo head body
known_so n head body none = elim (true_or_false (has_no_effect head body)) [
  | inl quiet ↦ (meanings.Unjudged, None, (quiet, refl))
  | inr effect ↦
      let reached : effect_fault n head (results_of body) ≡ None = rw effect at none in
      elim (true_or_false (head.flavor == 6)) [
        | inl sealed ↦ let wrong = rw sealed at reached in absurd (cc)
        | inr plain ↦ elim (true_or_false (is_judged head.procedure)) [
          | inl judged ↦ argued_so n head body effect plain judged (rw (plain, judged) at reached)
          | inr other ↦ let wrong = rw (plain, other) at reached in absurd (cc)
        ]
      ]
]

call_or_fault : (n : ℕ) (event : CallEvent) → IsReadable event → ((meaning : Meaning) × (outcome : Option Outcome) × Means event meaning outcome) ⊎ ((fault : CallFault) × IsCallFault n event fault)
call_or_fault n event (read, said) = go (fault_of n read.0 said.0) refl where
  go : (o : Option CallFault) → fault_of n read.0 said.0 ≡ o → ((meaning : Meaning) × (outcome : Option Outcome) × Means event meaning outcome) ⊎ ((fault : CallFault) × IsCallFault n event fault)
  go None is = let known = known_so n read.0 said.0 is in inl (known.0, known.1, (read.0, said.0, read.1, said.1, known.2))
  go (Some fault) is = inr (fault, call_fault_found n event fault (read.0, said.0, read.1, said.1, is))

calls_or_fault : (n : ℕ) (events : List CallEvent) → AreReadable events → ((calls : List RecordedCall) × AreRecorded events calls) ⊎ ((fault : CallFault) × FirstCallFault n events fault)
calls_or_fault n [] read = inl ([], tt)
calls_or_fault n (event ∷ events) read = elim (call_or_fault n event read.0) [
  | inr at ↦ inr (at.0, inl at.1)
  | inl known ↦
      let this : RecordedCall = record { lane = event.lane; xid = xid_of event.message; meaning = known.0; begin = event.begin; «end» = option_map (λ r. r.number) event.answer; era = event.era; outcome = known.1 } in
      elim (calls_or_fault (n + 1) events read.1) [
        | inl others ↦ inl (this ∷ others.0, (record { lane = refl; xid = refl; begin = refl; «end» = refl; era = refl; means = known.2 }, others.1))
        | inr first ↦ inr (first.0, inr (known, first.1))
      ]
]

-- ---- a history, or a fault

pub happened_again : (events : List Event) → all_happened (map owned_of events) ≡ events
unfolding owned_of
happened_again [] = refl
happened_again (call lane message ∷ events) = ap (λ (es : List Event). call lane message ∷ es) (happened_again events)
happened_again (reply lane message ∷ events) = ap (λ (es : List Event). reply lane message ∷ es) (happened_again events)
happened_again (close lane ∷ events) = ap (λ (es : List Event). close lane ∷ es) (happened_again events)
happened_again (crash ∷ events) = ap (λ (es : List Event). crash ∷ es) (happened_again events)

recording_or_fault : (bytes : List ℕ) (seen : Recording) → HistoryFile bytes seen → ((h : HistoryValue) × IsHistoryFile bytes h) ⊎ ((fault : HistoryFault) × FirstFault bytes fault)
recording_or_fault bytes seen file = elim (events_or_fault [] seen.events) [
  | inr first ↦ inr (of_event first.0, inr (seen, file, inl (first.0, first.1, refl)))
  | inl follow ↦ elim (calls_or_fault 1 (calls_of seen.events) (calls_readable 1 1 [] seen.events follow)) [
    | inr first ↦ inr (of_call first.0, inr (seen, file, inr (first.0, follow, first.1, refl)))
    | inl known ↦
        let history : HistoryValue = record { known = record { head = seen.head; eras = eras_from 1 seen.events; calls = known.0 }; events = map owned_of seen.events; spare = 0 } in
        inl (history, (seen, file, record { known = record { follow = follow; head = refl; eras = refl; calls = known.1 }; events = happened_again seen.events }, refl))
  ]
]

pub history_or_fault : (bytes : List ℕ) → ((h : HistoryValue) × IsHistoryFile bytes h) ⊎ ((fault : HistoryFault) × FirstFault bytes fault)
history_or_fault bytes = elim (recording_or_file_fault bytes) [
  | inl recording ↦ recording_or_fault bytes recording.0 recording.1
  | inr first ↦ inr (of_file first.0, inl (first.0, first.1, refl))
]
