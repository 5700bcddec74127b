-- Calls of which it is known what they were have no first fault, and others have one at most.
use Rattle.std.proofs.Common.{◌≡◌, inl, inr, ℕ, ◌+◌, Bool, true, false, cond, List, [], ◌∷◌, Option, Some, None, option_map, Ok, refl, sym, ap, subst, ◌∙◌}
use Rattle.std.specs.List.{AllByRecursion}
use Rattle.std.proofs.lemmas.Bool.{ne_eqb}
use Rattle.xdr_records.proofs.Laws.{all_again}
use Rattle.rpc_reader.specs.Values.{CallValue, Body}
use Rattle.rpc_reader.proofs.OneMessage.{one_head, one_body}
use Rattle.nfs3_types.specs.declared.calls.NfsCall.{NfsCall}
use Rattle.nfs3_types.specs.declared.replies.Outcome.{Outcome}
use Rattle.nfs3_msgs.specs.Messages.{arguments, results, arguments_of, result_of}
use Rattle.nfs3_msgs.specs.nfs3_values_specs.Told as told
use Rattle.nfs_history.specs.declared.fault.CallFault.{CallFault}
use Rattle.nfs_history.specs.declared.fault.CallFault.TheVariants as faults
use Rattle.nfs_history.specs.declared.recorded.Meaning.{Meaning}
use Rattle.nfs_history.specs.declared.recorded.Meaning.TheVariants as meanings
use Rattle.nfs_history.specs.declared.recorded.RecordedCall.{RecordedCall}
use Rattle.nfs_history.specs.Calls.{ReplyEvent, CallEvent}
use Rattle.nfs_history.specs.Effects.{Says, results_of, has_no_effect}
use Rattle.nfs_history.specs.History.{CameOut, IsJudged, IsKnownAs, AreRecorded}
use Rattle.nfs_history.specs.Outside.{outside}
use Rattle.nfs_history.specs.CallFaults.{IsCallFault, IsFine, FirstCallFault}
use Rattle.nfs_history.specs.Judging.{outside_fault, result_fault, effect_fault, fault_of}
use Rattle.nfs_history.proofs.CallFaultTable.{found_of}

-- ---- a message says one thing

pub one_answer : (answer : Option ReplyEvent) (a b : Option Body) → Says answer a → Says answer b → a ≡ b
one_answer None a b x y = x ∙ sym y
one_answer (Some event) a b x y = x.2 ∙ ap (λ (body : Body). Some body) (one_body event.message x.0 y.0 x.1 y.1) ∙ sym y.2

-- ---- what is known of a call is no fault

none_anyway : (b : Bool) (o : Option CallFault) → o ≡ None → cond b None o ≡ None
none_anyway true o none = refl
none_anyway false o none = none

result_kept : (n procedure : ℕ) (call : NfsCall) (bytes : Option (List ℕ)) (outcome : Option Outcome) → CameOut procedure bytes outcome → outside call outcome ≡ None → result_fault n procedure call bytes ≡ None
result_kept n procedure call None outcome came inside = ap (outside_fault n call) (sym came) ∙ ap (option_map (λ which. faults.Outside n which)) inside
result_kept n procedure call (Some bytes) outcome came inside =
    let read : result_of procedure bytes ≡ Ok came.0 = all_again told.kind_of (results procedure) bytes came.0 came.1 in
    rw read (ap (outside_fault n call) (sym came.2) ∙ ap (option_map (λ which. faults.Outside n which)) inside)

judged_kept : (n : ℕ) (head : CallValue) (body : Option Body) (call : NfsCall) (outcome : Option Outcome) → IsJudged head body call outcome → effect_fault n head (results_of body) ≡ None
judged_kept n head body call outcome judged =
    let open_flavor = ne_eqb head.flavor 6 judged.of_nfs.credential in
    let read : arguments_of head.procedure head.args ≡ Ok call = all_again told.kind_of (arguments head.procedure) head.args call judged.of_nfs.arguments in
    rw (open_flavor, judged.of_nfs.procedure, read) (result_kept n head.procedure call (results_of body) outcome judged.came_out judged.inside)

known_kept : (n : ℕ) (head : CallValue) (body : Option Body) (meaning : Meaning) (outcome : Option Outcome) → IsKnownAs head body meaning outcome → fault_of n head body ≡ None
known_kept n head body (meanings.Judged call) outcome known = none_anyway (has_no_effect head body) (effect_fault n head (results_of body)) (judged_kept n head body call outcome known)
known_kept n head body meanings.Unjudged outcome known = rw known.0 refl

pub call_fault_or_fine : (n : ℕ) (event : CallEvent) (fault : CallFault) → IsCallFault n event fault → IsFine event → ⊥
call_fault_or_fine n event fault (head, body, is_call, says, effect, of) fine =
    let is = found_of n head body fault effect of in
    let means = fine.2 in
    let heads_are = one_head event.message means.0 head means.2 is_call in
    let bodies_are = one_answer event.answer means.1 body means.3 says in
    let none : fault_of n head body ≡ None = subst (λ (h : CallValue). fault_of n h body ≡ None) heads_are (subst (λ (b : Option Body). fault_of n means.0 b ≡ None) bodies_are (known_kept n means.0 means.1 fine.0 fine.1 means.4)) in
    let both : None ≡ Some fault = sym none ∙ is in
    absurd cc

some_is : (f g : CallFault) → Some f ≡ Some g → f ≡ g
some_is f g e = cc

one_call_fault : (n : ℕ) (event : CallEvent) (f g : CallFault) → IsCallFault n event f → IsCallFault n event g → f ≡ g
one_call_fault n event f g (head, body, is_call, says, effect, of) (head', body', is_call', says', effect', of') =
    let is = found_of n head body f effect of in
    let is' = found_of n head' body' g effect' of' in
    let heads_are = one_head event.message head' head is_call' is_call in
    let bodies_are = one_answer event.answer body' body says' says in
    let moved : fault_of n head body ≡ Some g = subst (λ (h : CallValue). fault_of n h body ≡ Some g) heads_are (subst (λ (b : Option Body). fault_of n head' b ≡ Some g) bodies_are is') in
    some_is f g (sym is ∙ moved)

pub first_call_fault_or_fine : (n : ℕ) (events : List CallEvent) (fault : CallFault) → FirstCallFault n events fault → AllByRecursion IsFine events → ⊥
first_call_fault_or_fine n [] fault h fine = h
first_call_fault_or_fine n (event ∷ events) fault (inl h) fine = call_fault_or_fine n event fault h fine.0
first_call_fault_or_fine n (event ∷ events) fault (inr h) fine = first_call_fault_or_fine (n + 1) events fault h.1 fine.1

pub one_first_call_fault : (n : ℕ) (events : List CallEvent) (f g : CallFault) → FirstCallFault n events f → FirstCallFault n events g → f ≡ g
one_first_call_fault n [] f g x y = absurd x
one_first_call_fault n (event ∷ events) f g (inl x) (inl y) = one_call_fault n event f g x y
one_first_call_fault n (event ∷ events) f g (inl x) (inr y) = absurd (call_fault_or_fine n event f x y.0)
one_first_call_fault n (event ∷ events) f g (inr x) (inl y) = absurd (call_fault_or_fine n event g y x.0)
one_first_call_fault n (event ∷ events) f g (inr x) (inr y) = one_first_call_fault (n + 1) events f g x.1 y.1

pub all_fine : (events : List CallEvent) (calls : List RecordedCall) → AreRecorded events calls → AllByRecursion IsFine events
all_fine [] [] all = tt
all_fine [] (c ∷ calls) all = absurd all
all_fine (e ∷ events) [] all = absurd all
all_fine (e ∷ events) (c ∷ calls) all = ((c.meaning, c.outcome, all.0.means), all_fine events calls all.1)
