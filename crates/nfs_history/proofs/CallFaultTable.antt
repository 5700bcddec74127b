-- The fault that is found of a call is the table's.
use Rattle.std.proofs.Common.{◌≡◌, inl, inr, ◌≢◌, ◌==◌, ◌||◌, ◌&&◌, not, ℕ, Bool, true, false, cond, List, length, nat_lt, Option, Some, None, option_map, Result, Ok, Err, refl, sym, ap, subst, ◌∙◌, T, ltb→lt, lt→ltb}
use Rattle.std.proofs.lemmas.Bool.{ne_eqb, eqb-true}
use Rattle.xdr_records.specs.Unread.{At}
use Rattle.xdr_records.proofs.Laws.{all_found, all_again}
use Rattle.nfs3_types.specs.declared.calls.NfsCall.{NfsCall}
use Rattle.nfs3_types.specs.declared.replies.NfsReply.{NfsReply}
use Rattle.nfs3_types.specs.declared.replies.Outcome.{Outcome}
use Rattle.nfs3_types.specs.declared.replies.Outcome.TheVariants as outcomes
use Rattle.rpc_reader.specs.Values.{CallValue, Body}
use Rattle.nfs3_msgs.specs.nfs3_values_specs.declared.fault.Kind.{Kind}
use Rattle.nfs3_msgs.specs.Messages.{arguments, results, arguments_of, result_of, IsArguments}
use Rattle.nfs3_msgs.specs.nfs3_values_specs.Told as told
use Rattle.nfs_history.specs.declared.fault.Which.{Which}
use Rattle.nfs_history.specs.declared.fault.CallFault.{CallFault}
use Rattle.nfs_history.specs.declared.fault.CallFault.TheVariants as faults
use Rattle.nfs_history.specs.Calls.{CallEvent}
use Rattle.nfs3_types.specs.Procedures.{is_judged}
use Rattle.nfs_history.specs.Effects.{was_refused, is_of_nfs, has_failed_status, results_of, is_left_out, has_no_effect}
use Rattle.nfs_history.specs.History.{CameOut}
use Rattle.nfs_history.specs.Outside.{outside}
use Rattle.nfs_history.specs.CallFaults.{which_left_out, AreNoArguments, IsBadResult, LiesOutside, IsEffectFault, IsCallFault}
use Rattle.nfs_history.specs.Judging.{left_out, outside_fault, answered_fault, result_fault, argued_fault, judged_fault, effect_fault, fault_of, IsFound}

-- ---- Bools

some_is : (f g : CallFault) → Some f ≡ Some g → f ≡ g
some_is f g e = cc

differ : (b : Bool) → b ≡ true → b ≡ false → ⊥
differ true e f = absurd (cc)
differ false e f = absurd (cc)

second_is : (a b : Bool) → (a || b) ≡ false → b ≡ false
second_is false b e = e
second_is true b e = absurd (cc)

pub not_six : (flavor : ℕ) → (flavor == 6) ≡ false → flavor ≢ 6
not_six flavor is six = let wrong : (6 == 6) ≡ false = subst (λ (n : ℕ). (n == 6) ≡ false) six is in absurd (cc)

-- a call that may have an effect, whose procedure isn't judged, is a MKNOD or a LINK
is_then_left_out : (head : CallValue) (body : Option Body) → has_no_effect head body ≡ false → (head.flavor == 6) ≡ false → is_judged head.procedure ≡ false → is_left_out head.procedure ≡ true
is_then_left_out head body effect open_flavor unjudged =
    go (is_left_out head.procedure) refl (second_is (was_refused body || not (is_of_nfs head)) _ effect) where
      go : (l : Bool) → is_left_out head.procedure ≡ l → (not (head.flavor == 6) && cond l (has_failed_status (results_of body)) (not (is_judged head.procedure))) ≡ false → is_left_out head.procedure ≡ true
      go true is e = is
      go false is e = let wrong : true ≡ false = rw (open_flavor, unjudged) at e in absurd (cc)

not_eleven : is_judged 11 ≡ true → ⊥
not_eleven h = let wrong : false ≡ true = h in absurd cc

not_fifteen : is_judged 15 ≡ true → ⊥
not_fifteen h = let wrong : false ≡ true = h in absurd cc

-- a judged procedure isn't left out
pub not_left_out : (procedure : ℕ) → is_judged procedure ≡ true → is_left_out procedure ≡ false
not_left_out procedure judged =
    let node : (procedure == 11) ≡ false = ne_eqb procedure 11 (λ is. not_eleven (subst (λ n. is_judged n ≡ true) is judged)) in
    let link : (procedure == 15) ≡ false = ne_eqb procedure 15 (λ is. not_fifteen (subst (λ n. is_judged n ≡ true) is judged)) in
    rw (node, link) refl

not_judged : (procedure : ℕ) → is_left_out procedure ≡ true → is_judged procedure ≡ false
not_judged procedure left = go (is_judged procedure) refl where
  go : (j : Bool) → is_judged procedure ≡ j → is_judged procedure ≡ false
  go false is = is
  go true is = absurd (differ (is_left_out procedure) left (not_left_out procedure is))

-- ---- what is found is in the table

-- the fault is of the table
abbrev InTable : ℕ → CallValue → Option (List ℕ) → CallFault → Type 0
InTable n head shown fault = IsEffectFault n head shown fault

table_left_out : (n : ℕ) (head : CallValue) (shown : Option (List ℕ)) (fault : CallFault) → head.flavor ≢ 6 → is_left_out head.procedure ≡ true
    → Some (left_out n (which_left_out head.procedure) shown) ≡ Some fault → InTable n head shown fault
table_left_out n head None fault six left is = subst (InTable n head None) (some_is _ fault is) (refl, six, inl (left, (λ h. h), refl))
table_left_out n head (Some bytes) fault six left is = go (nat_lt (length bytes) 4) refl is where
  go : (b : Bool) → nat_lt (length bytes) 4 ≡ b → Some (cond b (faults.BadResult n) (faults.Outside n (which_left_out head.procedure))) ≡ Some fault → InTable n head (Some bytes) fault
  go true few is = subst (InTable n head (Some bytes)) (some_is _ fault is) (refl, six, inl (left, ltb→lt (length bytes) 4 (subst T (sym few) tt)))
  go false many is = subst (InTable n head (Some bytes)) (some_is _ fault is)
      (refl, six, inl (left, (λ h. let lies : nat_lt (length bytes) 4 ≡ true = is_true _ (lt→ltb (length bytes) 4 h) in differ _ lies many), refl)) where
        is_true : (b : Bool) → T b → b ≡ true
        is_true true h = refl
        is_true false h = absurd h

table_outside : (n : ℕ) (head : CallValue) (shown : Option (List ℕ)) (call : NfsCall) (outcome : Option Outcome) (fault : CallFault) → head.flavor ≢ 6 → is_judged head.procedure ≡ true
    → IsArguments head.procedure head.args call → CameOut head.procedure shown outcome → outside_fault n call outcome ≡ Some fault → InTable n head shown fault
table_outside n head shown call outcome fault six judged asked came is = go (outside call outcome) refl is where
  go : (o : Option Which) → outside call outcome ≡ o → option_map (λ which. faults.Outside n which) o ≡ Some fault → InTable n head shown fault
  go None none is = absurd (cc)
  go (Some which) some is = subst (InTable n head shown) (some_is _ fault is) (refl, six, inr (judged, call, outcome, asked, came, some))

table_result : (n : ℕ) (head : CallValue) (shown : Option (List ℕ)) (call : NfsCall) (fault : CallFault) → head.flavor ≢ 6 → is_judged head.procedure ≡ true
    → IsArguments head.procedure head.args call → result_fault n head.procedure call shown ≡ Some fault → InTable n head shown fault
table_result n head None call fault six judged asked is = table_outside n head None call None fault six judged asked refl is
table_result n head (Some bytes) call fault six judged asked is = go (result_of head.procedure bytes) refl is where
  go : (read : Result NfsReply (At Kind)) → result_of head.procedure bytes ≡ read → answered_fault n call read ≡ Some fault → InTable n head (Some bytes) fault
  go (Ok answer) read is =
      let spelled = all_found told.kind_of (results head.procedure) bytes answer read in
      table_outside n head (Some bytes) call (Some (outcomes.Received answer)) fault six judged asked (answer, spelled, refl) is
  go (Err at) read is = subst (InTable n head (Some bytes)) (some_is _ fault is)
      (refl, six, inr (judged, (call, asked), (bytes, refl, (λ some. let fine = all_again told.kind_of (results head.procedure) bytes some.0 some.1 in let wrong : Ok some.0 ≡ Err at = sym fine ∙ read in absurd (cc)))))

table_judged : (n : ℕ) (head : CallValue) (shown : Option (List ℕ)) (fault : CallFault) → head.flavor ≢ 6 → is_judged head.procedure ≡ true
    → judged_fault n head.procedure head.args shown ≡ Some fault → InTable n head shown fault
table_judged n head shown fault six judged is = go (arguments_of head.procedure head.args) refl is where
  go : (read : Result NfsCall (At Kind)) → arguments_of head.procedure head.args ≡ read → argued_fault n head.procedure shown read ≡ Some fault → InTable n head shown fault
  go (Ok call) read is = table_result n head shown call fault six judged (all_found told.kind_of (arguments head.procedure) head.args call read) is
  go (Err at) read is = subst (InTable n head shown) (some_is _ fault is)
      (refl, six, judged, (λ some. let fine = all_again told.kind_of (arguments head.procedure) head.args some.0 some.1 in let wrong : Ok some.0 ≡ Err at = sym fine ∙ read in absurd (cc)))

table_effect : (n : ℕ) (head : CallValue) (body : Option Body) (fault : CallFault) → has_no_effect head body ≡ false
    → effect_fault n head (results_of body) ≡ Some fault → InTable n head (results_of body) fault
table_effect n head body fault effect is = go (head.flavor == 6) refl is where
  judged_or_not : (j : Bool) → is_judged head.procedure ≡ j → (head.flavor == 6) ≡ false
      → cond j (judged_fault n head.procedure head.args (results_of body)) (Some (left_out n (which_left_out head.procedure) (results_of body))) ≡ Some fault → InTable n head (results_of body) fault
  judged_or_not true judged six is = table_judged n head (results_of body) fault (not_six head.flavor six) judged is
  judged_or_not false unjudged six is = table_left_out n head (results_of body) fault (not_six head.flavor six) (is_then_left_out head body effect six unjudged) is

  go : (b : Bool) → (head.flavor == 6) ≡ b
      → cond b (Some (faults.Sealed n)) (cond (is_judged head.procedure) (judged_fault n head.procedure head.args (results_of body)) (Some (left_out n (which_left_out head.procedure) (results_of body)))) ≡ Some fault
      → InTable n head (results_of body) fault
  go true six is = subst (InTable n head (results_of body)) (some_is _ fault is) (refl, eqb-true head.flavor 6 six)
  go false six is = judged_or_not (is_judged head.procedure) refl six is

pub call_fault_found : (n : ℕ) (event : CallEvent) (fault : CallFault) → IsFound n event fault → IsCallFault n event fault
call_fault_found n event fault (head, body, is_call, says, is) = go (has_no_effect head body) refl is where
  go : (b : Bool) → has_no_effect head body ≡ b → cond b None (effect_fault n head (results_of body)) ≡ Some fault → IsCallFault n event fault
  go true none is = absurd (cc)
  go false effect is = (head, body, is_call, says, effect, table_effect n head body fault effect is)

-- ---- what is in the table is found

found_outside : (n : ℕ) (head : CallValue) (shown : Option (List ℕ)) (which : Which) → LiesOutside head shown which → head.flavor ≢ 6 → effect_fault n head shown ≡ Some (faults.Outside n which)
found_outside n head None which (inl (left, status, is)) six = rw (ne_eqb head.flavor 6 six, not_judged head.procedure left) (ap (λ (w : Which). Some (faults.Outside n w)) (sym is))
found_outside n head (Some bytes) which (inl (left, status, is)) six = rw (ne_eqb head.flavor 6 six, not_judged head.procedure left) (go (nat_lt (length bytes) 4) refl) where
  go : (b : Bool) → nat_lt (length bytes) 4 ≡ b → Some (cond b (faults.BadResult n) (faults.Outside n (which_left_out head.procedure))) ≡ Some (faults.Outside n which)
  go true few = absurd (status (ltb→lt (length bytes) 4 (subst T (sym few) tt)))
  go false many = ap (λ (w : Which). Some (faults.Outside n w)) (sym is)
found_outside n head None which (inr (judged, call, outcome, asked, came, is)) six =
    let read : arguments_of head.procedure head.args ≡ Ok call = all_again told.kind_of (arguments head.procedure) head.args call asked in
    rw (ne_eqb head.flavor 6 six, judged, read) (ap (outside_fault n call) (sym came) ∙ ap (option_map (λ w. faults.Outside n w)) is)
found_outside n head (Some bytes) which (inr (judged, call, outcome, asked, came, is)) six =
    let read : arguments_of head.procedure head.args ≡ Ok call = all_again told.kind_of (arguments head.procedure) head.args call asked in
    let answer : result_of head.procedure bytes ≡ Ok came.0 = all_again told.kind_of (results head.procedure) bytes came.0 came.1 in
    rw (ne_eqb head.flavor 6 six, judged, read, answer) (ap (outside_fault n call) (sym came.2) ∙ ap (option_map (λ w. faults.Outside n w)) is)

found_bad_result : (n : ℕ) (head : CallValue) (shown : Option (List ℕ)) → IsBadResult head shown → head.flavor ≢ 6 → effect_fault n head shown ≡ Some (faults.BadResult n)
found_bad_result n head None (inl (left, few)) six = absurd few
found_bad_result n head (Some bytes) (inl (left, few)) six =
    let short : nat_lt (length bytes) 4 ≡ true = is_true _ (lt→ltb (length bytes) 4 few) in
    rw (ne_eqb head.flavor 6 six, not_judged head.procedure left, short) refl where
      is_true : (b : Bool) → T b → b ≡ true
      is_true true h = refl
      is_true false h = absurd h
found_bad_result n head shown (inr (judged, (call, asked), (bytes, is, none))) six =
    let read : arguments_of head.procedure head.args ≡ Ok call = all_again told.kind_of (arguments head.procedure) head.args call asked in
    rw (ne_eqb head.flavor 6 six, judged, read, is) (go (result_of head.procedure bytes) refl) where
      go : (answer : Result NfsReply (At Kind)) → result_of head.procedure bytes ≡ answer → answered_fault n call answer ≡ Some (faults.BadResult n)
      go (Ok answer) found = absurd (none (answer, all_found told.kind_of (results head.procedure) bytes answer found))
      go (Err at) found = refl

found_bad_arguments : (n : ℕ) (head : CallValue) (shown : Option (List ℕ)) → AreNoArguments head.procedure head.args → head.flavor ≢ 6 → is_judged head.procedure ≡ true → effect_fault n head shown ≡ Some (faults.BadArgs n)
found_bad_arguments n head shown none six judged = rw (ne_eqb head.flavor 6 six, judged) (go (arguments_of head.procedure head.args) refl) where
  go : (read : Result NfsCall (At Kind)) → arguments_of head.procedure head.args ≡ read → argued_fault n head.procedure shown read ≡ Some (faults.BadArgs n)
  go (Ok call) found = absurd (none (call, all_found told.kind_of (arguments head.procedure) head.args call found))
  go (Err at) found = refl

found_effect : (n : ℕ) (head : CallValue) (shown : Option (List ℕ)) (fault : CallFault) → IsEffectFault n head shown fault → effect_fault n head shown ≡ Some fault
found_effect n head shown (faults.Sealed at) (is, six) = rw six (ap (λ (k : ℕ). Some (faults.Sealed k)) (sym is))
found_effect n head shown (faults.BadArgs at) (is, six, judged, none) = found_bad_arguments n head shown none six judged ∙ ap (λ (k : ℕ). Some (faults.BadArgs k)) (sym is)
found_effect n head shown (faults.BadResult at) (is, six, bad) = found_bad_result n head shown bad six ∙ ap (λ (k : ℕ). Some (faults.BadResult k)) (sym is)
found_effect n head shown (faults.Outside at which) (is, six, lies) = found_outside n head shown which lies six ∙ ap (λ (k : ℕ). Some (faults.Outside k which)) (sym is)

pub found_of : (n : ℕ) (head : CallValue) (body : Option Body) (fault : CallFault) → has_no_effect head body ≡ false → IsEffectFault n head (results_of body) fault → fault_of n head body ≡ Some fault
found_of n head body fault effect is = rw effect (found_effect n head (results_of body) fault is)
