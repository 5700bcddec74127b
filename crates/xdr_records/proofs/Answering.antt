-- What a public call says of all of its bytes, from what it answers.
use Rattle.std.proofs.Common.{◌≡◌, List, ℕ, Option, Some, Result, Ok, Err, subst}
use Rattle.std.specs.Prelude.{IfOk}
use Rattle.xdr_records.specs.declared.fault.XdrFault.{XdrFault}
use Rattle.xdr_records.specs.Unread.{At}
use Rattle.xdr_records.specs.Grammar.{Grammar}
use Rattle.xdr_records.specs.Spelling.{Spells}
use Rattle.xdr_records.specs.Reading.{all_of, Told, AnswersAll}
use Rattle.xdr_records.specs.Faults.{AllFails}
use Rattle.xdr_records.proofs.Laws.{all_found, all_again, all_fault, all_fails}

module _ {E K X A : Type 0} (told : E → Option (At K)) (view : X → A) (kind_of : XdrFault → K) (g : Grammar K A) (bytes : List ℕ) where
  -- a value is spelled by the bytes
  pub answered_found : (result : Result X E) → AnswersAll told view result (all_of kind_of g bytes) → IfOk result (λ x. Spells g bytes (view x))
  answered_found (Ok x) h = all_found kind_of g bytes (view x) h
  answered_found (Err e) h = tt

  -- what the bytes spell is answered
  pub answered_only : (result : Result X E) → AnswersAll told view result (all_of kind_of g bytes) → (a : A) → Spells g bytes a → AnswersAll told view result (Ok a)
  answered_only result h a spelled = subst (λ (answer : Result A (At K)). AnswersAll told view result answer) (all_again kind_of g bytes a spelled) h

  -- a fault that is answered is the first
  pub answered_fault : (result : Result X E) → AnswersAll told view result (all_of kind_of g bytes) → (e : E) (f : At K) → result ≡ Err e → told e ≡ Some f → AllFails kind_of g bytes f
  answered_fault result h e f is named =
      let h' = subst (λ (r : Result X E). AnswersAll told view r (all_of kind_of g bytes)) is h in
      all_fault kind_of g bytes f (subst (λ (o : Option (At K)). Told o (all_of kind_of g bytes)) named h')

  -- the first fault is answered
  pub answered_fails : (result : Result X E) → AnswersAll told view result (all_of kind_of g bytes) → (f : At K) → AllFails kind_of g bytes f → AnswersAll told view result (Err f)
  answered_fails result h f wrong = subst (λ (answer : Result A (At K)). AnswersAll told view result answer) (all_fails kind_of g bytes f wrong) h
