-- Events that may follow one another have no first fault, and others have one at most.
use Rattle.std.proofs.Common.{◌≡◌, inl, inr, ℕ, ◌+◌, true, false, List, [], ◌∷◌, ◌++◌, length, Result, Ok, Err, is_err, IfOk, IsOkAnd, sym, ◌∙◌}
use Rattle.std.proofs.lemmas.Bool.{false≢true}
use Rattle.nfs_history.specs.declared.fault.EventFault.{EventFault}
use Rattle.history_file.specs.Event.{Event}
use Rattle.history_file.specs.Event.Event.{call, reply, close, crash}
use Rattle.nfs_history.specs.Standing.{MayFollow, EachMayFollow}
use Rattle.nfs_history.specs.EventFaults.{IsAtFault, FirstEventFault}

-- what was read without a fault
pub read_value : {X E V : Type 0} (view : X → V) (P : V → Type 0) (r : Result X E) → is_err r ≡ false → IfOk r (λ x. P (view x)) → (v : V) × P v
read_value view P (Ok x) fine found = (view x, found)
read_value view P (Err e) fine found = absurd (let h : true ≡ false = fine in cc)

-- what can't be read is nothing's spelling
pub none_read : {X E V : Type 0} (P : V → Type 0) (Q : V → X → Type 0) (r : Result X E) → is_err r ≡ true → ((v : V) → P v → IsOkAnd r (Q v)) → ¬ ((v : V) × P v)
none_read P Q (Ok x) failed only = absurd (let h : false ≡ true = failed in cc)
none_read P Q (Err e) failed only = λ found. only found.0 found.1

at_fault_or_fine : (i : ℕ) (before : List Event) (e : Event) (fault : EventFault) → IsAtFault i before e fault → MayFollow before e → ⊥
at_fault_or_fine i before (call lane message) fault (inl h) may = may.0 h.0
at_fault_or_fine i before (call lane message) fault (inr (inl h)) may = h.1 may.1
at_fault_or_fine i before (call lane message) fault (inr (inr h)) may = absurd (false≢true (sym may.2 ∙ h.2))
at_fault_or_fine i before (reply lane message) fault (inl h) may = may.0 h.0
at_fault_or_fine i before (reply lane message) fault (inr (inl h)) may = h.1 may.1
at_fault_or_fine i before (reply lane message) fault (inr (inr h)) may = absurd (false≢true (sym h.2 ∙ may.2))
at_fault_or_fine i before (close lane) fault h may = may h.0
at_fault_or_fine i before crash fault h may = h

one_fault : (i : ℕ) (before : List Event) (e : Event) (f g : EventFault) → IsAtFault i before e f → IsAtFault i before e g → f ≡ g
one_fault i before (call lane message) f g (inl x) (inl y) = x.1 ∙ sym y.1
one_fault i before (call lane message) f g (inl x) (inr (inl y)) = absurd (y.0 x.0)
one_fault i before (call lane message) f g (inl x) (inr (inr y)) = absurd (y.0 x.0)
one_fault i before (call lane message) f g (inr (inl x)) (inl y) = absurd (x.0 y.0)
one_fault i before (call lane message) f g (inr (inl x)) (inr (inl y)) = x.2 ∙ sym y.2
one_fault i before (call lane message) f g (inr (inl x)) (inr (inr y)) = absurd (x.1 y.1)
one_fault i before (call lane message) f g (inr (inr x)) (inl y) = absurd (x.0 y.0)
one_fault i before (call lane message) f g (inr (inr x)) (inr (inl y)) = absurd (y.1 x.1)
one_fault i before (call lane message) f g (inr (inr x)) (inr (inr y)) = x.3 ∙ sym y.3
one_fault i before (reply lane message) f g (inl x) (inl y) = x.1 ∙ sym y.1
one_fault i before (reply lane message) f g (inl x) (inr (inl y)) = absurd (y.0 x.0)
one_fault i before (reply lane message) f g (inl x) (inr (inr y)) = absurd (y.0 x.0)
one_fault i before (reply lane message) f g (inr (inl x)) (inl y) = absurd (x.0 y.0)
one_fault i before (reply lane message) f g (inr (inl x)) (inr (inl y)) = x.2 ∙ sym y.2
one_fault i before (reply lane message) f g (inr (inl x)) (inr (inr y)) = absurd (x.1 y.1)
one_fault i before (reply lane message) f g (inr (inr x)) (inl y) = absurd (x.0 y.0)
one_fault i before (reply lane message) f g (inr (inr x)) (inr (inl y)) = absurd (y.1 x.1)
one_fault i before (reply lane message) f g (inr (inr x)) (inr (inr y)) = x.3 ∙ sym y.3
one_fault i before (close lane) f g x y = x.1 ∙ sym y.1
one_fault i before crash f g x y = absurd x

pub first_fault_or_fine : (before events : List Event) (fault : EventFault) → FirstEventFault before events fault → EachMayFollow before events → ⊥
first_fault_or_fine before [] fault h may = h
first_fault_or_fine before (e ∷ events) fault (inl h) may = at_fault_or_fine (length before + 1) before e fault h may.0
first_fault_or_fine before (e ∷ events) fault (inr h) may = first_fault_or_fine (before ++ e ∷ []) events fault h.1 may.1

pub one_first_fault : (before events : List Event) (f g : EventFault) → FirstEventFault before events f → FirstEventFault before events g → f ≡ g
one_first_fault before [] f g x y = absurd x
one_first_fault before (e ∷ events) f g (inl x) (inl y) = one_fault (length before + 1) before e f g x y
one_first_fault before (e ∷ events) f g (inl x) (inr y) = absurd (at_fault_or_fine (length before + 1) before e f x y.0)
one_first_fault before (e ∷ events) f g (inr x) (inl y) = absurd (at_fault_or_fine (length before + 1) before e g y x.0)
one_first_fault before (e ∷ events) f g (inr x) (inr y) = one_first_fault (before ++ e ∷ []) events f g x.1 y.1
