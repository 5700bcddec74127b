-- An event that is noted, or refused.
use Rattle.std.proofs.Common.{◌≡◌, inl, inr, ◌+◌, List, [], ◌∷◌, ◌++◌, length, Ok, Err, refl, sym, ap, subst, ◌∙◌, append_assoc, append-nil}
use Rattle.history_file.specs.Event.{Event, Recording}
use Rattle.nfs_history.specs.declared.fault.EventFault.{EventFault}
use Rattle.nfs_history.specs.Standing.{MayFollow, EachMayFollow}
use Rattle.nfs_history.specs.EventFaults.{IsAtFault}
use Rattle.nfs_history.proofs.EventFaultLaws.{first_fault_or_fine, one_first_fault}
use Rattle.nfs_tap.specs.declared.fault.NoteFault.{NoteFault}
use Rattle.nfs_tap.specs.declared.fault.NoteFault.TheVariants as faults
use Rattle.nfs_tap.specs.Noting.{name_of, IsRefusal, with_event, Notes}

-- ---- one event more

pub follow_push : (before events : List Event) (e : Event) → EachMayFollow before events → MayFollow (before ++ events) e → EachMayFollow before (events ++ e ∷ [])
follow_push before [] e all may = (subst (λ (b : List Event). MayFollow b e) (append-nil before) may, tt)
follow_push before (f ∷ events) e all may =
    (all.0, follow_push (before ++ f ∷ []) events e all.1 (subst (λ (b : List Event). MayFollow b e) (sym (append_assoc before (f ∷ []) events)) may))

-- ---- what may follow, and what is at fault

no_fault : (before : List Event) (e : Event) (fault : EventFault) → IsAtFault (length before + 1) before e fault → MayFollow before e → ⊥
no_fault before e fault at may = first_fault_or_fine before (e ∷ []) fault (inl at) (may, tt)

one_refusal : (before : List Event) (e : Event) (f g : NoteFault) → IsRefusal before e f → IsRefusal before e g → f ≡ g
one_refusal before e f g x y = x.2 ∙ ap name_of (one_first_fault before (e ∷ []) x.0 y.0 (inl x.1) (inl y.1)) ∙ sym y.2

-- ---- the answers

pub refused_so : {X : Type 0} (old new : Recording) (e : Event) (fault : EventFault) → IsAtFault (length old.events + 1) old.events e fault → new ≡ old → Notes {X = X} old e (Err (name_of fault)) new
refused_so old new e fault at same = record {
  noted = tt;
  kept = same;
  only = λ may. absurd (no_fault old.events e fault at may);
  fault = inr (fault, at, refl);
  named = λ refusal is. inr (one_refusal old.events e (name_of fault) refusal (fault, at, refl) is);
}

pub out_of_memory : {X : Type 0} (old new : Recording) (e : Event) → new ≡ old → Notes {X = X} old e (Err faults.NoMemory) new
out_of_memory old new e same = record {
  noted = tt;
  kept = same;
  only = λ may. refl;
  fault = inl refl;
  named = λ refusal is. inl refl;
}

pub noted_so : {X : Type 0} (old new : Recording) (e : Event) (x : X) → MayFollow old.events e → new ≡ with_event old e → Notes {X = X} old e (Ok x) new
noted_so old new e x may is = record {
  noted = (may, is);
  kept = tt;
  only = λ _. tt;
  fault = tt;
  named = λ refusal at. absurd (no_fault old.events e at.0 at.1 may);
}
