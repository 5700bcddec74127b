-- The history of a file's first events.
use Rattle.std.proofs.Common.{◌≡◌, ◌⊎◌, inl, inr, ℕ, true, false, List, take, length, Option, Some, None, Result, Ok, Err, IfOk, sym, ap, subst, ◌∙◌}
use Rattle.std.proofs.Math.Seq.{take-length}
use Rattle.history_file.specs.Event.{Recording}
use Rattle.history_file.specs.HistoryFile.{HistoryFile}
use Rattle.nfs_history.specs.declared.fault.HistoryFault.{HistoryFault}
use Rattle.nfs_history.specs.declared.fault.HistoryFault.TheVariants as faults
use Rattle.nfs_history.specs.HistoryValue.{HistoryValue}
use Rattle.nfs_history.specs.Answers.{IsThatOrNoMemory}
use Rattle.nfs_history.specs.FirstFault.{FirstFault}
use Rattle.nfs_history.specs.History.{IsHistory, IsHistoryFile}
use Rattle.history_prefix.specs.Front.{IsOfFirst, IsFrontOf, is_of_events}

pub first_built : (bytes : List ℕ) (seen : Recording) (count : ℕ) (built : Result HistoryValue HistoryFault) → HistoryFile bytes seen
    → IfOk built (IsHistory (record { head = seen.head; events = take count seen.events })) → IfOk built (λ h. h.spare ≡ 0) → IfOk built (IsOfFirst bytes)
first_built bytes seen count (Ok history) file is bare = record { seen = seen; file = file; count = count; first = is; bare = bare }
first_built bytes seen count (Err fault) file is bare = tt

-- all of the events are some of the first
pub whole_front : (bytes : List ℕ) (history : HistoryValue) → IsHistoryFile bytes history → IsFrontOf bytes None history
whole_front bytes history file = record {
  of_first = record { seen = file.0; file = file.1; count = length file.0.events; first = subst (λ es. IsHistory (record { head = file.0.head; events = es }) history) (sym (take-length file.0.events)) file.2; bare = file.3 };
  whole = λ none. file;
  why = λ fault is. absurd (cc);
}

pub cut_front : (bytes : List ℕ) (history : HistoryValue) (fault : HistoryFault) → FirstFault bytes fault → IsOfFirst bytes history → IsFrontOf bytes (Some fault) history
cut_front bytes history fault first of_first = record {
  of_first = of_first;
  whole = λ is. absurd (cc);
  why = λ other is. subst (FirstFault bytes) (cc) first;
}

-- want of memory is no fault of events
pub not_memory : (fault : HistoryFault) → fault ≡ faults.NoMemory → is_of_events fault ≡ true → ⊥
not_memory fault none is =
    let both : false ≡ true = sym (ap is_of_events none) ∙ is in
    cc

-- the fault that is told of a file is its first one, where it is one of events
pub first_of : (bytes : List ℕ) (fault : HistoryFault) → (fault ≡ faults.NoMemory) ⊎ FirstFault bytes fault → is_of_events fault ≡ true → FirstFault bytes fault
first_of bytes fault (inl none) is = absurd (not_memory fault none is)
first_of bytes fault (inr first) is = first

-- bytes with a fault that isn't of events aren't cut
pub not_cut : (named told : HistoryFault) → (told ≡ faults.NoMemory) ⊎ (told ≡ named) → is_of_events named ≡ false → is_of_events told ≡ true → ⊥
not_cut named told (inl none) of_file is = absurd (not_memory told none is)
not_cut named told (inr same) of_file is =
    let both : false ≡ true = sym of_file ∙ (sym (ap is_of_events same) ∙ is) in
    cc
