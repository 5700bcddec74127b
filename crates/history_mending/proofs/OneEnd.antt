-- Events end for one reason.
use Rattle.std.proofs.Common.{◌≡◌, inl, ℕ, ◌+◌, List, [], ◌∷◌, length, refl, ap, subst}
use Rattle.history_file.specs.declared.fault.FileFault.{FileFault}
use Rattle.history_file.specs.declared.fault.FileFault.TheVariants as faults
use Rattle.history_file.specs.Event.{Event}
use Rattle.history_file.specs.HistoryFile.{event}
use Rattle.nfs_history.specs.declared.fault.EventFault.{EventFault}
use Rattle.nfs_history.specs.Standing.{MayFollow}
use Rattle.nfs_history.specs.EventFaults.{IsAtFault}
use Rattle.nfs_history.proofs.EventFaultLaws.{one_first_fault}
use Rattle.history_mending.specs.declared.end.End.{End}
use Rattle.history_mending.specs.declared.end.End.TheVariants as ends
use Rattle.history_mending.specs.Fronts.{Begins}
use Rattle.history_mending.specs.Ends.{EventFails, EndsSo}
use Rattle.history_mending.proofs.Beginning.{one_begins, begins_or_fails, one_kind}
use Rattle.history_mending.proofs.EventLists.{nothing_begins, nothing_fails}
use Rattle.history_mending.proofs.Longest.{at_fault_or_fine}

-- an event that is whole
abbrev IsThere : ℕ → List ℕ → Type 0
IsThere i rest = (next : Event) × (behind : List ℕ) × Begins (event i) next rest behind

none_there : (i : ℕ) (rest : List ℕ) → rest ≡ [] → IsThere i rest → ⊥
none_there i rest is there = nothing_begins i there.0 there.1 (subst (λ (xs : List ℕ). Begins (event i) there.0 xs there.1) is there.2)

fails_there : (i : ℕ) (rest : List ℕ) (fault : FileFault) → EventFails i rest fault → IsThere i rest → ⊥
fails_there i rest fault fails there = begins_or_fails (event i) there.0 rest there.1 (record { at = fails.0; kind = fault }) there.2 fails.1

none_fails : (i : ℕ) (rest : List ℕ) (fault : FileFault) → rest ≡ [] → EventFails i rest fault → fault ≡ faults.Truncated
none_fails i rest fault is fails = nothing_fails i fault (subst (λ (xs : List ℕ). EventFails i xs fault) is fails)

one_failure : (i : ℕ) (rest : List ℕ) (f g : FileFault) → EventFails i rest f → EventFails i rest g → f ≡ g
one_failure i rest f g a b = one_kind (event i) rest (record { at = a.0; kind = f }) (record { at = b.0; kind = g }) a.1 b.1

-- behind an event at fault
abbrev IsRefused : List Event → List ℕ → EventFault → Type 0
IsRefused seen rest fault = (next : Event) × (behind : List ℕ) × Begins (event (length seen + 1)) next rest behind × IsAtFault (length seen + 1) seen next fault

abbrev IsFine : List Event → List ℕ → Type 0
IsFine seen rest = (next : Event) × (behind : List ℕ) × Begins (event (length seen + 1)) next rest behind × MayFollow seen next

one_refusal : (seen : List Event) (rest : List ℕ) (f g : EventFault) → IsRefused seen rest f → IsRefused seen rest g → f ≡ g
one_refusal seen rest f g a b =
    let same = one_begins (event (length seen + 1)) a.0 b.0 rest a.1 b.1 a.2 b.2 in
    one_first_fault seen (b.0 ∷ []) f g (inl (subst (λ (x : Event). IsAtFault (length seen + 1) seen x f) same.0 a.3)) (inl b.3)

refused_or_fine : (seen : List Event) (rest : List ℕ) (f : EventFault) → IsRefused seen rest f → IsFine seen rest → ⊥
refused_or_fine seen rest f a b =
    let same = one_begins (event (length seen + 1)) a.0 b.0 rest a.1 b.1 a.2 b.2 in
    at_fault_or_fine seen b.0 f (subst (λ (x : Event). IsAtFault (length seen + 1) seen x f) same.0 a.3) b.3

pub one_end : (over : ℕ) (seen : List Event) (rest : List ℕ) (a b : End) → EndsSo over seen rest a → EndsSo over seen rest b → a ≡ b
one_end over seen rest ends.Whole ends.Whole x y = refl
one_end over seen rest ends.Whole ends.Cut x y = absurd (y.0 x)
one_end over seen rest ends.Whole ends.NoEvent x y = absurd (y.1 (none_fails (length seen + 1) rest y.0 x y.2))
one_end over seen rest ends.Whole (ends.CannotFollow g) x y = absurd (none_there (length seen + 1) rest x (y.0, y.1, y.2))
one_end over seen rest ends.Whole ends.Full x y = absurd (none_there (length seen + 1) rest x (y.0, y.1, y.2))
one_end over seen rest ends.Cut ends.Whole x y = absurd (x.0 y)
one_end over seen rest ends.Cut ends.Cut x y = refl
one_end over seen rest ends.Cut ends.NoEvent x y = absurd (y.1 (one_failure (length seen + 1) rest y.0 faults.Truncated y.2 x.1))
one_end over seen rest ends.Cut (ends.CannotFollow g) x y = absurd (fails_there (length seen + 1) rest faults.Truncated x.1 (y.0, y.1, y.2))
one_end over seen rest ends.Cut ends.Full x y = absurd (fails_there (length seen + 1) rest faults.Truncated x.1 (y.0, y.1, y.2))
one_end over seen rest ends.NoEvent ends.Whole x y = absurd (x.1 (none_fails (length seen + 1) rest x.0 y x.2))
one_end over seen rest ends.NoEvent ends.Cut x y = absurd (x.1 (one_failure (length seen + 1) rest x.0 faults.Truncated x.2 y.1))
one_end over seen rest ends.NoEvent ends.NoEvent x y = refl
one_end over seen rest ends.NoEvent (ends.CannotFollow g) x y = absurd (fails_there (length seen + 1) rest x.0 x.2 (y.0, y.1, y.2))
one_end over seen rest ends.NoEvent ends.Full x y = absurd (fails_there (length seen + 1) rest x.0 x.2 (y.0, y.1, y.2))
one_end over seen rest (ends.CannotFollow f) ends.Whole x y = absurd (none_there (length seen + 1) rest y (x.0, x.1, x.2))
one_end over seen rest (ends.CannotFollow f) ends.Cut x y = absurd (fails_there (length seen + 1) rest faults.Truncated y.1 (x.0, x.1, x.2))
one_end over seen rest (ends.CannotFollow f) ends.NoEvent x y = absurd (fails_there (length seen + 1) rest y.0 y.2 (x.0, x.1, x.2))
one_end over seen rest (ends.CannotFollow f) (ends.CannotFollow g) x y = ap (λ (h : EventFault). ends.CannotFollow h) (one_refusal seen rest f g x y)
one_end over seen rest (ends.CannotFollow f) ends.Full x y = absurd (refused_or_fine seen rest f x (y.0, y.1, y.2, y.3))
one_end over seen rest ends.Full ends.Whole x y = absurd (none_there (length seen + 1) rest y (x.0, x.1, x.2))
one_end over seen rest ends.Full ends.Cut x y = absurd (fails_there (length seen + 1) rest faults.Truncated y.1 (x.0, x.1, x.2))
one_end over seen rest ends.Full ends.NoEvent x y = absurd (fails_there (length seen + 1) rest y.0 y.2 (x.0, x.1, x.2))
one_end over seen rest ends.Full (ends.CannotFollow g) x y = absurd (refused_or_fine seen rest g y (x.0, x.1, x.2, x.3))
one_end over seen rest ends.Full ends.Full x y = refl
