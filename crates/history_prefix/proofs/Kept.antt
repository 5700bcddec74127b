-- Marks and tests keep the same events.
use Rattle.std.proofs.Common.{◌≡◌, ◌<◌, ◌+◌, ℕ, suc, Bool, false, if◌then◌else◌, List, [], ◌∷◌, length, get_or, refl, sym, ap, ◌∙◌, subst, arith}
use Rattle.std.proofs.lemmas.List.{length-map}
use Rattle.history_file.specs.Event.{Event}
use Rattle.history_file.specs.Owning.{happened, all_happened}
use Rattle.nfs_history.specs.HistoryValue.{HistoryValue}
use Rattle.history_prefix.specs.Keeping.{is_within, kept_from, prefix_of}
use Rattle.history_prefix.specs.Marks.{kept, kept_recording, AreMarks}

marks_from : (keeps : ℕ → Bool) (i : ℕ) (marks : List Bool) (events : List Event) → length marks ≡ length events → ((k : ℕ) → k < length events → get_or marks k false ≡ keeps (i + k)) → kept marks events ≡ kept_from keeps i events
marks_from keeps i [] [] long each = refl
marks_from keeps i [] (e ∷ events) long each = cc
marks_from keeps i (mark ∷ marks) [] long each = cc
marks_from keeps i (mark ∷ marks) (e ∷ events) long each =
    let here : mark ≡ keeps i = each 0 (omega arith) ∙ ap keeps (omega arith) in
    let rest : kept marks events ≡ kept_from keeps (i + 1) events = marks_from keeps (i + 1) marks events (omega (arith, long)) (λ k less. each (suc k) (omega (arith, less)) ∙ ap keeps (omega arith)) in
    ap (λ b. if b then e ∷ kept marks events else kept marks events) here ∙ ap (λ es. if keeps i then e ∷ es else es) rest

pub kept_by_marks : (keeps : ℕ → Bool) (marks : List Bool) (events : List Event) → AreMarks keeps (length events) marks → kept marks events ≡ kept_from keeps 1 events
kept_by_marks keeps marks events are = marks_from keeps 1 marks events are.long (λ k less. are.each k less ∙ ap keeps (omega arith))

-- the events of a prefix
pub within_kept : (history : HistoryValue) (last : ℕ) (marks : List Bool) → AreMarks (is_within history.known.calls last) (length history.events) marks → kept_recording history marks ≡ prefix_of history last
within_kept history last marks are =
    let long : length history.events ≡ length (all_happened history.events) = sym (length-map history.events happened) in
    let all = kept_by_marks (is_within history.known.calls last) marks (all_happened history.events) (subst (λ n. AreMarks (is_within history.known.calls last) n marks) long are) in
    λ i. record { head = history.known.head; events = all i }
