-- Believed.
-- The begins and ends of a history's calls and crashes, from which a walk has its events.
use Rattle.std.specs.Prelude.{◌≡◌, ◌⊎◌, ℕ, ◌+◌, ◌≤◌, true, List, length, Some, Contains}
use Rattle.nfs_history.specs.declared.recorded.RecordedCall.{RecordedCall}
use Rattle.nfs_history.specs.declared.knowing.KnownCalls.{KnownCalls}
use Rattle.nfs_history.specs.Precedence.{call_at}
use Rattle.decision_core.specs.declared.spans.Span.{Span}
use Rattle.decision_law.specs.Times.{may_stand, answered_end}

module _ (known : KnownCalls) (start : ℕ → ℕ) where
  -- the span is that of a call that may have a place: it ends where the reply comes that a plan has to give
  pub record IsOfCall (n : ℕ) (recorded : RecordedCall) (span : Span) : Type 0 where
    pub stands : call_at known.calls n ≡ Some recorded
    pub may : may_stand recorded ≡ true
    pub number : span.number ≡ n
    pub begins : span.begin ≡ recorded.begin
    pub ends : span.«end» ≡ answered_end recorded

  -- the span is that of the crash that ends era e
  pub record IsOfCrash (e : ℕ) (span : Span) : Type 0 where
    pub inside : (1 ≤ e) × (e ≤ known.eras)
    pub number : span.number ≡ length known.calls + e
    pub begins : span.begin ≡ start (e + 1)
    pub ends : span.«end» ≡ Some (start (e + 1))

  -- these are all of them
  pub record AreSpans (spans : List Span) : Type 0 where
    pub calls : (n : ℕ) (recorded : RecordedCall) → call_at known.calls n ≡ Some recorded → may_stand recorded ≡ true → (span : Span) × Contains spans span × IsOfCall n recorded span
    pub crashes : (e : ℕ) → 1 ≤ e → e ≤ known.eras → (span : Span) × Contains spans span × IsOfCrash e span
    pub only : (span : Span) → Contains spans span → ((n : ℕ) × (recorded : RecordedCall) × IsOfCall n recorded span) ⊎ ((e : ℕ) × IsOfCrash e span)
