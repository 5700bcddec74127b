-- what passes tell of a history depends on its calls and events alone
use Rattle.std.proofs.Common.{◌≡◌, ◌⊎◌, ℕ, List, Some, inl, inr, refl, sym, ap, subst, ◌∙◌}
use Rattle.std.specs.Prelude.{is_some, count_by, IsTrue, Any}
use Rattle.nfs_history.specs.declared.recorded.RecordedCall.{RecordedCall}
use Rattle.nfs_history.specs.HistoryValue.{HistoryValue, CallsValue}
use Rattle.nfs_history.specs.Precedence.{call_at}
use Rattle.server_passes.specs.PassValue.{ExchangeValue, PassValue}
use Rattle.server_passes.specs.Matching.{exchanges_on, answered, IsToldOther, IsTorn, IsTold, IsLeastTorn, IsCloseFault, AreCovered}
use Rattle.server_passes.specs.declared.fault.CloseFault.{CloseFault}
use Rattle.server_passes.specs.declared.fault.CloseFault.TheVariants as faults

module _ (h g : HistoryValue) (known : g.known ≡ h.known) (events : g.events ≡ h.events) (passes : List PassValue) where
  same_answered : answered g ≡ answered h
  same_answered = ap (λ (k : CallsValue). count_by (λ call. is_some call.«end») k.calls) known

  same_exchanges : (lane : ℕ) → exchanges_on g lane ≡ exchanges_on h lane
  same_exchanges lane =
      ap (λ (k : CallsValue). exchanges_on (record { known = k; events = g.events; spare = 0 }) lane) known
      ∙ ap (λ e. exchanges_on (record { known = h.known; events = e; spare = 0 }) lane) events

  torn_there : (lane : ℕ) → IsTorn g passes lane → IsTorn h passes lane
  torn_there lane (inl twice) = inl twice
  torn_there lane (inr other) = inr (subst (λ (ex : List ExchangeValue). IsToldOther ex passes lane) (same_exchanges lane) other)

  torn_here : (lane : ℕ) → IsTorn h passes lane → IsTorn g passes lane
  torn_here lane (inl twice) = inl twice
  torn_here lane (inr other) = inr (subst (λ (ex : List ExchangeValue). IsToldOther ex passes lane) (sym (same_exchanges lane)) other)

  pub told_same : IsTold h passes → IsTold g passes
  told_same t = record { all = t.all ∙ sym same_answered; whole = λ lane torn. t.whole lane (torn_there lane torn) }

  pub covered_same : AreCovered h passes → AreCovered g passes
  covered_same covered number call at ended = covered number call (subst (λ (k : CallsValue). call_at k.calls number ≡ Some call) known at) ended

  pub least_same : (lane : ℕ) → IsLeastTorn h passes lane → IsLeastTorn g passes lane
  least_same lane l = record { all = l.all ∙ sym same_answered; torn = torn_here lane l.torn; least = λ other lt torn. l.least other lt (torn_there other torn) }

  pub fault_same : (fault : CloseFault) → IsCloseFault h passes fault → IsCloseFault g passes fault
  fault_same faults.MissingPass apart = λ same. apart (same ∙ same_answered)
  fault_same (faults.Torn lane) least = least_same lane least
  fault_same faults.NoMemory any = tt
