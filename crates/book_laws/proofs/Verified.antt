-- the write verifiers of a book's plan show each loss
use Rattle.std.proofs.Common.{◌≡◌, ℕ, zero, suc, ◌+◌, ◌<◌, List, [], ◌∷◌, Option, Some, None, sym, ap, ◌∙◌, subst, arith}
use Rattle.std.specs.Prelude.{IfSome, option_and_then}
use Rattle.nfs3_types.specs.declared.calls.NfsCall.{NfsCall}
use Rattle.nfs3_types.specs.declared.replies.Outcome.{Outcome}
use Rattle.nfs_history.specs.declared.recorded.Meaning.TheVariants as meanings
use Rattle.nfs_history.specs.declared.recorded.RecordedCall.{RecordedCall}
use Rattle.certificate.specs.declared.plan.Place.{Place}
use Rattle.certificate.specs.declared.plan.EraPlan.{EraPlan}
use Rattle.cut_check.specs.Places.{answered_with, era_at}
use Rattle.cut_check.specs.Verifier.{verifier_of, verifier_at, Shows, VerifiersAgree}
use Rattle.book_laws.specs.Placing.{Placed}
use Rattle.book_laws.specs.Book.{Book}
use Rattle.book_laws.specs.Plan.{place_of, places_of, plan_over, plan_now, plan_of}
use Rattle.book_laws.proofs.Invariant.{Over, IsKnown, AreKnown, AllKnown, IsInvariant}
use Rattle.book_laws.proofs.Lists.{all_behind, given_parts}
use Rattle.book_laws.proofs.Shaped.{plans, Stands, stands}
use Rattle.book_laws.proofs.Shaped.Stands.{answered, taken}
use Rattle.book_laws.proofs.Stable.{contains_parts}

-- the verifier of a place is the number of its era
shows_era : (calls : List RecordedCall) (e : ℕ) (step : Placed) (place : Place) (verifier : ℕ) → IsKnown calls e step → place_of calls step ≡ Some place → verifier_at calls place ≡ Some verifier → verifier ≡ e
shows_era calls e step place verifier k is shows = go (stands calls e step place k is) where
  by_reply : (o : Option ℕ) → o ≡ Some verifier → IfSome o (λ v. v ≡ e) → verifier ≡ e
  by_reply None f h = absurd (cc)
  by_reply (Some v) f h = one f ∙ h where
    one : Some v ≡ Some verifier → verifier ≡ v
    one g = cc

  go : Stands calls step k.call place → verifier ≡ e
  go (answered ended came at) =
      by_reply (verifier_of step.call step.outcome)
      (sym (ap (verifier_at calls) at
      ∙ ap (option_and_then (λ (a : NfsCall × Outcome). verifier_of a.0 a.1))
      (ap (option_and_then (λ (call : RecordedCall). answered_with call.meaning call.outcome)) k.recorded ∙ ap (λ m. answered_with m k.call.outcome) k.judged ∙ ap (answered_with (meanings.Judged step.call)) came)) ∙ shows)
      k.verifier
  go (taken quiet recorded at) = absurd (none (sym (ap (verifier_at calls) at) ∙ shows)) where
    none : None ≡ Some verifier → ⊥
    none f = cc

shown_in : (calls : List RecordedCall) (e : ℕ) (steps : List Placed) (verifier : ℕ) → AreKnown calls e steps → Shows calls (places_of calls steps) verifier → verifier ≡ e
shown_in calls e steps verifier known shows =
    let found = contains_parts (places_of calls steps) shows.0 shows.1.0 shows.1.1 shows.1.2 in
    let step = given_parts (place_of calls) steps found.0 shows.0 found.1 found.2 in
    let k = (all_behind (IsKnown calls e) step.first (step.here ∷ step.rest) (subst (AreKnown calls e) step.parts known)).0 in
    shows_era calls e step.here shows.0 verifier k step.gives shows.2

-- of any era of the plan
shown_at : (calls : List RecordedCall) (e : ℕ) (over : List Over) (placed : List Placed) (k : ℕ) (era : EraPlan) (verifier : ℕ) → AllKnown calls e over placed
    → era_at (plans calls over placed) (suc k) ≡ Some era → Shows calls era.places verifier → verifier ≡ e + k
shown_at calls e [] placed zero era verifier known at shows = shown_in calls e placed verifier known (subst (λ (x : EraPlan). Shows calls x.places verifier) (sym (is at)) shows) ∙ omega arith where
  is : Some (plan_now calls placed) ≡ Some era → plan_now calls placed ≡ era
  is f = cc
shown_at calls e [] placed (suc k) era verifier known at shows = absurd (none at) where
  none : None ≡ Some era → ⊥
  none f = cc
shown_at calls e (first ∷ over) placed zero era verifier known at shows =
    shown_in calls e first.steps verifier known.0 (subst (λ (x : EraPlan). Shows calls x.places verifier) (sym (is at)) shows) ∙ omega arith where
      is : Some (plan_over calls first) ≡ Some era → plan_over calls first ≡ era
      is f = cc
shown_at calls e (first ∷ over) placed (suc k) era verifier known at shows = shown_at calls (e + 1) over placed k era verifier known.1 at shows ∙ omega arith

module _ (calls : List RecordedCall) (over : List Over) (placed : List Placed) (known : AllKnown calls 1 over placed) where
  shown : (k : ℕ) (era : EraPlan) (verifier : ℕ) → era_at (plans calls over placed) k ≡ Some era → Shows calls era.places verifier → verifier ≡ k
  shown zero era verifier at shows = absurd (none at) where
    none : None ≡ Some era → ⊥
    none f = cc
  shown (suc k) era verifier at shows = shown_at calls 1 over placed k era verifier known at shows ∙ omega arith

  pub verifiers_agree : VerifiersAgree calls (plans calls over placed)
  verifiers_agree = record {
    within = λ e one other era at shows shows_other. shown e era one at shows ∙ sym (shown e era other at shows_other);
    across = λ e f verifier era later lt at at_later loses shows shows_later. clash lt (sym (shown e era verifier at shows) ∙ shown f later verifier at_later shows_later);
  } where
    clash : {e f : ℕ} → e < f → e ≡ f → ⊥
    clash lt same = omega (arith, lt, same)

pub verifiers_show : (book : Book) → IsInvariant book → VerifiersAgree book.history.known.calls (plan_of book).eras
verifiers_show book i = verifiers_agree book.history.known.calls book.over book.placed i.known
