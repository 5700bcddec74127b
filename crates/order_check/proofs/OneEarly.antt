-- A plan has at most one first early place.
use Rattle.std.proofs.Common.{◌≡◌, ◌⊎◌, inl, inr, ℕ, ◌<◌, ◌≤◌, List, [], ◌∷◌, ◌++◌, refl, sym, ap, subst, ◌∙◌, arith, rules}
use Rattle.std.specs.List.{AllByRecursion}
use Rattle.nfs_history.specs.declared.recorded.RecordedCall.{RecordedCall}
use Rattle.nfs_history.specs.Precedence.{begin_of}
use Rattle.certificate.specs.declared.plan.Place.{Place}
use Rattle.certificate.specs.declared.plan.EraPlan.{EraPlan}
use Rattle.certificate.specs.Plan.{call_of}
use Rattle.order_check.specs.declared.fault.OrderFault.{OrderFault}
use Rattle.order_check.specs.declared.fault.OrderFault.TheVariants.{Early}
use Rattle.order_check.specs.Order.{RespectsOrder, EachEraRespectsOrder, BeganLast, IsEarlyAmong, IsFirstEarly, IsEarlyFault}
use Rattle.order_check.proofs.OrderLaws.{all_behind, all_by, not_early}

-- two places of one list are one, or one of them stands ahead of the other
abbrev pub SameOrApart : {X : Type 0} → List X → List X → X → X → Type 0
SameOrApart {X} a c x y = ((a ≡ c) × (x ≡ y)) ⊎ (((m : List X) × (c ≡ a ++ x ∷ m)) ⊎ ((m : List X) × (a ≡ c ++ y ∷ m)))

one_more : {X : Type 0} (z w : X) (a c : List X) (x y : X) → z ≡ w → SameOrApart a c x y → SameOrApart (z ∷ a) (w ∷ c) x y
one_more z w a c x y heads (inl same) = inl (cc (heads, same.0), same.1)
one_more z w a c x y heads (inr (inl ahead)) = inr (inl (ahead.0, cc (heads, ahead.1)))
one_more z w a c x y heads (inr (inr behind)) = inr (inr (behind.0, cc (heads, behind.1)))

pub two_places : {X : Type 0} (a c : List X) (x y : X) (b d : List X) → a ++ x ∷ b ≡ c ++ y ∷ d → SameOrApart a c x y
two_places [] [] x y b d e = inl (refl, cc)
two_places [] (z ∷ c) x y b d e = inr (inl (c, cc))
two_places (z ∷ a) [] x y b d e = inr (inr (a, cc))
two_places (z ∷ a) (w ∷ c) x y b d e =
    let heads : z ≡ w = cc in
    let tails : a ++ x ∷ b ≡ c ++ y ∷ d = cc in
    one_more z w a c x y heads (two_places a c x y b d tails)

module _ (calls : List RecordedCall) where
  -- the call that began last is no earlier than any other
  not_after : (places : List Place) (i k : ℕ) → BeganLast calls places i → BeganLast calls places k → begin_of calls k ≤ begin_of calls i
  not_after places i k x y =
      let By : Place → Type 0 = λ p. begin_of calls (call_of p) ≤ begin_of calls i in
      let there = all_behind By y.ahead (y.latest ∷ y.behind) (subst (AllByRecursion By) y.stands (all_by calls places i x)) in
      subst (λ n. begin_of calls n ≤ begin_of calls i) y.named there.0

  -- of two calls that began last neither stands ahead of the other
  not_ahead : (places : List Place) (i k : ℕ) (x : BeganLast calls places i) (y : BeganLast calls places k) (m : List Place) → y.ahead ≡ x.ahead ++ x.latest ∷ m → i ≡ k
  not_ahead places i k x y m stands =
      let Before : Place → Type 0 = λ p. begin_of calls (call_of p) < begin_of calls k in
      let there = all_behind Before x.ahead (x.latest ∷ m) (subst (AllByRecursion Before) stands y.after_those_ahead) in
      let before : begin_of calls i < begin_of calls k = subst (λ n. begin_of calls n < begin_of calls k) x.named there.0 in
      let by = not_after places i k x y in
      absurd (omega arith)

  one_last : (places : List Place) (i k : ℕ) → BeganLast calls places i → BeganLast calls places k → i ≡ k
  one_last places i k x y = go (two_places x.ahead y.ahead x.latest y.latest x.behind y.behind (sym x.stands ∙ y.stands)) where
    go : SameOrApart x.ahead y.ahead x.latest y.latest → i ≡ k
    go (inl same) = sym x.named ∙ ap call_of same.1 ∙ y.named
    go (inr (inl ahead)) = not_ahead places i k x y ahead.0 ahead.1
    go (inr (inr behind)) = sym (not_ahead places k i y x behind.0 behind.1)

  -- an early place doesn't stand ahead of the first one
  not_first : (places : List Place) (i j k l : ℕ) (x : IsEarlyAmong calls places i j) (y : IsEarlyAmong calls places k l) (m : List Place) → y.ahead ≡ x.ahead ++ x.early ∷ m → Early i j ≡ Early k l
  not_first places i j k l x y m stands =
      let early : IsEarlyAmong calls y.ahead i j = record {
        ahead = x.ahead;
        early = x.early;
        behind = m;
        stands = stands;
        named = x.named;
        first = x.first;
        began_last = x.began_last;
        precedes = x.precedes;
      } in
      absurd (not_early calls y.ahead i j early y.first)

  one_pair : (i j k l : ℕ) → i ≡ k → j ≡ l → Early i j ≡ Early k l
  one_pair i j k l first second = cc

  one_among : (places : List Place) (i j k l : ℕ) → IsEarlyAmong calls places i j → IsEarlyAmong calls places k l → Early i j ≡ Early k l
  one_among places i j k l x y = go (two_places x.ahead y.ahead x.early y.early x.behind y.behind (sym x.stands ∙ y.stands)) where
    go : SameOrApart x.ahead y.ahead x.early y.early → Early i j ≡ Early k l
    go (inl same) = one_pair i j k l (one_last y.ahead i k (subst (λ ps. BeganLast calls ps i) same.0 x.began_last) y.began_last) (sym x.named ∙ ap call_of same.1 ∙ y.named)
    go (inr (inl ahead)) = not_first places i j k l x y ahead.0 ahead.1
    go (inr (inr behind)) = sym (not_first places k l i j y x behind.0 behind.1)

  -- an era with an early place doesn't stand ahead of the first one
  no_era_ahead : (plan : List EraPlan) (i j k l : ℕ) (x : IsFirstEarly calls plan i j) (y : IsFirstEarly calls plan k l) (m : List EraPlan) → y.eras_ahead ≡ x.eras_ahead ++ x.era ∷ m → Early i j ≡ Early k l
  no_era_ahead plan i j k l x y m stands =
      let there = all_behind (λ era. RespectsOrder calls era.places) x.eras_ahead (x.era ∷ m) (subst (EachEraRespectsOrder calls) stands y.first) in
      absurd (not_early calls x.era.places i j x.among there.0)

  one_first : (plan : List EraPlan) (i j k l : ℕ) → IsFirstEarly calls plan i j → IsFirstEarly calls plan k l → Early i j ≡ Early k l
  one_first plan i j k l x y = go (two_places x.eras_ahead y.eras_ahead x.era y.era x.eras_behind y.eras_behind (sym x.stands ∙ y.stands)) where
    go : SameOrApart x.eras_ahead y.eras_ahead x.era y.era → Early i j ≡ Early k l
    go (inl same) = one_among y.era.places i j k l (subst (λ (era : EraPlan). IsEarlyAmong calls era.places i j) same.1 x.among) y.among
    go (inr (inl ahead)) = no_era_ahead plan i j k l x y ahead.0 ahead.1
    go (inr (inr behind)) = sym (no_era_ahead plan k l i j y x behind.0 behind.1)

  pub one_early : (plan : List EraPlan) (f g : OrderFault) → IsEarlyFault calls plan f → IsEarlyFault calls plan g → f ≡ g
  one_early plan (Early i j) (Early k l) x y = one_first plan i j k l x y
