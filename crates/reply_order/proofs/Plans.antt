-- The eras of a plan that follows the replies are determined.
use Rattle.std.proofs.Common.{◌≡◌, ◌≢◌, ℕ, zero, suc, ◌+◌, ◌<◌, ◌≤◌, cond, nat_lt, le-ltb, lt-ltb, List, [], ◌∷◌, ◌++◌, length, map, Option, Some, None, refl, sym, ap, ◌∙◌, subst, arith, append-nil, append_assoc}
use Rattle.std.proofs.lemmas.Bool.{cond-true, cond-false}
use Rattle.nfs_history.specs.declared.recorded.RecordedCall.{RecordedCall}
use Rattle.certificate.specs.declared.plan.Place.{Place}
use Rattle.certificate.specs.declared.plan.Place.TheVariants.{Answered}
use Rattle.certificate.specs.declared.plan.EraPlan.{EraPlan}
use Rattle.certificate.specs.Plan.{call_of}
use Rattle.reply_order.specs.declared.replies.Reply.{Reply}
use Rattle.reply_order.specs.ReplyOrder.{replied_at, RepliesRise, IsReplyPlace, FollowsReplies, cut_behind, ErasFollow}
use Rattle.reply_order.specs.Making.{AreInOrder, AreGrouped, place_of, places_in, era_plan, plans_up_to}
use Rattle.reply_order.proofs.Unique.{Among, Pairwise, all_among, among_contained, pairs_become, unique}
use Rattle.reply_order.proofs.InReplies.{one_era}

same_era : (a b : EraPlan) → a.places ≡ b.places → a.cut ≡ b.cut → a ≡ b
same_era a b p q =
    let first : List Place → EraPlan = λ ps. record { places = ps; cut = a.cut } in
    let second : Option ℕ → EraPlan = λ c. record { places = b.places; cut = c } in
    ap first p ∙ ap second q

-- ---- two plans

rising_pairs : (calls : List RecordedCall) (places : List Place) → RepliesRise calls places → Pairwise (λ a b. replied_at calls (call_of a) < replied_at calls (call_of b)) places
rising_pairs calls [] rise = tt
rising_pairs calls (place ∷ places) rise = (rise.0, rising_pairs calls places rise.1)

in_both : (calls : List RecordedCall) (e : ℕ) (xs ys : List Place) → FollowsReplies calls e xs → FollowsReplies calls e ys → (place : Place) → Among place xs → Among place ys
in_both calls e xs ys one other place a =
    let h = all_among (λ p. IsReplyPlace calls e p) xs place one.each a in
    subst (λ p. Among p ys) (sym h.stands) (among_contained ys (Answered h.number) (other.every h.number h.answered))

two_eras : (calls : List RecordedCall) (e : ℕ) (xs ys : List Place) → FollowsReplies calls e xs → FollowsReplies calls e ys → ys ≡ xs
two_eras calls e xs ys one other =
    let key : Place → ℕ = λ p. replied_at calls (call_of p) in
    let R : Place → Place → Type 0 = λ a b. replied_at calls (call_of a) < replied_at calls (call_of b) in
    let W : Place → Place → Type 0 = λ a b. replied_at calls (call_of a) ≤ replied_at calls (call_of b) in
    let strict = rising_pairs calls ys other.rising in
    unique R W (λ x y lt le. omega (arith, lt, le)) (λ x lt. omega (arith, lt)) xs ys
    (rising_pairs calls xs one.rising)
    (pairs_become R W ys (λ x y a b lt. omega (arith, lt)) strict)
    (pairs_become R (λ x y. x ≢ y) ys (λ x y a b lt same. omega (arith, lt, ap key same)) strict)
    (in_both calls e xs ys one other) (in_both calls e ys xs other one)

pub two_plans : (calls : List RecordedCall) (e : ℕ) (xs ys : List EraPlan) → ErasFollow calls e xs → ErasFollow calls e ys → length xs ≡ length ys → ys ≡ xs
two_plans calls e [] [] one other len = refl
two_plans calls e [] (y ∷ ys) one other len = absurd (omega (arith, len))
two_plans calls e (x ∷ xs) [] one other len = absurd (omega (arith, len))
two_plans calls e (x ∷ xs) (y ∷ ys) one other len =
    let rest : ys ≡ xs = two_plans calls (e + 1) xs ys one.2 other.2 (omega (arith, len)) in
    let places : y.places ≡ x.places = two_eras calls e x.places y.places one.0 other.0 in
    let cut : y.cut ≡ x.cut = other.1 ∙ ap (λ ps. cut_behind ps ys) places ∙ ap (λ es. cut_behind x.places es) rest ∙ sym one.1 in
    let here : y ≡ x = same_era y x places cut in
    cc

-- ---- the plan that is made

plans_behind : List Reply → ℕ → ℕ → ℕ → List EraPlan
plans_behind replies eras e zero = []
plans_behind replies eras e (suc k) = era_plan replies e eras ∷ plans_behind replies eras (e + 1) k

all_behind : (replies : List Reply) (eras n k : ℕ) → plans_up_to replies eras n ++ plans_behind replies eras (suc n) k ≡ plans_up_to replies eras (n + k)
unfolding plans_behind
all_behind replies eras n zero =
    let e : n ≡ n + 0 = omega arith in append-nil (plans_up_to replies eras n) ∙ ap (plans_up_to replies eras) e
all_behind replies eras n (suc k) =
    let e : suc n + k ≡ n + suc k = omega arith in
    let f : suc n + 1 ≡ suc (suc n) = omega arith in
    sym (append_assoc (plans_up_to replies eras n) (era_plan replies (suc n) eras ∷ []) (plans_behind replies eras (suc n + 1) k))
    ∙ ap (λ m. plans_up_to replies eras (suc n) ++ plans_behind replies eras m k) f
    ∙ all_behind replies eras (suc n) k ∙ ap (plans_up_to replies eras) e

cut_is : (e eras k : ℕ) (here places : List Place) (plan : List EraPlan) → here ≡ places → length plan ≡ k → e + suc k ≡ eras + 1
    → cond (nat_lt e eras) (Some (length here)) None ≡ cut_behind places plan
cut_is e eras k here places [] same len sum = cond-false (nat_lt e eras) (Some (length here)) None (le-ltb e eras (omega (arith, len, sum)))
cut_is e eras k here places (next ∷ plan) same len sum =
    cond-true (nat_lt e eras) (Some (length here)) None (lt-ltb e eras (omega (arith, len, sum))) ∙ ap (λ ps. Some (length ps)) same

module _ (calls : List RecordedCall) (replies grouped : List Reply) (order : AreInOrder calls replies) (by_era : AreGrouped replies grouped) where
  made_behind : (eras e k : ℕ) (plan : List EraPlan) → ErasFollow calls e plan → length plan ≡ k → e + k ≡ eras + 1 → plans_behind grouped eras e k ≡ plan
  unfolding plans_behind
  made_behind eras e zero [] follow len sum = refl
  made_behind eras e zero (p ∷ plan) follow len sum = absurd (omega (arith, len))
  made_behind eras e (suc k) [] follow len sum = absurd (omega (arith, len))
  made_behind eras e (suc k) (p ∷ plan) follow len sum =
      let places : places_in grouped e ≡ p.places = ap (map place_of) (by_era.kept e) ∙ one_era calls replies order e p.places follow.0 in
      let short : length plan ≡ k = omega (arith, len) in
      let cut : (era_plan grouped e eras).cut ≡ p.cut = cut_is e eras k (places_in grouped e) p.places plan places short sum ∙ sym follow.1 in
      let here : era_plan grouped e eras ≡ p = same_era (era_plan grouped e eras) p places cut in
      let rest : plans_behind grouped eras (e + 1) k ≡ plan = made_behind eras (e + 1) k plan follow.2 short (omega (arith, sum)) in
      cc

  pub made_eras : (eras : ℕ) (plan : List EraPlan) → ErasFollow calls 1 plan → length plan ≡ eras → plans_up_to grouped eras eras ≡ plan
  made_eras eras plan follow len =
      let none : 0 + eras ≡ eras = omega arith in
      sym (all_behind grouped eras 0 eras ∙ ap (plans_up_to grouped eras) none) ∙ made_behind eras 1 eras plan follow len (omega arith)
