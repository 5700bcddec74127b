-- The replies in their order are those of all answered judged calls, each once.
use Rattle.std.proofs.Common.{◌≡◌, ◌≢◌, ◌==◌, ℕ, zero, suc, ◌<◌, ◌≤◌, Bool, true, false, cond, List, [], ◌∷◌, length, Option, Some, None, unwrap_or, refl, sym, ap, ◌∙◌, subst, arith, inl, inr}
use Rattle.std.specs.Prelude.{option_and_then}
use Rattle.std.specs.List.{filter}
use Rattle.std.specs.Option.{option_to_list}
use Rattle.std.proofs.lemmas.Bool.{ne_eqb, eqb-true, eq-eqb, false≢true, cases_lt, cases_eq}
use Rattle.std.proofs.lemmas.Option.{slice_get_cases}
use Rattle.std.proofs.lemmas.List.Sorted.{Contains-permutation, IsPermutation-sym}
use Rattle.std.proofs.lemmas.Map.Keys.{IsDistinct-IsPermutation}
use Rattle.nfs_history.specs.declared.recorded.RecordedCall.{RecordedCall}
use Rattle.nfs_history.specs.Precedence.{call_at}
use Rattle.nfs_history.specs.Reread.{call_kind}
use Rattle.certificate.specs.declared.plan.Place.{Place}
use Rattle.certificate.specs.declared.plan.Place.TheVariants.{Answered}
use Rattle.reply_order.specs.declared.replies.Reply.{Reply}
use Rattle.reply_order.specs.ReplyOrder.{is_answered, IsAnsweredIn, replied_at, RepliesRise, IsReplyPlace, FollowsReplies}
use Rattle.certificate.specs.Plan.{call_of}
use Rattle.reply_order.specs.Making.{reply_to, reply_at, replies_up_to, AreInOrder, is_of_era, place_of, places_in}
use Rattle.reply_order.proofs.Unique.{Among, Pairwise, all_among, among_contained, contained, among_left, among_right, among_either, among_option, option_among, among_filter, filter_among, among_map, map_among, pairs_of_distinct, distinct_of_pairs, pairs_in_order, pairs_append, pairs_option, pairs_become, pairs_filter, pairs_map, unique}

-- the reply to a call, and what is known of it
pub record IsReplyTo (n : ℕ) (found : Option RecordedCall) (r : Reply) : Type 0 where
  pub call : RecordedCall
  pub there : found ≡ Some call
  pub answered : is_answered (call_kind call) ≡ true
  pub number : r.number ≡ n
  pub at : r.«end» ≡ unwrap_or call.«end» 0
  pub of_era : r.era ≡ call.era

answered_so : (b : Bool) (x r : Reply) → cond b (Some x) None ≡ Some r → (b ≡ true) × (x ≡ r)
answered_so true x r is = (refl, cc)
answered_so false x r is = absurd (cc)

pub is_reply_to : (n : ℕ) (found : Option RecordedCall) (r : Reply) → reply_to n found ≡ Some r → IsReplyTo n found r
is_reply_to n None r is = absurd (cc)
is_reply_to n (Some call) r is =
    let x : Reply = record { number = n; «end» = unwrap_or call.«end» 0; era = call.era } in
    let h = answered_so (is_answered (call_kind call)) x r is in
    record { call = call; there = refl; answered = h.0; number = ap (λ (q : Reply). q.number) (sym h.1); at = ap (λ (q : Reply). q.«end») (sym h.1); of_era = ap (λ (q : Reply). q.era) (sym h.1) }

pub reply_given : (n : ℕ) (found : Option RecordedCall) (call : RecordedCall) → found ≡ Some call → is_answered (call_kind call) ≡ true
    → (r : Reply) × (reply_to n found ≡ Some r) × (r.number ≡ n) × (r.«end» ≡ unwrap_or call.«end» 0) × (r.era ≡ call.era)
reply_given n None call is answered = absurd (cc)
reply_given n (Some other) call is answered =
    let same : other ≡ call = cc in
    let x : Reply = record { number = n; «end» = unwrap_or call.«end» 0; era = call.era } in
    (x, subst (λ (c : RecordedCall). reply_to n (Some c) ≡ Some x) (sym same) (subst (λ b. cond b (Some x) None ≡ Some x) (sym answered) refl), refl, refl, refl)

end_there : (found : Option RecordedCall) (call : RecordedCall) → found ≡ Some call → unwrap_or (option_and_then (λ (c : RecordedCall). c.«end») found) 0 ≡ unwrap_or call.«end» 0
end_there found call is = ap (λ o. unwrap_or (option_and_then (λ (c : RecordedCall). c.«end») o) 0) is

known : (calls : List RecordedCall) (n : ℕ) (call : RecordedCall) → call_at calls n ≡ Some call → n ≤ length calls
known calls zero call is = omega arith
known calls (suc n) call is =
    elim (slice_get_cases calls n).1 [ inl w ↦ omega (arith, w.1) | inr w ↦ absurd (cc (w.1)) ]

flips : (x y : ℕ) → (x == y) ≡ (y == x)
flips x y = elim (cases_eq x y) [ inl e ↦ rw e refl | inr ne ↦ ne_eqb x y ne ∙ sym (ne_eqb y x (λ same. ne (sym same))) ]

differ : (x y : ℕ) → (x == y) ≡ false → Answered x ≢ Answered y
differ x y ne same = let e : x ≡ y = cc in false≢true (sym ne ∙ eq-eqb x y e)

module _ (calls : List RecordedCall) where
  up_to_each : (n : ℕ) (r : Reply) → Among r (replies_up_to calls n) → (reply_at calls r.number ≡ Some r) × (r.number ≤ n)
  up_to_each zero r a = absurd a
  up_to_each (suc n) r a =
      elim (among_either (replies_up_to calls n) (option_to_list (reply_at calls (suc n))) r a) [
        | inl l ↦ let h = up_to_each n r l in (h.0, omega (arith, h.1))
        | inr o ↦
            let is = among_option (reply_at calls (suc n)) r o in
            let so = is_reply_to (suc n) (call_at calls (suc n)) r is in
            (subst (λ m. reply_at calls m ≡ Some r) (sym so.number) is, omega (arith, so.number))
      ]

  up_to_every : (n m : ℕ) (r : Reply) → m ≤ n → reply_at calls m ≡ Some r → Among r (replies_up_to calls n)
  up_to_every zero zero r le is = absurd (cc)
  up_to_every zero (suc m) r le is = absurd (omega (arith, le))
  up_to_every (suc n) m r le is =
      elim (cases_lt m (suc n)) [
        | inl lt ↦ among_left (replies_up_to calls n) (option_to_list (reply_at calls (suc n))) r (up_to_every n m r (omega (arith, lt)) is)
        | inr ge ↦
            let same : m ≡ suc n = omega (arith, le, ge) in
            among_right (replies_up_to calls n) (option_to_list (reply_at calls (suc n))) r (option_among (reply_at calls (suc n)) r (subst (λ k. reply_at calls k ≡ Some r) same is))
      ]

  up_to_apart : (n : ℕ) → Pairwise (λ (a b : Reply). (a.number == b.number) ≡ false) (replies_up_to calls n)
  up_to_apart zero = tt
  up_to_apart (suc n) =
      pairs_append (λ (a b : Reply). (a.number == b.number) ≡ false) (replies_up_to calls n) (option_to_list (reply_at calls (suc n))) (up_to_apart n)
      (pairs_option (λ (a b : Reply). (a.number == b.number) ≡ false) (reply_at calls (suc n)))
      (λ x y a b.
      let low = (up_to_each n x a).1 in
      let so = is_reply_to (suc n) (call_at calls (suc n)) y (among_option (reply_at calls (suc n)) y b) in
      ne_eqb x.number y.number (λ same. omega (arith, low, so.number, same)))

  module _ (replies : List Reply) (order : AreInOrder calls replies) where
    pub each : (r : Reply) → Among r replies → reply_at calls r.number ≡ Some r
    each r a =
        (up_to_each (length calls) r (among_contained (replies_up_to calls (length calls)) r
        (Contains-permutation replies (replies_up_to calls (length calls)) r (IsPermutation-sym (replies_up_to calls (length calls)) replies order.shuffled) (contained replies r a)))).0

    pub every : (n : ℕ) (r : Reply) → reply_at calls n ≡ Some r → Among r replies
    every n r is =
        let so = is_reply_to n (call_at calls n) r is in
        among_contained replies r (Contains-permutation (replies_up_to calls (length calls)) replies r order.shuffled
        (contained (replies_up_to calls (length calls)) r (up_to_every (length calls) n r (known calls n so.call so.there) is)))

    pub apart : Pairwise (λ (a b : Reply). (a.number == b.number) ≡ false) replies
    apart =
        pairs_of_distinct (λ (a b : Reply). a.number == b.number) replies
        (IsDistinct-IsPermutation (λ (a b : Reply). a.number == b.number) (λ a b. flips a.number b.number) (replies_up_to calls (length calls)) replies order.shuffled
        (distinct_of_pairs (λ (a b : Reply). a.number == b.number) (replies_up_to calls (length calls)) (up_to_apart (length calls))))

    pub replied : (r : Reply) → Among r replies → replied_at calls r.number ≡ r.«end»
    replied r a =
        let so = is_reply_to r.number (call_at calls r.number) r (each r a) in
        end_there (call_at calls r.number) so.call so.there ∙ sym so.at

    pub in_order : Pairwise (λ (a b : Reply). replied_at calls a.number ≤ replied_at calls b.number) replies
    in_order =
        pairs_become (λ (a b : Reply). a.«end» ≤ b.«end») (λ (a b : Reply). replied_at calls a.number ≤ replied_at calls b.number) replies
        (λ x y a b le. omega (arith, le, replied x a, replied y b)) (pairs_in_order (λ (r : Reply). r.«end») replies order.ordered)

    -- each place is an answered judged call of its era
    pub places_each : (e : ℕ) (place : Place) → Among place (places_in replies e) → IsReplyPlace calls e place
    places_each e place a =
        let m = among_map place_of (filter (is_of_era e) replies) place a in
        let f = among_filter (is_of_era e) replies m.0 m.1 in
        let so = is_reply_to m.0.number (call_at calls m.0.number) m.0 (each m.0 f.0) in
        record {
          number = m.0.number;
          stands = sym m.2;
          answered = record { call = so.call; there = so.there; answered = so.answered; of_era = sym so.of_era ∙ eqb-true m.0.era e f.1 };
        }

    pub places_every : (e n : ℕ) → IsAnsweredIn calls e n → Among (Answered n) (places_in replies e)
    places_every e n is =
        let g = reply_given n (call_at calls n) is.call is.there is.answered in
        let passes : (g.0.era == e) ≡ true = eq-eqb g.0.era e (g.4 ∙ is.of_era) in
        subst (λ k. Among (Answered k) (places_in replies e)) g.2 (map_among place_of (filter (is_of_era e) replies) g.0 (filter_among (is_of_era e) replies g.0 (every n g.0 g.1) passes))

    rising_pairs : (places : List Place) → RepliesRise calls places → Pairwise (λ a b. replied_at calls (call_of a) < replied_at calls (call_of b)) places
    rising_pairs [] rise = tt
    rising_pairs (place ∷ places) rise = (rise.0, rising_pairs places rise.1)

    -- there is one list of places that follows the replies of an era
    pub one_era : (e : ℕ) (places : List Place) → FollowsReplies calls e places → places_in replies e ≡ places
    one_era e places follows =
        let R : Place → Place → Type 0 = λ a b. replied_at calls (call_of a) < replied_at calls (call_of b) in
        let W : Place → Place → Type 0 = λ a b. replied_at calls (call_of a) ≤ replied_at calls (call_of b) in
        let kept = filter (is_of_era e) replies in
        unique R W (λ x y lt le. omega (arith, lt, le)) (λ x lt. omega (arith, lt)) places (places_in replies e)
        (rising_pairs places follows.rising)
        (pairs_map W place_of kept (pairs_filter (λ (a b : Reply). replied_at calls a.number ≤ replied_at calls b.number) (is_of_era e) replies in_order))
        (pairs_map (λ x y. x ≢ y) place_of kept
        (pairs_become (λ (a b : Reply). (a.number == b.number) ≡ false) (λ (a b : Reply). place_of a ≢ place_of b) kept (λ x y a b ne. differ x.number y.number ne)
        (pairs_filter (λ (a b : Reply). (a.number == b.number) ≡ false) (is_of_era e) replies apart)))
        (λ place a.
        let h = all_among (λ p. IsReplyPlace calls e p) places place follows.each a in
        subst (λ p. Among p (places_in replies e)) (sym h.stands) (places_every e h.number h.answered))
        (λ place a.
        let h = places_each e place a in
        subst (λ p. Among p places) (sym h.stands) (among_contained places (Answered h.number) (follows.every h.number h.answered)))
