-- Which call a reply answers, event by event.
use Rattle.std.proofs.Common.{◌≡◌, ◌==◌, ◌&&◌, ◌||◌, not, ℕ, suc, ◌+◌, ◌≤◌, Bool, true, false, cond, is_none, List, [], ◌∷◌, ◌++◌, length, map, Option, Some, None, refl, sym, ap, ◌∙◌, arith, add-zero}
use Rattle.std.specs.List.{list_any}
use Rattle.std.proofs.lemmas.Bool.{eqb-true, eq-eqb, ne_eqb, false≢true}
use Rattle.history_file.specs.Event.{Event}
use Rattle.history_file.specs.Event.Event.{call, reply, close, crash}
use Rattle.nfs_history.specs.Calls.{ReplyEvent, CallEvent, first_reply, calls_from, eras_from, xid_of}
use Rattle.nfs_history.specs.Checking.{is_place, AnswersWait}
use Rattle.nfs_history.specs.Matching.{same_key}
use Rattle.nfs_history.specs.Standing.{is_unanswered}
use Rattle.nfs_history.proofs.Unanswered.{first_reply-call, and_true}

-- ---- Bools and numbers

and_false : (b : Bool) → b && false ≡ false
and_false true = refl
and_false false = refl

or_none : (a b : Bool) → a || b ≡ false → (a ≡ false) × (b ≡ false)
or_none true b h = absurd (false≢true (sym h))
or_none false b h = (refl, h)

all_three : (a b c : Bool) → (a && b) && c ≡ true → (a ≡ true) × (b ≡ true) × (c ≡ true)
all_three true b c h = both b c h where
  both : (b c : Bool) → b && c ≡ true → (true ≡ true) × (b ≡ true) × (c ≡ true)
  both true c h = (refl, refl, h)
  both false c h = absurd (false≢true h)
all_three false b c h = absurd (false≢true h)

pub one_further : (i n : ℕ) → (i + 1) + n ≡ i + suc n
one_further i n = omega arith

eq_turned : (a b : ℕ) → (a == b) ≡ (b == a)
eq_turned a b = go (a == b) refl where
  go : (t : Bool) → (a == b) ≡ t → (a == b) ≡ (b == a)
  go true is = is ∙ sym (eq-eqb b a (sym (eqb-true a b is)))
  go false is = is ∙ sym (ne_eqb b a (λ same. let wrong : (a == b) ≡ true = eq-eqb a b (sym same) in absurd (false≢true (sym is ∙ wrong))))

-- ---- one call more

-- a call that begins
abbrev pub new_call : ℕ → List ℕ → ℕ → ℕ → CallEvent
new_call lane message begin era = record { lane = lane; message = message; begin = begin; era = era; answer = None }

pub calls_from-call : (i era : ℕ) (events : List Event) (l : ℕ) (m : List ℕ) → calls_from i era (events ++ call l m ∷ []) ≡ calls_from i era events ++ new_call l m (i + length events) (eras_from era events) ∷ []
calls_from-call i era [] l m = let one : ℕ → List CallEvent = λ n. new_call l m n era ∷ [] in ap one (sym (add-zero i))
calls_from-call i era (reply on n ∷ events) l m =
    calls_from-call (i + 1) era events l m ∙ ap (λ k. calls_from (i + 1) era events ++ new_call l m k (eras_from era events) ∷ []) (one_further i (length events))
calls_from-call i era (close on ∷ events) l m =
    calls_from-call (i + 1) era events l m ∙ ap (λ k. calls_from (i + 1) era events ++ new_call l m k (eras_from era events) ∷ []) (one_further i (length events))
calls_from-call i era (crash ∷ events) l m =
    calls_from-call (i + 1) (era + 1) events l m ∙ ap (λ k. calls_from (i + 1) (era + 1) events ++ new_call l m k (eras_from (era + 1) events) ∷ []) (one_further i (length events))
calls_from-call i era (call on n ∷ events) l m =
    let here : Option ReplyEvent → CallEvent = λ a. record { lane = on; message = n; begin = i; era = era; answer = a } in
    ap (λ a. here a ∷ calls_from (i + 1) era (events ++ call l m ∷ [])) (first_reply-call on (xid_of n) (i + 1) events l m)
    ∙ ap (λ cs. here (first_reply on (xid_of n) (i + 1) events) ∷ cs) (calls_from-call (i + 1) era events l m)
    ∙ ap (λ k. here (first_reply on (xid_of n) (i + 1) events) ∷ (calls_from (i + 1) era events ++ new_call l m k (eras_from era events) ∷ [])) (one_further i (length events))

-- ---- one reply more

or_else : Option ReplyEvent → Option ReplyEvent → Option ReplyEvent
or_else None other = other
or_else (Some r) other = Some r

abbrev pub reply_at : ℕ → List ℕ → ReplyEvent
reply_at n m = record { number = n; message = m }

chosen_first : (b : Bool) (r : ReplyEvent) (o p : Option ReplyEvent) → cond b (Some r) (or_else o p) ≡ or_else (cond b (Some r) o) p
unfolding or_else
chosen_first true r o p = refl
chosen_first false r o p = refl

first_reply-reply : (lane xid i : ℕ) (events : List Event) (l : ℕ) (m : List ℕ)
    → first_reply lane xid i (events ++ reply l m ∷ []) ≡ or_else (first_reply lane xid i events) (cond ((l == lane) && (xid_of m == xid)) (Some (reply_at (i + length events) m)) None)
unfolding or_else
first_reply-reply lane xid i [] l m = ap (λ n. cond ((l == lane) && (xid_of m == xid)) (Some (reply_at n m)) None) (sym (add-zero i))
first_reply-reply lane xid i (call on n ∷ events) l m =
    first_reply-reply lane xid (i + 1) events l m ∙ ap (λ k. or_else (first_reply lane xid (i + 1) events) (cond ((l == lane) && (xid_of m == xid)) (Some (reply_at k m)) None)) (one_further i (length events))
first_reply-reply lane xid i (close on ∷ events) l m =
    first_reply-reply lane xid (i + 1) events l m ∙ ap (λ k. or_else (first_reply lane xid (i + 1) events) (cond ((l == lane) && (xid_of m == xid)) (Some (reply_at k m)) None)) (one_further i (length events))
first_reply-reply lane xid i (crash ∷ events) l m =
    first_reply-reply lane xid (i + 1) events l m ∙ ap (λ k. or_else (first_reply lane xid (i + 1) events) (cond ((l == lane) && (xid_of m == xid)) (Some (reply_at k m)) None)) (one_further i (length events))
first_reply-reply lane xid i (reply on n ∷ events) l m =
    let b = (on == lane) && (xid_of n == xid) in
    let last : ℕ → Option ReplyEvent = λ k. cond ((l == lane) && (xid_of m == xid)) (Some (reply_at k m)) None in
    ap (λ o. cond b (Some (reply_at i n)) o) (first_reply-reply lane xid (i + 1) events l m)
    ∙ ap (λ k. cond b (Some (reply_at i n)) (or_else (first_reply lane xid (i + 1) events) (last k))) (one_further i (length events))
    ∙ chosen_first b (reply_at i n) (first_reply lane xid (i + 1) events) (last (i + suc (length events)))

-- the call, with this reply if it is unanswered on the lane with the transaction number
abbrev pub answered_if : ℕ → ℕ → ReplyEvent → CallEvent → CallEvent
answered_if lane xid r c = cond (is_unanswered lane xid c) (record c { answer = Some r }) c

abbrev asked_so : ℕ → List ℕ → ℕ → ℕ → Option ReplyEvent → CallEvent
asked_so on n i era a = record { lane = on; message = n; begin = i; era = era; answer = a }

answered_here : (l x : ℕ) (r : ReplyEvent) (on : ℕ) (n : List ℕ) (i era : ℕ) (a : Option ReplyEvent)
    → asked_so on n i era (or_else a (cond ((l == on) && (x == xid_of n)) (Some r) None)) ≡ answered_if l x r (asked_so on n i era a)
unfolding or_else
answered_here l x r on n i era (Some s) =
    sym (ap (λ b. cond b (asked_so on n i era (Some r)) (asked_so on n i era (Some s))) (and_false ((on == l) && (xid_of n == x))))
answered_here l x r on n i era None = go ((on == l) && (xid_of n == x)) refl where
  turned : (l == on) && (x == xid_of n) ≡ (on == l) && (xid_of n == x)
  turned = ap (λ b. b && (x == xid_of n)) (eq_turned l on) ∙ ap (λ b. (on == l) && b) (eq_turned x (xid_of n))

  go : (b : Bool) → (on == l) && (xid_of n == x) ≡ b
      → asked_so on n i era (cond ((l == on) && (x == xid_of n)) (Some r) None) ≡ cond (((on == l) && (xid_of n == x)) && true) (asked_so on n i era (Some r)) (asked_so on n i era None)
  go true is = ap (λ b. asked_so on n i era (cond b (Some r) None)) (turned ∙ is) ∙ sym (ap (λ b. cond (b && true) (asked_so on n i era (Some r)) (asked_so on n i era None)) is)
  go false is = ap (λ b. asked_so on n i era (cond b (Some r) None)) (turned ∙ is) ∙ sym (ap (λ b. cond (b && true) (asked_so on n i era (Some r)) (asked_so on n i era None)) is)

pub calls_from-reply : (i era : ℕ) (events : List Event) (l : ℕ) (m : List ℕ)
    → calls_from i era (events ++ reply l m ∷ []) ≡ map (answered_if l (xid_of m) (reply_at (i + length events) m)) (calls_from i era events)
calls_from-reply i era [] l m = refl
calls_from-reply i era (reply on n ∷ events) l m =
    calls_from-reply (i + 1) era events l m ∙ ap (λ k. map (answered_if l (xid_of m) (reply_at k m)) (calls_from (i + 1) era events)) (one_further i (length events))
calls_from-reply i era (close on ∷ events) l m =
    calls_from-reply (i + 1) era events l m ∙ ap (λ k. map (answered_if l (xid_of m) (reply_at k m)) (calls_from (i + 1) era events)) (one_further i (length events))
calls_from-reply i era (crash ∷ events) l m =
    calls_from-reply (i + 1) (era + 1) events l m ∙ ap (λ k. map (answered_if l (xid_of m) (reply_at k m)) (calls_from (i + 1) (era + 1) events)) (one_further i (length events))
calls_from-reply i era (call on n ∷ events) l m =
    let here : Option ReplyEvent → CallEvent = λ a. record { lane = on; message = n; begin = i; era = era; answer = a } in
    let found = first_reply on (xid_of n) (i + 1) events in
    let behind = calls_from (i + 1) era events in
    ap (λ a. here a ∷ calls_from (i + 1) era (events ++ reply l m ∷ [])) (first_reply-reply on (xid_of n) (i + 1) events l m)
    ∙ ap (λ cs. here (or_else found (cond ((l == on) && (xid_of m == xid_of n)) (Some (reply_at ((i + 1) + length events) m)) None)) ∷ cs) (calls_from-reply (i + 1) era events l m)
    ∙ ap (λ k. here (or_else found (cond ((l == on) && (xid_of m == xid_of n)) (Some (reply_at k m)) None)) ∷ map (answered_if l (xid_of m) (reply_at k m)) behind) (one_further i (length events))
    ∙ ap (λ (c : CallEvent). c ∷ map (answered_if l (xid_of m) (reply_at (i + suc (length events)) m)) behind) (answered_here l (xid_of m) (reply_at (i + suc (length events)) m) on n i era found)

-- ---- the calls that wait for an answer

pub waits-one : (lane xid k : ℕ) (place : Option ℕ) (calls : List CallEvent) (c : CallEvent) → AnswersWait lane xid place k calls → is_unanswered lane xid c ≡ is_place (k + length calls) place → AnswersWait lane xid place k (calls ++ c ∷ [])
waits-one lane xid k place [] c waits is = (is ∙ ap (λ n. is_place n place) (add-zero k), tt)
waits-one lane xid k place (d ∷ calls) c waits is = (waits.0, waits-one lane xid (k + 1) place calls c waits.1 (is ∙ ap (λ n. is_place n place) (sym (one_further k (length calls)))))

pub none_waits : (lane xid k place : ℕ) (calls : List CallEvent) → list_any (is_unanswered lane xid) calls ≡ false → k + length calls ≤ place → AnswersWait lane xid (Some place) k calls
none_waits lane xid k place [] none le = tt
none_waits lane xid k place (c ∷ calls) none le =
    let each = or_none (is_unanswered lane xid c) (list_any (is_unanswered lane xid) calls) none in
    (each.0 ∙ sym (ne_eqb k place (λ same. omega (arith, le))), none_waits lane xid (k + 1) place calls each.1 (omega (arith, le)))

answered_once : (l x lane xid : ℕ) (r : ReplyEvent) (c : CallEvent) → is_unanswered lane xid (answered_if l x r c) ≡ is_unanswered lane xid c && not (same_key (l, x) (lane, xid))
answered_once l x lane xid r c = go (is_unanswered l x c) (same_key (l, x) (lane, xid)) refl refl where
  now : (b : Bool) → is_unanswered l x c ≡ b → is_unanswered lane xid (answered_if l x r c) ≡ is_unanswered lane xid (cond b (record c { answer = Some r }) c)
  now b is = ap (λ u. is_unanswered lane xid (cond u (record c { answer = Some r }) c)) is

  ended : is_unanswered lane xid (record c { answer = Some r }) ≡ false
  ended = and_false ((c.lane == lane) && (xid_of c.message == xid))

  -- a call with the one key hasn't the other
  other : is_unanswered l x c ≡ true → same_key (l, x) (lane, xid) ≡ false → is_unanswered lane xid c ≡ false
  other is differs =
      let parts = all_three (c.lane == l) (xid_of c.message == x) (is_none c.answer) is in
      let on = eqb-true c.lane l parts.0 in
      let of = eqb-true (xid_of c.message) x parts.1 in
      ap (λ n. ((n == lane) && (xid_of c.message == xid)) && is_none c.answer) on ∙ ap (λ n. ((l == lane) && (n == xid)) && is_none c.answer) of ∙ ap (λ b. b && is_none c.answer) differs

  same : same_key (l, x) (lane, xid) ≡ true → is_unanswered lane xid c ≡ is_unanswered l x c
  same is =
      let parts = all_three (l == lane) (x == xid) true (and_true (same_key (l, x) (lane, xid)) ∙ is) in
      sym (ap (λ n. is_unanswered n x c) (eqb-true l lane parts.0) ∙ ap (λ n. is_unanswered lane n c) (eqb-true x xid parts.1))

  go : (u s : Bool) → is_unanswered l x c ≡ u → same_key (l, x) (lane, xid) ≡ s → is_unanswered lane xid (answered_if l x r c) ≡ is_unanswered lane xid c && not (same_key (l, x) (lane, xid))
  go true true is key = now true is ∙ ended ∙ sym (ap (λ b. is_unanswered lane xid c && not b) key ∙ and_false (is_unanswered lane xid c))
  go true false is key = now true is ∙ ended ∙ sym (ap (λ b. b && not (same_key (l, x) (lane, xid))) (other is key))
  go false true is key = now false is ∙ same key ∙ is ∙ sym (ap (λ b. is_unanswered lane xid c && not b) key ∙ and_false (is_unanswered lane xid c))
  go false false is key = now false is ∙ sym (ap (λ b. is_unanswered lane xid c && not b) key ∙ and_true (is_unanswered lane xid c))

place_or_none : (b : Bool) (k : ℕ) (place : Option ℕ) → is_place k (cond b None place) ≡ is_place k place && not b
place_or_none true k place = sym (and_false (is_place k place))
place_or_none false k place = sym (and_true (is_place k place))

pub waits-answered : (l x lane xid k : ℕ) (r : ReplyEvent) (place : Option ℕ) (calls : List CallEvent) → AnswersWait lane xid place k calls → AnswersWait lane xid (cond (same_key (l, x) (lane, xid)) None place) k (map (answered_if l x r) calls)
waits-answered l x lane xid k r place [] waits = tt
waits-answered l x lane xid k r place (c ∷ calls) waits = (
  answered_once l x lane xid r c ∙ ap (λ b. b && not (same_key (l, x) (lane, xid))) waits.0 ∙ sym (place_or_none (same_key (l, x) (lane, xid)) k place),
  waits-answered l x lane xid (k + 1) r place calls waits.1,
)
