-- what a step keeps: lists of placed calls
use Rattle.std.proofs.Common.{◌≡◌, ◌≢◌, ◌⊎◌, inl, inr, ℕ, zero, suc, ◌+◌, ◌<◌, ◌≤◌, Bool, true, false, List, [], ◌∷◌, ◌++◌, length, take, Some, None, refl, sym, ap, ◌∙◌, subst, arith}
use Rattle.std.specs.Prelude.{IsSome, if◌then◌else◌, nat_lt, option_and_then, option_map, unwrap_or}
use Rattle.std.specs.List.{AllByRecursion}
use Rattle.nfs_history.specs.declared.recorded.RecordedCall.{RecordedCall}
use Rattle.nfs_history.specs.Precedence.{call_at, begin_of, end_of}
use Rattle.book_laws.specs.Placing.{Placed, is_recorded, records_in, front_with}
use Rattle.book_laws.specs.Steps.{change_at, with_object}
use Rattle.book_laws.proofs.Invariant.{Over, IsKnown, AreKnown, AllKnown, AreDistinct, EachDistinct, IsPlacedIn, IsPlaced, AreInOrder, AllInOrder, AreDurable, IsCutSafely}
use Rattle.book_laws.proofs.Lists.{all_append, all_behind}
use Rattle.book_laws.proofs.Running.{head_is, tail_is}

-- ---- calls

-- a call that was there is there in a longer list
pub call_stays : (calls : List RecordedCall) (more : RecordedCall) (n : ℕ) (call : RecordedCall) → call_at calls n ≡ Some call → call_at (calls ++ more ∷ []) n ≡ Some call
call_stays calls more zero call e = absurd (cc)
call_stays [] more (suc n) call e = absurd (cc)
call_stays (c ∷ calls) more (suc zero) call e = e
call_stays (c ∷ calls) more (suc (suc n)) call e = call_stays calls more (suc n) call e

-- a call of a longer list was there, or is the one that came
pub call_was : (calls : List RecordedCall) (more : RecordedCall) (n : ℕ) (call : RecordedCall) → call_at (calls ++ more ∷ []) n ≡ Some call → (call_at calls n ≡ Some call) ⊎ (call ≡ more)
call_was calls more zero call e = absurd (cc)
call_was [] more (suc zero) call e = inr (is e) where
  is : Some more ≡ Some call → call ≡ more
  is f = cc
call_was [] more (suc (suc n)) call e = absurd (cc)
call_was (c ∷ calls) more (suc zero) call e = inl e
call_was (c ∷ calls) more (suc (suc n)) call e = call_was calls more (suc n) call e

-- where one call is changed, that one is, and no other
pub changed_call : (f : RecordedCall → RecordedCall) (calls : List RecordedCall) (m : ℕ) (call : RecordedCall) → call_at calls (suc m) ≡ Some call → call_at (change_at f m calls) (suc m) ≡ Some (f call)
changed_call f [] m call e = absurd (cc)
changed_call f (c ∷ calls) zero call e = ap Some (ap f (is e)) where
  is : Some c ≡ Some call → c ≡ call
  is g = cc
changed_call f (c ∷ calls) (suc m) call e = changed_call f calls m call e

pub other_call : (f : RecordedCall → RecordedCall) (calls : List RecordedCall) (m n : ℕ) → n ≢ suc m → call_at (change_at f m calls) n ≡ call_at calls n
other_call f calls m zero apart = refl
other_call f [] m (suc n) apart = refl
other_call f (c ∷ calls) zero (suc zero) apart = absurd (apart refl)
other_call f (c ∷ calls) (suc m) (suc zero) apart = refl
other_call f (c ∷ calls) zero (suc (suc n)) apart = refl
other_call f (c ∷ calls) (suc m) (suc (suc n)) apart = other_call f calls m (suc n) (λ e. apart (ap suc e))

pub all_changed : (P : RecordedCall → Type 0) (f : RecordedCall → RecordedCall) (m : ℕ) (calls : List RecordedCall) → ((c : RecordedCall) → P c → P (f c)) → AllByRecursion P calls → AllByRecursion P (change_at f m calls)
all_changed P f m [] goes a = tt
all_changed P f zero (c ∷ calls) goes a = (goes c a.0, a.1)
all_changed P f (suc m) (c ∷ calls) goes a = (a.0, all_changed P f m calls goes a.1)

-- what holds of all calls holds of each
pub call_has : (P : RecordedCall → Type 0) (calls : List RecordedCall) (n : ℕ) (call : RecordedCall) → AllByRecursion P calls → call_at calls n ≡ Some call → P call
call_has P calls zero call a e = absurd (cc)
call_has P [] (suc n) call a e = absurd (cc)
call_has P (c ∷ calls) (suc zero) call a e = subst P (is e) a.0 where
  is : Some c ≡ Some call → c ≡ call
  is g = cc
call_has P (c ∷ calls) (suc (suc n)) call a e = call_has P calls (suc n) call a.1 e

-- ---- the calls of the steps that are known are the same

-- each of these has the call that it had
abbrev pub AreSame : List RecordedCall → List RecordedCall → List Placed → Type 0
AreSame calls calls' steps = AllByRecursion (λ step. call_at calls' step.number ≡ call_at calls step.number) steps

abbrev pub AllSame : List RecordedCall → List RecordedCall → List Over → Type 0
AllSame calls calls' over = AllByRecursion (λ (era : Over). AreSame calls calls' era.steps) over

pub known_same : (calls calls' : List RecordedCall) (e : ℕ) (step : Placed) → call_at calls' step.number ≡ call_at calls step.number → IsKnown calls e step → IsKnown calls' e step
known_same calls calls' e step same k = record {
  call = k.call;
  recorded = same ∙ k.recorded;
  now = k.now;
  judged = k.judged;
  reply = k.reply;
  received = k.received;
  replied = k.replied;
  takes = k.takes;
  verifier = k.verifier;
}

pub are_known_same : (calls calls' : List RecordedCall) (e : ℕ) (steps : List Placed) → AreSame calls calls' steps → AreKnown calls e steps → AreKnown calls' e steps
are_known_same calls calls' e [] same k = tt
are_known_same calls calls' e (step ∷ steps) same k = (known_same calls calls' e step same.0 k.0, are_known_same calls calls' e steps same.1 k.1)

pub all_known_same : (calls calls' : List RecordedCall) (e : ℕ) (over : List Over) (placed placed' : List Placed) → AllSame calls calls' over
    → (AreKnown calls (e + length over) placed → AreKnown calls' (e + length over) placed') → AllKnown calls e over placed → AllKnown calls' e over placed'
all_known_same calls calls' e [] placed placed' same goes k = subst (λ (n : ℕ). AreKnown calls' n placed') (at e) (goes (subst (λ (n : ℕ). AreKnown calls n placed) (sym (at e)) k)) where
  at : (e : ℕ) → e + 0 ≡ e
  at e = omega arith
all_known_same calls calls' e (first ∷ over) placed placed' same goes k = (
  are_known_same calls calls' e first.steps same.0 k.0,
  all_known_same calls calls' (e + 1) over placed placed' same.1
      (λ known. subst (λ (n : ℕ). AreKnown calls' n placed') (at e (length over)) (goes (subst (λ (n : ℕ). AreKnown calls n placed) (sym (at e (length over))) known))) k.1,
) where
  at : (e n : ℕ) → e + suc n ≡ e + 1 + n
  at e n = omega arith

in_order_same : (calls calls' : List RecordedCall) (number : ℕ) (steps : List Placed) → call_at calls' number ≡ call_at calls number → AreSame calls calls' steps
    → AllByRecursion (λ later. (at : ℕ) → end_of calls later.number ≡ Some at → begin_of calls number < at) steps
    → AllByRecursion (λ later. (at : ℕ) → end_of calls' later.number ≡ Some at → begin_of calls' number < at) steps
in_order_same calls calls' number [] same sames o = tt
in_order_same calls calls' number (later ∷ steps) same sames o = (
  (λ at ends. subst (λ (n : ℕ). n < at) (sym (begin_same number same)) (o.0 at (sym (ap (option_and_then (λ (call : RecordedCall). call.«end»)) sames.0) ∙ ends))),
  in_order_same calls calls' number steps same sames.1 o.1,
) where
  begin_same : (n : ℕ) → call_at calls' n ≡ call_at calls n → begin_of calls' n ≡ begin_of calls n
  begin_same n e = ap (λ o. unwrap_or (option_map (λ (call : RecordedCall). call.begin) o) 0) e

pub order_same : (calls calls' : List RecordedCall) (steps : List Placed) → AreSame calls calls' steps → AreInOrder calls steps → AreInOrder calls' steps
order_same calls calls' [] same o = tt
order_same calls calls' (step ∷ steps) same o = (in_order_same calls calls' step.number steps same.0 same.1 o.0, order_same calls calls' steps same.1 o.1)

pub all_order_same : (calls calls' : List RecordedCall) (over : List Over) (placed placed' : List Placed) → AllSame calls calls' over → (AreInOrder calls placed → AreInOrder calls' placed')
    → AllInOrder calls over placed → AllInOrder calls' over placed'
all_order_same calls calls' [] placed placed' same goes o = goes o
all_order_same calls calls' (first ∷ over) placed placed' same goes o = (order_same calls calls' first.steps same.0 o.0, all_order_same calls calls' over placed placed' same.1 goes o.1)

-- ---- what is placed

pub placed_more : (steps : List Placed) (step : Placed) (n : ℕ) → IsPlacedIn steps n → IsPlacedIn (steps ++ step ∷ []) n
placed_more [] step n among = absurd among
placed_more (s ∷ steps) step n (inl is) = inl is
placed_more (s ∷ steps) step n (inr among) = inr (placed_more steps step n among)

pub placed_last : (steps : List Placed) (step : Placed) → IsPlacedIn (steps ++ step ∷ []) step.number
placed_last [] step = inl refl
placed_last (s ∷ steps) step = inr (placed_last steps step)

pub is_placed_by : (over : List Over) (placed placed' : List Placed) (n : ℕ) → (IsPlacedIn placed n → IsPlacedIn placed' n) → IsPlaced over placed n → IsPlaced over placed' n
is_placed_by [] placed placed' n goes among = goes among
is_placed_by (first ∷ over) placed placed' n goes (inl among) = inl among
is_placed_by (first ∷ over) placed placed' n goes (inr among) = inr (is_placed_by over placed placed' n goes among)

pub is_placed_now : (over : List Over) (placed : List Placed) (n : ℕ) → IsPlacedIn placed n → IsPlaced over placed n
is_placed_now [] placed n among = among
is_placed_now (first ∷ over) placed n among = inr (is_placed_now over placed n among)

-- of an era that is over
pub is_placed_over : (over : List Over) (placed : List Placed) (kept n : ℕ) → IsPlaced over placed n → IsPlaced (over ++ record { steps = placed; kept = kept } ∷ []) [] n
is_placed_over [] placed kept n among = inl among
is_placed_over (first ∷ over) placed kept n (inl among) = inl among
is_placed_over (first ∷ over) placed kept n (inr among) = inr (is_placed_over over placed kept n among)

-- a call that is known isn't that of another era
pub placed_is_known : (calls : List RecordedCall) (e : ℕ) (steps : List Placed) (n : ℕ) → AreKnown calls e steps → IsPlacedIn steps n → (call : RecordedCall) × (call_at calls n ≡ Some call) × (call.era ≡ e)
placed_is_known calls e [] n known among = absurd among
placed_is_known calls e (step ∷ steps) n known (inl is) = (known.0.call, ap (call_at calls) (sym is) ∙ known.0.recorded, known.0.now)
placed_is_known calls e (step ∷ steps) n known (inr among) = placed_is_known calls e steps n known.1 among

-- ---- order and distinctness with one more

pub distinct_more : (steps : List Placed) (step : Placed) → AreDistinct steps → AllByRecursion (λ s. s.number ≢ step.number) steps → AreDistinct (steps ++ step ∷ [])
distinct_more [] step d apart = (tt, tt)
distinct_more (s ∷ steps) step d apart = (all_append (λ other. other.number ≢ s.number) steps (step ∷ []) d.0 ((λ e. apart.0 (sym e)), tt), distinct_more steps step d.1 apart.1)

pub each_distinct_by : (over : List Over) (placed placed' : List Placed) → (AreDistinct placed → AreDistinct placed') → EachDistinct over placed → EachDistinct over placed'
each_distinct_by [] placed placed' goes d = goes d
each_distinct_by (first ∷ over) placed placed' goes d = (d.0, each_distinct_by over placed placed' goes d.1)

pub each_distinct_over : (over : List Over) (placed : List Placed) (kept : ℕ) → EachDistinct over placed → EachDistinct (over ++ record { steps = placed; kept = kept } ∷ []) []
each_distinct_over [] placed kept d = (d, tt)
each_distinct_over (first ∷ over) placed kept d = (d.0, each_distinct_over over placed kept d.1)

pub known_over : (calls : List RecordedCall) (e : ℕ) (over : List Over) (placed : List Placed) (kept : ℕ) → AllKnown calls e over placed → AllKnown calls e (over ++ record { steps = placed; kept = kept } ∷ []) []
known_over calls e [] placed kept k = (k, tt)
known_over calls e (first ∷ over) placed kept k = (k.0, known_over calls (e + 1) over placed kept k.1)

pub order_over : (calls : List RecordedCall) (over : List Over) (placed : List Placed) (kept : ℕ) → AllInOrder calls over placed → AllInOrder calls (over ++ record { steps = placed; kept = kept } ∷ []) []
order_over calls [] placed kept o = (o, tt)
order_over calls (first ∷ over) placed kept o = (o.0, order_over calls over placed kept o.1)

pub order_more : (calls : List RecordedCall) (steps : List Placed) (step : Placed) → end_of calls step.number ≡ None → AreInOrder calls steps → AreInOrder calls (steps ++ step ∷ [])
order_more calls [] step quiet o = (tt, tt)
order_more calls (s ∷ steps) step quiet o =
    (all_append (λ later. (at : ℕ) → end_of calls later.number ≡ Some at → begin_of calls s.number < at) steps (step ∷ []) o.0 ((λ at ends. absurd (none (sym quiet ∙ ends))), tt), order_more calls steps step quiet o.1) where
      none : {at : ℕ} → None ≡ Some at → ⊥
      none f = cc

-- ---- parts of a list with one more

pub data LastParts (xs : List Placed) (z : Placed) (a : List Placed) (s : Placed) (b : List Placed) : Type 0 where
  is_last : s ≡ z → LastParts xs z a s b
  is_inside : (b' : List Placed) → xs ≡ a ++ s ∷ b' → LastParts xs z a s b

pub last_parts : (xs : List Placed) (z : Placed) (a : List Placed) (s : Placed) (b : List Placed) → xs ++ z ∷ [] ≡ a ++ s ∷ b → LastParts xs z a s b
last_parts [] z [] s b e = is_last (sym (head_is e))
last_parts [] z (x ∷ []) s b e = absurd (none (tail_is e)) where
  none : [] ≡ s ∷ b → ⊥
  none f = cc
last_parts [] z (x ∷ y ∷ a) s b e = absurd (none (tail_is e)) where
  none : [] ≡ y ∷ (a ++ s ∷ b) → ⊥
  none f = cc
last_parts (x ∷ xs) z [] s b e = is_inside xs (ap (λ w. w ∷ xs) (head_is e))
last_parts (x ∷ xs) z (y ∷ a) s b e = go (last_parts xs z a s b (tail_is e)) where
  go : LastParts xs z a s b → LastParts (x ∷ xs) z (y ∷ a) s b
  go (is_last is) = is_last is
  go (is_inside b' parts) = is_inside b' (ap (λ w. w ∷ xs) (head_is e) ∙ ap (λ ws. y ∷ ws) parts)

-- the parts around a call are the same ones
pub record SameParts (a c : List Placed) (s t : Placed) : Type 0 where
  pub ahead : a ≡ c
  pub here : s ≡ t

pub same_parts : (a : List Placed) (s : Placed) (b c : List Placed) (t : Placed) (d : List Placed) → a ++ s ∷ b ≡ c ++ t ∷ d → s.number ≡ t.number → AreDistinct (c ++ t ∷ d) → SameParts a c s t
same_parts [] s b [] t d e n distinct = record { ahead = refl; here = head_is e }
same_parts [] s b (y ∷ c) t d e n distinct = absurd (among c (subst (λ (w : Placed). AllByRecursion (λ other. other.number ≢ w.number) (c ++ t ∷ d)) (sym (head_is e)) distinct.0)) where
  among : (c : List Placed) → AllByRecursion (λ other. other.number ≢ s.number) (c ++ t ∷ d) → ⊥
  among [] all = all.0 (sym n)
  among (x ∷ c) all = among c all.1
same_parts (x ∷ a) s b [] t d e n distinct = absurd (among a d (tail_is e) distinct.0) where
  among : (a d : List Placed) → a ++ s ∷ b ≡ d → AllByRecursion (λ other. other.number ≢ t.number) d → ⊥
  among [] [] f all = absurd (cc)
  among [] (w ∷ d) f all = all.0 (ap (λ (p : Placed). p.number) (sym (head_is f)) ∙ n)
  among (y ∷ a) [] f all = absurd (cc)
  among (y ∷ a) (w ∷ d) f all = among a d (tail_is f) all.1
same_parts (x ∷ a) s b (y ∷ c) t d e n distinct =
    let rest = same_parts a s b c t d (tail_is e) n distinct.1 in
    record { ahead = ap (λ w. w ∷ a) (head_is e) ∙ ap (λ ws. y ∷ ws) rest.ahead; here = rest.here }

-- ---- objects that were made

pub all_with_object : (P : ℕ → Type 0) (n : ℕ) (made : List ℕ) → P n → AllByRecursion P made → AllByRecursion P (with_object n made)
all_with_object P n [] p a = (p, tt)
all_with_object P n (first ∷ made) p a = go (nat_lt n first) (all_with_object P n made p a.1) where
  go : (b : Bool) → AllByRecursion P (with_object n made) → AllByRecursion P (if b then n ∷ first ∷ made else first ∷ with_object n made)
  go true rest = (p, a)
  go false rest = (a.0, rest)

-- ---- records of fronts

pub records_front : (count : ℕ) (steps : List Placed) → count ≤ records_in steps → records_in (take (front_with count steps) steps) ≡ count
records_front zero steps le = refl
records_front (suc count) [] le = absurd (none le) where
  none : suc count ≤ 0 → ⊥
  none f = omega (arith, f)
records_front (suc count) (step ∷ steps) le = go (is_recorded step) refl le (records_front count steps) (records_front (suc count) steps) where
  front : Bool → List Placed
  front b = take (front_with (if b then count else suc count) steps) steps

  go : (b : Bool) → is_recorded step ≡ b → suc count ≤ (if b then suc (records_in steps) else records_in steps) → (count ≤ records_in steps → records_in (take (front_with count steps) steps) ≡ count)
      → (suc count ≤ records_in steps → records_in (take (front_with (suc count) steps) steps) ≡ suc count)
      → (if is_recorded step then suc (records_in (front b)) else records_in (front b)) ≡ suc count
  go true is le fewer same = ap (λ c. if c then suc (records_in (front true)) else records_in (front true)) is ∙ ap suc (fewer (omega (arith, le)))
  go false is le fewer same = ap (λ c. if c then suc (records_in (front false)) else records_in (front false)) is ∙ same le

-- ---- what is durable, where the calls of the steps are the same

same_here : (calls calls' : List RecordedCall) (steps ahead : List Placed) (step : Placed) (behind : List Placed) → steps ≡ ahead ++ step ∷ behind → AreSame calls calls' steps
    → call_at calls' step.number ≡ call_at calls step.number
same_here calls calls' steps ahead step behind parts same =
    (all_behind (λ s. call_at calls' s.number ≡ call_at calls s.number) ahead (step ∷ behind) (subst (AreSame calls calls') parts same)).0

pub durable_same : (calls calls' : List RecordedCall) (kept mark : ℕ) (steps : List Placed) → AreSame calls calls' steps → AreDurable calls kept mark steps → AreDurable calls' kept mark steps
durable_same calls calls' kept mark steps same durable ahead step behind parts ended =
    durable ahead step behind parts
    (subst IsSome (ap (option_and_then (λ (call : RecordedCall). call.«end»)) (same_here calls calls' steps ahead step behind parts same)) ended)

pub cuts_same : (calls calls' : List RecordedCall) (over : List Over) → AllSame calls calls' over → AllByRecursion (IsCutSafely calls) over → AllByRecursion (IsCutSafely calls') over
cuts_same calls calls' [] same cuts = tt
cuts_same calls calls' (era ∷ over) same cuts = (
  record { count = cuts.0.count; front = cuts.0.front; durable = durable_same calls calls' 0 cuts.0.count era.steps same.0 cuts.0.durable },
  cuts_same calls calls' over same.1 cuts.1,
)
