-- Which lanes are closed, event by event, and how many eras there are.
use Rattle.std.proofs.Common.{◌≡◌, ◌⊎◌, inl, inr, ◌||◌, ◌&&◌, ℕ, ◌+◌, ◌≤◌, Bool, true, false, List, [], ◌∷◌, ◌++◌, length, refl, sym, ap, subst, ◌∙◌, arith, Contains}
use Rattle.std.specs.List.{list_any, slice_index_or}
use Rattle.std.proofs.lemmas.Bool.{eqb-true, eq-eqb, false≢true}
use Rattle.std.proofs.lemmas.List.Folds.{list_any-append, Any-from_list_any, list_any_at}
use Rattle.history_file.specs.Event.{Event}
use Rattle.history_file.specs.Event.Event.{call, reply, close, crash}
use Rattle.nfs_history.specs.Calls.{eras_from}
use Rattle.nfs_history.specs.Standing.{IsOn, IsCutOff, IsClosed}
use Rattle.nfs_history.specs.Checking.{is_on, is_close_of, is_crash, was_cut_off, was_closed}
use Rattle.nfs_history.proofs.Unanswered.{or_false}

-- ---- Bools

pub or_true : (b : Bool) → b || true ≡ true
or_true true = refl
or_true false = refl

or_cases : (a b : Bool) → a || b ≡ true → (a ≡ true) ⊎ (b ≡ true)
or_cases true b h = inl refl
or_cases false b h = inr h

and_parts : (a b : Bool) → a && b ≡ true → (a ≡ true) × (b ≡ true)
and_parts true b h = (refl, h)
and_parts false b h = absurd (cc)

swapped : (a b c d : Bool) → (a || b) || (c || d) ≡ (a || c) || (b || d)
swapped true b c d = refl
swapped false true true d = refl
swapped false true false d = refl
swapped false false c d = refl

first_one : (on last : Bool) → (on && false) || false ≡ false || (false && last)
first_one true last = refl
first_one false last = refl

regroup : (on crashed last cut any_on : Bool) → (on && (crashed || last)) || (cut || (any_on && last)) ≡ ((on && crashed) || cut) || ((on || any_on) && last)
regroup false crashed last cut any_on = refl
regroup true true last cut any_on = refl
regroup true false true true any_on = refl
regroup true false true false any_on = refl
regroup true false false cut true = refl
regroup true false false cut false = refl

-- ---- one more event

pub any_push : (p : Event → Bool) (events : List Event) (e : Event) → list_any p (events ++ e ∷ []) ≡ list_any p events || p e
any_push p events e = list_any-append p events (e ∷ []) ∙ ap (λ b. list_any p events || b) (or_false (p e))

pub cut_off_push : (lane : ℕ) (events : List Event) (e : Event) → was_cut_off lane (events ++ e ∷ []) ≡ was_cut_off lane events || (list_any (is_on lane) events && is_crash e)
cut_off_push lane [] e = first_one (is_on lane e) (is_crash e)
cut_off_push lane (f ∷ events) e =
    ap (λ b. (is_on lane f && b) || was_cut_off lane (events ++ e ∷ [])) (any_push is_crash events e)
    ∙ ap (λ b. (is_on lane f && (list_any is_crash events || is_crash e)) || b) (cut_off_push lane events e)
    ∙ regroup (is_on lane f) (list_any is_crash events) (is_crash e) (was_cut_off lane events) (list_any (is_on lane) events)

pub closed_push : (lane : ℕ) (events : List Event) (e : Event) → was_closed lane (events ++ e ∷ []) ≡ was_closed lane events || (is_close_of lane e || (list_any (is_on lane) events && is_crash e))
closed_push lane events e =
    ap (λ b. b || was_cut_off lane (events ++ e ∷ [])) (any_push (is_close_of lane) events e)
    ∙ ap (λ b. (list_any (is_close_of lane) events || is_close_of lane e) || b) (cut_off_push lane events e)
    ∙ swapped (list_any (is_close_of lane) events) (is_close_of lane e) (was_cut_off lane events) (list_any (is_on lane) events && is_crash e)

-- ---- the test of a closed lane, and what it tests

on_is : (lane : ℕ) (e : Event) → is_on lane e ≡ true → IsOn lane e
on_is lane (call on m) h = eqb-true on lane h
on_is lane (reply on m) h = eqb-true on lane h
on_is lane (close on) h = eqb-true on lane h
on_is lane crash h = absurd (false≢true h)

is_on_is : (lane : ℕ) (e : Event) → IsOn lane e → is_on lane e ≡ true
is_on_is lane (call on m) h = eq-eqb on lane h
is_on_is lane (reply on m) h = eq-eqb on lane h
is_on_is lane (close on) h = eq-eqb on lane h
is_on_is lane crash h = absurd h

crash_is : (e : Event) → is_crash e ≡ true → e ≡ crash
crash_is (call on m) h = absurd (false≢true h)
crash_is (reply on m) h = absurd (false≢true h)
crash_is (close on) h = absurd (false≢true h)
crash_is crash h = refl

close_is : (lane : ℕ) (e : Event) → is_close_of lane e ≡ true → e ≡ close lane
close_is lane (call on m) h = absurd (false≢true h)
close_is lane (reply on m) h = absurd (false≢true h)
close_is lane (close on) h = ap (λ l. close l) (eqb-true on lane h)
close_is lane crash h = absurd (false≢true h)

-- an event of a test that only one event passes stands in the list
there : (p : Event → Bool) (x : Event) (events : List Event) → ((e : Event) → p e ≡ true → e ≡ x) → list_any p events ≡ true → Contains events x
there p x events one h =
    let any = Any-from_list_any p events h in
    (any.0, any.2, subst (λ (y : Event). slice_index_or events any.0 y ≡ y) (one any.1 any.4) any.3)

found : (p : Event → Bool) (x : Event) (events : List Event) → p x ≡ true → Contains events x → list_any p events ≡ true
found p x events passes h = list_any_at p events h.0 x h.1 (ap p h.2 ∙ passes)

pub cut_off_is : (lane : ℕ) (events : List Event) → was_cut_off lane events ≡ true → IsCutOff lane events
cut_off_is lane [] h = absurd (false≢true h)
cut_off_is lane (e ∷ events) h = elim (or_cases (is_on lane e && list_any is_crash events) (was_cut_off lane events) h) [
  | inl here ↦
      let both = and_parts (is_on lane e) (list_any is_crash events) here in
      record { ahead = []; last = e; behind = events; parts = refl; on = on_is lane e both.0; crashed = there is_crash crash events crash_is both.1 }
  | inr later ↦
      let cut = cut_off_is lane events later in
      record { ahead = e ∷ cut.ahead; last = cut.last; behind = cut.behind; parts = ap (λ (es : List Event). e ∷ es) cut.parts; on = cut.on; crashed = cut.crashed }
]

cut_off_there : (lane : ℕ) (ahead : List Event) (last : Event) (behind : List Event) → is_on lane last ≡ true → list_any is_crash behind ≡ true → was_cut_off lane (ahead ++ last ∷ behind) ≡ true
cut_off_there lane [] last behind on crashed = rw (on, crashed) refl
cut_off_there lane (e ∷ ahead) last behind on crashed =
    ap (λ b. (is_on lane e && list_any is_crash (ahead ++ last ∷ behind)) || b) (cut_off_there lane ahead last behind on crashed) ∙ or_true (is_on lane e && list_any is_crash (ahead ++ last ∷ behind))

pub is_cut_off : (lane : ℕ) (events : List Event) → IsCutOff lane events → was_cut_off lane events ≡ true
is_cut_off lane events cut =
    let there : was_cut_off lane (cut.ahead ++ cut.last ∷ cut.behind) ≡ true = cut_off_there lane cut.ahead cut.last cut.behind (is_on_is lane cut.last cut.on) (found is_crash crash cut.behind refl cut.crashed) in
    ap (was_cut_off lane) cut.parts ∙ there

pub closed_is : (lane : ℕ) (events : List Event) → was_closed lane events ≡ true → IsClosed lane events
closed_is lane events h = elim (or_cases (list_any (is_close_of lane) events) (was_cut_off lane events) h) [
  | inl closed ↦ inl (there (is_close_of lane) (close lane) events (close_is lane) closed)
  | inr cut ↦ inr (cut_off_is lane events cut)
]

is_closed : (lane : ℕ) (events : List Event) → IsClosed lane events → was_closed lane events ≡ true
is_closed lane events (inl closed) = ap (λ b. b || was_cut_off lane events) (found (is_close_of lane) (close lane) events (eq-eqb lane lane refl) closed)
is_closed lane events (inr cut) =
    ap (λ b. list_any (is_close_of lane) events || b) (is_cut_off lane events cut) ∙ or_true (list_any (is_close_of lane) events)

pub open_is : (lane : ℕ) (events : List Event) → was_closed lane events ≡ false → ¬ IsClosed lane events
open_is lane events h = λ closed. absurd (false≢true (sym h ∙ is_closed lane events closed))

pub is_open : (lane : ℕ) (events : List Event) → ¬ IsClosed lane events → was_closed lane events ≡ false
is_open lane events not_closed = go (was_closed lane events) refl where
  go : (b : Bool) → was_closed lane events ≡ b → was_closed lane events ≡ false
  go true is = absurd (not_closed (closed_is lane events is))
  go false is = is

-- ---- eras

pub eras_quiet : (era : ℕ) (events : List Event) (e : Event) → is_crash e ≡ false → eras_from era (events ++ e ∷ []) ≡ eras_from era events
eras_quiet era [] (call l m) quiet = refl
eras_quiet era [] (reply l m) quiet = refl
eras_quiet era [] (close l) quiet = refl
eras_quiet era [] crash quiet = absurd (false≢true (sym quiet))
eras_quiet era (call l m ∷ events) e quiet = eras_quiet era events e quiet
eras_quiet era (reply l m ∷ events) e quiet = eras_quiet era events e quiet
eras_quiet era (close l ∷ events) e quiet = eras_quiet era events e quiet
eras_quiet era (crash ∷ events) e quiet = eras_quiet (era + 1) events e quiet

pub eras_crash : (era : ℕ) (events : List Event) → eras_from era (events ++ crash ∷ []) ≡ eras_from era events + 1
eras_crash era [] = refl
eras_crash era (call l m ∷ events) = eras_crash era events
eras_crash era (reply l m ∷ events) = eras_crash era events
eras_crash era (close l ∷ events) = eras_crash era events
eras_crash era (crash ∷ events) = eras_crash (era + 1) events

pub eras_few : (era : ℕ) (events : List Event) → eras_from era events ≤ era + length events
eras_few era [] = omega arith
eras_few era (call l m ∷ events) = omega (arith, eras_few era events)
eras_few era (reply l m ∷ events) = omega (arith, eras_few era events)
eras_few era (close l ∷ events) = omega (arith, eras_few era events)
eras_few era (crash ∷ events) = omega (arith, eras_few (era + 1) events)
