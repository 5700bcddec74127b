-- The calls that are unanswered, event by event.
use Rattle.std.proofs.Common.{◌≡◌, ◌==◌, ◌&&◌, ◌||◌, ℕ, ◌+◌, Bool, true, false, not, cond, is_none, List, [], ◌∷◌, ◌++◌, Option, Some, None, refl, sym, ap, ◌∙◌}
use Rattle.std.specs.List.{list_any}
use Rattle.std.proofs.lemmas.Bool.{eqb-true}
use Rattle.history_file.specs.Event.{Event}
use Rattle.history_file.specs.Event.Event.{call, reply, close, crash}
use Rattle.nfs_history.specs.Appending.{IsQuiet}
use Rattle.nfs_history.specs.Calls.{ReplyEvent, CallEvent, first_reply, calls_from, xid_of}
use Rattle.nfs_history.specs.Standing.{is_unanswered}

-- a call answers nothing
pub first_reply-call : (lane xid i : ℕ) (events : List Event) (l : ℕ) (m : List ℕ) → first_reply lane xid i (events ++ call l m ∷ []) ≡ first_reply lane xid i events
first_reply-call lane xid i [] l m = refl
first_reply-call lane xid i (call on n ∷ events) l m = first_reply-call lane xid (i + 1) events l m
first_reply-call lane xid i (close on ∷ events) l m = first_reply-call lane xid (i + 1) events l m
first_reply-call lane xid i (crash ∷ events) l m = first_reply-call lane xid (i + 1) events l m
first_reply-call lane xid i (reply on n ∷ events) l m =
    ap (λ o. cond ((on == lane) && (xid_of n == xid)) (Some (record { number = i; message = n })) o) (first_reply-call lane xid (i + 1) events l m)

none_chosen : (b : Bool) (r : ReplyEvent) (o : Option ReplyEvent) → is_none (cond b (Some r) o) ≡ not b && is_none o
none_chosen true r o = refl
none_chosen false r o = refl

pub and_true : (b : Bool) → b && true ≡ b
and_true true = refl
and_true false = refl

pub or_false : (b : Bool) → b || false ≡ b
or_false true = refl
or_false false = refl

and_assoc : (a b c : Bool) → (a && b) && c ≡ a && (b && c)
and_assoc true b c = refl
and_assoc false b c = refl

-- a reply answers the unanswered call with its lane and number
no_reply-reply : (lane xid i : ℕ) (events : List Event) (l : ℕ) (m : List ℕ) → is_none (first_reply lane xid i (events ++ reply l m ∷ [])) ≡ is_none (first_reply lane xid i events) && not ((l == lane) && (xid_of m == xid))
no_reply-reply lane xid i [] l m = none_chosen ((l == lane) && (xid_of m == xid)) (record { number = i; message = m }) None ∙ and_true (not ((l == lane) && (xid_of m == xid)))
no_reply-reply lane xid i (call on n ∷ events) l m = no_reply-reply lane xid (i + 1) events l m
no_reply-reply lane xid i (close on ∷ events) l m = no_reply-reply lane xid (i + 1) events l m
no_reply-reply lane xid i (crash ∷ events) l m = no_reply-reply lane xid (i + 1) events l m
no_reply-reply lane xid i (reply on n ∷ events) l m =
    let b = (on == lane) && (xid_of n == xid) in
    none_chosen b (record { number = i; message = n }) (first_reply lane xid (i + 1) (events ++ reply l m ∷ []))
    ∙ ap (λ x. not b && x) (no_reply-reply lane xid (i + 1) events l m)
    ∙ sym (and_assoc (not b) (is_none (first_reply lane xid (i + 1) events)) (not ((l == lane) && (xid_of m == xid))))
    ∙ ap (λ x. x && not ((l == lane) && (xid_of m == xid))) (sym (none_chosen b (record { number = i; message = n }) (first_reply lane xid (i + 1) events)))

pub or_assoc : (a b c : Bool) → (a || b) || c ≡ a || (b || c)
or_assoc true b c = refl
or_assoc false b c = refl

pub any-call : (lane xid i era : ℕ) (events : List Event) (l : ℕ) (m : List ℕ) → list_any (is_unanswered lane xid) (calls_from i era (events ++ call l m ∷ [])) ≡ list_any (is_unanswered lane xid) (calls_from i era events) || ((l == lane) && (xid_of m == xid))
any-call lane xid i era [] l m = or_false (((l == lane) && (xid_of m == xid)) && true) ∙ and_true ((l == lane) && (xid_of m == xid))
any-call lane xid i era (reply on n ∷ events) l m = any-call lane xid (i + 1) era events l m
any-call lane xid i era (close on ∷ events) l m = any-call lane xid (i + 1) era events l m
any-call lane xid i era (crash ∷ events) l m = any-call lane xid (i + 1) (era + 1) events l m
any-call lane xid i era (call on n ∷ events) l m =
    let here : Option ReplyEvent → Bool = λ a. is_unanswered lane xid (record { lane = on; message = n; begin = i; era = era; answer = a }) in
    ap (λ a. here a || list_any (is_unanswered lane xid) (calls_from (i + 1) era (events ++ call l m ∷ []))) (first_reply-call on (xid_of n) (i + 1) events l m)
    ∙ ap (λ x. here (first_reply on (xid_of n) (i + 1) events) || x) (any-call lane xid (i + 1) era events l m)
    ∙ sym (or_assoc (here (first_reply on (xid_of n) (i + 1) events)) (list_any (is_unanswered lane xid) (calls_from (i + 1) era events)) ((l == lane) && (xid_of m == xid)))

-- with one key or another, b says of a key whether the reply has it
same_or_other : (on on' lane lane' l x : ℕ) (n : Bool) → ((on == lane) && (on' == lane')) && (n && not ((l == on) && (x == on'))) ≡ (((on == lane) && (on' == lane')) && n) && not ((l == lane) && (x == lane'))
same_or_other on on' lane lane' l x n = by_tests (on == lane) (on' == lane') refl refl
  where
    by_tests : (a b : Bool) → (on == lane) ≡ a → (on' == lane') ≡ b → (a && b) && (n && not ((l == on) && (x == on'))) ≡ ((a && b) && n) && not ((l == lane) && (x == lane'))
    by_tests false b p q = refl
    by_tests true false p q = refl
    by_tests true true p q = ap (λ k. n && not ((l == k) && (x == on'))) (eqb-true on lane p) ∙ ap (λ k. n && not ((l == lane) && (x == k))) (eqb-true on' lane' q)

or_and : (a b c : Bool) → (a && c) || (b && c) ≡ (a || b) && c
or_and true true true = refl
or_and true true false = refl
or_and true false true = refl
or_and true false false = refl
or_and false b c = refl

pub any-reply : (lane xid i era : ℕ) (events : List Event) (l : ℕ) (m : List ℕ) → list_any (is_unanswered lane xid) (calls_from i era (events ++ reply l m ∷ [])) ≡ list_any (is_unanswered lane xid) (calls_from i era events) && not ((l == lane) && (xid_of m == xid))
any-reply lane xid i era [] l m = refl
any-reply lane xid i era (reply on n ∷ events) l m = any-reply lane xid (i + 1) era events l m
any-reply lane xid i era (close on ∷ events) l m = any-reply lane xid (i + 1) era events l m
any-reply lane xid i era (crash ∷ events) l m = any-reply lane xid (i + 1) (era + 1) events l m
any-reply lane xid i era (call on n ∷ events) l m =
    let same = (on == lane) && (xid_of n == xid) in
    let rest = list_any (is_unanswered lane xid) (calls_from (i + 1) era events) in
    let hit = not ((l == lane) && (xid_of m == xid)) in
    let unmet = is_none (first_reply on (xid_of n) (i + 1) events) in
    ap (λ x. (same && x) || list_any (is_unanswered lane xid) (calls_from (i + 1) era (events ++ reply l m ∷ []))) (no_reply-reply on (xid_of n) (i + 1) events l m)
    ∙ ap (λ x. (same && (unmet && not ((l == on) && (xid_of m == xid_of n)))) || x) (any-reply lane xid (i + 1) era events l m)
    ∙ ap (λ x. x || (rest && hit)) (same_or_other on (xid_of n) lane xid l (xid_of m) unmet)
    ∙ or_and (same && unmet) rest hit

-- ---- a close and a crash

first_reply-quiet : (lane xid i : ℕ) (events : List Event) (e : Event) → IsQuiet e → first_reply lane xid i (events ++ e ∷ []) ≡ first_reply lane xid i events
first_reply-quiet lane xid i [] (call l m) quiet = absurd quiet
first_reply-quiet lane xid i [] (reply l m) quiet = absurd quiet
first_reply-quiet lane xid i [] (close l) quiet = refl
first_reply-quiet lane xid i [] crash quiet = refl
first_reply-quiet lane xid i (call on n ∷ events) e quiet = first_reply-quiet lane xid (i + 1) events e quiet
first_reply-quiet lane xid i (close on ∷ events) e quiet = first_reply-quiet lane xid (i + 1) events e quiet
first_reply-quiet lane xid i (crash ∷ events) e quiet = first_reply-quiet lane xid (i + 1) events e quiet
first_reply-quiet lane xid i (reply on n ∷ events) e quiet =
    ap (λ o. cond ((on == lane) && (xid_of n == xid)) (Some (record { number = i; message = n })) o) (first_reply-quiet lane xid (i + 1) events e quiet)

pub calls_from-quiet : (i era : ℕ) (events : List Event) (e : Event) → IsQuiet e → calls_from i era (events ++ e ∷ []) ≡ calls_from i era events
calls_from-quiet i era [] (call l m) quiet = absurd quiet
calls_from-quiet i era [] (reply l m) quiet = absurd quiet
calls_from-quiet i era [] (close l) quiet = refl
calls_from-quiet i era [] crash quiet = refl
calls_from-quiet i era (reply on n ∷ events) e quiet = calls_from-quiet (i + 1) era events e quiet
calls_from-quiet i era (close on ∷ events) e quiet = calls_from-quiet (i + 1) era events e quiet
calls_from-quiet i era (crash ∷ events) e quiet = calls_from-quiet (i + 1) (era + 1) events e quiet
calls_from-quiet i era (call on n ∷ events) e quiet =
    let here : Option ReplyEvent → CallEvent = λ a. record { lane = on; message = n; begin = i; era = era; answer = a } in
    ap (λ a. here a ∷ calls_from (i + 1) era (events ++ e ∷ [])) (first_reply-quiet on (xid_of n) (i + 1) events e quiet)
    ∙ ap (λ cs. here (first_reply on (xid_of n) (i + 1) events) ∷ cs) (calls_from-quiet (i + 1) era events e quiet)
