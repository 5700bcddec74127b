-- Behind the longest list of whole events stands none that is taken.
use Rattle.std.proofs.Common.{◌≡◌, ◌⊎◌, inl, inr, ℕ, ◌+◌, ◌<◌, ◌≤◌, List, [], ◌∷◌, ◌++◌, length, refl, sym, ap, subst, ◌∙◌, arith, append_assoc, append-nil, length-append}
use Rattle.history_file.specs.Event.{Event}
use Rattle.history_file.specs.HistoryFile.{event, events}
use Rattle.history_file.specs.Limits.{event_limit}
use Rattle.nfs_history.specs.declared.fault.EventFault.{EventFault}
use Rattle.nfs_history.specs.Standing.{MayFollow, EachMayFollow}
use Rattle.nfs_history.specs.EventFaults.{IsAtFault}
use Rattle.nfs_history.proofs.EventFaultLaws.{first_fault_or_fine}
use Rattle.history_mending.specs.declared.end.End.{End}
use Rattle.history_mending.specs.declared.end.End.TheVariants as ends
use Rattle.history_mending.specs.Fronts.{Begins, IsFront, IsLongestFront}
use Rattle.history_mending.specs.Ends.{EndsSo}
use Rattle.history_mending.proofs.Beginning.{one_begins, begins_or_fails, shorter}
use Rattle.history_mending.proofs.EventLists.{none_is, nothing_begins, uncons_begins}

-- no event behind these is taken
abbrev pub Stops : ℕ → List Event → List ℕ → Type 0
Stops over seen rest = (e : Event) (behind : List ℕ) → Begins (event (length seen + 1)) e rest behind → MayFollow seen e → length seen + 1 ≤ event_limit → over ≤ length behind → ⊥

pub at_fault_or_fine : (before : List Event) (e : Event) (fault : EventFault) → IsAtFault (length before + 1) before e fault → MayFollow before e → ⊥
at_fault_or_fine before e fault at may = first_fault_or_fine before (e ∷ []) fault (inl at) (may, tt)

full_stops : (over : ℕ) (seen : List Event) (behind : List ℕ) → (event_limit < length seen + 1) ⊎ (length behind < over) → length seen + 1 ≤ event_limit → over ≤ length behind → ⊥
full_stops over seen behind (inl many) few small = absurd (omega (arith, many, few))
full_stops over seen behind (inr large) few small = absurd (omega (arith, large, small))

pub ends_stop : (over : ℕ) (seen : List Event) (rest : List ℕ) (end' : End) → EndsSo over seen rest end' → Stops over seen rest
ends_stop over seen rest ends.Whole is = λ e behind begins may few small. nothing_begins (length seen + 1) e behind (subst (λ (xs : List ℕ). Begins (event (length seen + 1)) e xs behind) is begins)
ends_stop over seen rest ends.Cut is = λ e behind begins may few small. begins_or_fails (event (length seen + 1)) e rest behind _ begins is.1.1
ends_stop over seen rest ends.NoEvent is = λ e behind begins may few small. begins_or_fails (event (length seen + 1)) e rest behind _ begins is.2.1
ends_stop over seen rest (ends.CannotFollow fault) is = λ e behind begins may few small.
    let same = one_begins (event (length seen + 1)) e is.0 rest behind is.1 begins is.2 in
    at_fault_or_fine seen is.0 fault is.3 (subst (λ (x : Event). MayFollow seen x) same.0 may)
ends_stop over seen rest ends.Full is = λ e behind begins may few small.
    let same = one_begins (event (length seen + 1)) e is.0 rest behind is.1 begins is.2 in
    full_stops over seen is.1 is.4 few (subst (λ (xs : List ℕ). over ≤ length xs) same.1 small)

-- of two lists at the same place the one behind which none is taken goes on as the other
pub front_of : (over i : ℕ) (before es os : List Event) (bytes rest left : List ℕ) → i ≡ length before + 1
    → Begins (events (length es) i) es bytes rest → Begins (events (length os) i) os bytes left
    → EachMayFollow before os → length before + length os ≤ event_limit → over ≤ length left → Stops over (before ++ es) rest
    → (more : List Event) × (es ≡ os ++ more)
front_of over i before es [] bytes rest left at a b may few small stop = (es, refl)
front_of over i before [] (o ∷ os) bytes rest left at a b may few small stop =
    let u = uncons_begins i o os bytes left b in
    let none : before ++ [] ≡ before = append-nil before in
    let number : i ≡ length (before ++ []) + 1 = at ∙ ap (λ (xs : List Event). length xs + 1) (sym none) in
    let here : Begins (event (length (before ++ []) + 1)) o rest u.0 =
    subst (λ n. Begins (event n) o rest u.0) number (subst (λ (xs : List ℕ). Begins (event i) o xs u.0) (none_is i bytes rest a) u.1) in
    absurd (stop o u.0 here (subst (λ (xs : List Event). MayFollow xs o) (sym none) may.0) (omega (arith, ap length none, few)) (omega (arith, shorter (events (length os) (i + 1)) os u.0 left u.2, small)))
front_of over i before (e ∷ es) (o ∷ os) bytes rest left at a b may few small stop =
    let u = uncons_begins i e es bytes rest a in
    let v = uncons_begins i o os bytes left b in
    let same = one_begins (event i) e o bytes u.0 v.0 u.1 v.1 in
    let later = front_of over (i + 1) (before ++ e ∷ []) es os u.0 rest left
    (omega (arith, at, length-append before (e ∷ [])))
    u.2
    (subst (λ (xs : List ℕ). Begins (events (length os) (i + 1)) os xs left) (sym same.1) v.2)
    (subst (λ (x : Event). EachMayFollow (before ++ x ∷ []) os) (sym same.0) may.1)
    (omega (arith, few, length-append before (e ∷ [])))
    small
    (subst (λ (xs : List Event). Stops over xs rest) (sym (append_assoc before (e ∷ []) es)) stop) in
    (later.0, ap (λ (xs : List Event). e ∷ xs) later.1 ∙ ap (λ (x : Event). x ∷ (os ++ later.0)) same.0)

pub longest_is : (over : ℕ) (body : List ℕ) (seen : List Event) (rest : List ℕ) → IsFront over body seen rest → Stops over seen rest → IsLongestFront over body seen rest
longest_is over body seen rest front stop = record {
  front = front;
  longest = λ others left other. front_of over 1 [] seen others body rest left refl front.begins other.begins other.follow (omega (arith, other.few)) other.small stop;
}

no_more : (xs ys : List Event) → xs ≡ xs ++ ys → ys ≡ []
no_more xs [] is = refl
no_more xs (y ∷ ys) is = absurd (omega (arith, ap length is, length-append xs (y ∷ ys)))

-- two lists of which each is a front of the other are one
pub same_lists : (xs ys a b : List Event) → xs ≡ ys ++ a → ys ≡ xs ++ b → xs ≡ ys
same_lists xs ys a b x y =
    let whole : xs ≡ xs ++ (b ++ a) = x ∙ ap (λ (zs : List Event). zs ++ a) y ∙ append_assoc xs b a in
    let none : b ++ a ≡ [] = no_more xs (b ++ a) whole in
    let first : b ≡ [] = front_none b a none in
    sym (y ∙ ap (λ (zs : List Event). xs ++ zs) first ∙ append-nil xs) where
      front_none : (b a : List Event) → b ++ a ≡ [] → b ≡ []
      front_none [] a is = refl
      front_none (x ∷ b) a is = absurd (cc)

-- there is one longest front, and one rest
pub one_longest : (over : ℕ) (body : List ℕ) (es os : List Event) (rest left : List ℕ) → IsLongestFront over body es rest → IsLongestFront over body os left → (es ≡ os) × (rest ≡ left)
one_longest over body es os rest left a b =
    let x = a.longest os left b.front in
    let y = b.longest es rest a.front in
    let same = same_lists es os x.0 y.0 x.1 y.1 in
    (same, (one_begins (events (length os) 1) os os body rest left (subst (λ (xs : List Event). Begins (events (length xs) 1) xs body rest) same a.front.begins) b.front.begins).1)
