-- What is written of a history spells it.
use Rattle.std.proofs.Common.{◌≡◌, ◌⊎◌, inl, inr, ℕ, zero, suc, ◌+◌, ◌<◌, ◌≤◌, ◌^◌, List, [], ◌∷◌, ◌++◌, length, take, get_or, Err, subst, refl, sym, ap, ◌∙◌, arith, append_assoc, append-nil, lit<, length-append}
use Rattle.std.specs.List.{AllByRecursion}
use Rattle.std.proofs.lemmas.List.{take_more, take_all, length-map, map_push}
use Rattle.xdr_records.specs.Grammar.Grammar.{one_word, named, nothing, both}
use Rattle.xdr_records.specs.Spelling.{Spells}
use Rattle.xdr_records.specs.Texts.{word_text, opaque_text}
use Rattle.xdr_records.proofs.Written.{word_spelled, opaque_spelled, both_spelled, nothing_behind}
use Rattle.history_file.specs.declared.fault.FileFault.{FileFault}
use Rattle.history_file.specs.declared.event.Event as owned
use Rattle.history_file.specs.declared.file.EventKind.TheVariants as kinds
use Rattle.history_file.specs.Event.{Event}
use Rattle.history_file.specs.Event.Event.{call, reply, close, crash}
use Rattle.history_file.specs.HistoryFile.{event_kind, message, event_of, event, events}
use Rattle.history_file.specs.Owning.{happened, all_happened}
use Rattle.history_file.specs.declared.writing.WriteFault.{WriteFault}
use Rattle.history_file.specs.declared.writing.WriteFault.TheVariants as faults
use Rattle.history_file.specs.Writing.{IsLargeOnlyIf, event_text, events_text, counted_text, EventFits, IsLong, SomeLong}

within : (m : List ℕ) → length m ≤ 2097152 → length m < 2 ^ 32
within m le = omega (arith, le)

event_spelled : (i : ℕ) (e : Event) → EventFits e → Spells (event i) (event_text e) e
unfolding event message
event_spelled i (call lane m) fits =
    both_spelled (named (event_kind i)) event_of kinds.Call (call lane m) (word_text 0) (word_text lane ++ opaque_text m) (0, word_spelled 0 (lit< tt), refl)
    (both_spelled one_word (λ l. both message (λ b. nothing (call l b))) lane (call lane m) (word_text lane) (opaque_text m) (word_spelled lane fits.0)
    (nothing_behind message (λ b. call lane b) m (opaque_text m) (opaque_spelled 2097152 m (within m fits.1) fits.1)))
event_spelled i (reply lane m) fits =
    both_spelled (named (event_kind i)) event_of kinds.Reply (reply lane m) (word_text 1) (word_text lane ++ opaque_text m) (1, word_spelled 1 (lit< tt), refl)
    (both_spelled one_word (λ l. both message (λ b. nothing (reply l b))) lane (reply lane m) (word_text lane) (opaque_text m) (word_spelled lane fits.0)
    (nothing_behind message (λ b. reply lane b) m (opaque_text m) (opaque_spelled 2097152 m (within m fits.1) fits.1)))
event_spelled i (close lane) fits =
    both_spelled (named (event_kind i)) event_of kinds.Close (close lane) (word_text 2) (word_text lane) (2, word_spelled 2 (lit< tt), refl)
    (nothing_behind {K = FileFault} one_word (λ l. close l) lane (word_text lane) (word_spelled lane fits))
event_spelled i crash fits = (kinds.Crash, record { front = word_text 3; back = []; parts = sym (append-nil (word_text 3)); first = (3, word_spelled 3 (lit< tt), refl); others = (refl, refl) })

pub events_spelled : (i : ℕ) (es : List Event) → AllByRecursion EventFits es → Spells (events (length es) i) (events_text es) es
unfolding events
events_spelled i [] fit = (refl, refl)
events_spelled i (e ∷ es) fit =
    both_spelled (event i) (λ first. both (events (length es) (i + 1)) (λ others. nothing (first ∷ others))) e (e ∷ es) (event_text e) (events_text es) (event_spelled i e fit.0)
    (nothing_behind (events (length es) (i + 1)) (λ others. e ∷ others) es (events_text es) (events_spelled (i + 1) es fit.1))

-- what was written of the events below i, behind what stood there
pub record IsWrittenTo (front : List ℕ) (seen : List owned.Event) (i : ℕ) (out : List ℕ) : Type 0 where
  pub text : out ≡ front ++ events_text (all_happened (take i seen))
  pub fits : AllByRecursion EventFits (all_happened (take i seen))
  pub size : length out ≤ 268435456

events_text-push : (es : List Event) (e : Event) → events_text (es ++ e ∷ []) ≡ events_text es ++ event_text e
events_text-push [] e = append-nil (event_text e)
events_text-push (x ∷ es) e = ap (λ t. event_text x ++ t) (events_text-push es e) ∙ sym (append_assoc (event_text x) (events_text es) (event_text e))

fits-push : (es : List Event) (e : Event) → AllByRecursion EventFits es → EventFits e → AllByRecursion EventFits (es ++ e ∷ [])
fits-push [] e all one = (one, tt)
fits-push (x ∷ es) e all one = (all.0, fits-push es e all.1 one)

one_taken : (seen : List owned.Event) (i : ℕ) (d : owned.Event) → i < length seen → all_happened (take (i + 1) seen) ≡ all_happened (take i seen) ++ happened (get_or seen i d) ∷ []
one_taken seen i d lt = ap all_happened (take_more seen i d lt) ∙ map_push happened (take i seen) (get_or seen i d)

pub none_written : (front : List ℕ) (seen : List owned.Event) → length front ≤ 268435456 → IsWrittenTo front seen 0 front
none_written front seen small = record { text = sym (append-nil front); fits = tt; size = small }

more_at : (front : List ℕ) (seen : List owned.Event) (i : ℕ) (d : owned.Event) (old new : List ℕ) → i < length seen → new ≡ old ++ event_text (happened (get_or seen i d)) → EventFits (happened (get_or seen i d)) → length new ≤ 268435456 → IsWrittenTo front seen i old → IsWrittenTo front seen (i + 1) new
more_at front seen i d old new lt pushed fits small so_far =
    let e = happened (get_or seen i d) in
    let before = all_happened (take i seen) in
    let taken = one_taken seen i d lt in
    record {
      text = pushed ∙ ap (λ t. t ++ event_text e) so_far.text ∙ append_assoc front (events_text before) (event_text e) ∙ ap (λ t. front ++ t) (sym (events_text-push before e)) ∙ ap (λ es. front ++ events_text es) (sym taken);
      fits = rw taken (fits-push before e so_far.fits fits);
      size = small;
    }

-- the text of all events, with their number
pub text_written : (old front : List ℕ) (seen : List owned.Event) (i : ℕ) (out : List ℕ) → front ≡ old ++ word_text (length seen) → length seen ≤ i → IsWrittenTo front seen i out → out ≡ old ++ counted_text (all_happened seen)
text_written old front seen i out begun le so_far =
    let whole : take i seen ≡ seen = take_all i seen le in
    let es = all_happened seen in
    let count : length es ≡ length seen = length-map seen happened in
    so_far.text ∙ ap (λ xs. front ++ events_text (all_happened xs)) whole ∙ ap (λ t. t ++ events_text es) begun
    ∙ ap (λ n. (old ++ word_text n) ++ events_text es) (sym count) ∙ append_assoc old (word_text (length es)) (events_text es)

pub fits_written : (front : List ℕ) (seen : List owned.Event) (i : ℕ) (out : List ℕ) → length seen ≤ i → IsWrittenTo front seen i out → AllByRecursion EventFits (all_happened seen)
fits_written front seen i out le so_far =
    let whole : take i seen ≡ seen = take_all i seen le in
    subst (λ (xs : List owned.Event). AllByRecursion EventFits (all_happened xs)) whole so_far.fits

some_long : (seen : List owned.Event) (i : ℕ) (d : owned.Event) → i < length seen → IsLong (happened (get_or seen i d)) → SomeLong (all_happened seen)
some_long [] i d lt long = absurd (omega arith)
some_long (e ∷ seen) zero d lt long = inl long
some_long (e ∷ seen) (suc i) d lt long = inr (some_long seen i d (omega arith) long)

-- the text of the first events is no longer than that of all
front_shorter : (seen : List owned.Event) (i : ℕ) → length (events_text (all_happened (take i seen))) ≤ length (events_text (all_happened seen))
front_shorter [] zero = omega arith
front_shorter [] (suc i) = omega arith
front_shorter (e ∷ seen) zero = omega arith
front_shorter (e ∷ seen) (suc i) =
    omega (arith, front_shorter seen i, length-append (event_text (happened e)) (events_text (all_happened (take i seen))), length-append (event_text (happened e)) (events_text (all_happened seen)))

-- what is over the limit before all events are written is over it with them
over_at : (old front : List ℕ) (seen : List owned.Event) (i : ℕ) (d : owned.Event) (before new : List ℕ) → front ≡ old ++ word_text (length seen) → i < length seen → new ≡ before ++ event_text (happened (get_or seen i d)) → 268435456 < length new
    → IsWrittenTo front seen i before → 268435456 < length (old ++ counted_text (all_happened seen))
over_at old front seen i d before new begun lt pushed large so_far =
    let e = happened (get_or seen i d) in
    let first = all_happened (take i seen) in
    let es = all_happened seen in
    let text : new ≡ front ++ events_text (all_happened (take (i + 1) seen)) = pushed ∙ ap (λ t. t ++ event_text e) so_far.text ∙ append_assoc front (events_text first) (event_text e) ∙ ap (λ t. front ++ t) (sym (events_text-push first e)) ∙ ap (λ xs. front ++ events_text xs) (sym (one_taken seen i d lt)) in
    let count : length es ≡ length seen = length-map seen happened in
    let grouped : front ++ events_text es ≡ old ++ counted_text es =
    ap (λ t. t ++ events_text es) begun ∙ ap (λ n. (old ++ word_text n) ++ events_text es) (sym count) ∙ append_assoc old (word_text (length es)) (events_text es) in
    let new_length : length new ≡ length front + length (events_text (all_happened (take (i + 1) seen))) = ap length text ∙ length-append front (events_text (all_happened (take (i + 1) seen))) in
    let all_length : length (old ++ counted_text es) ≡ length front + length (events_text es) = ap length (sym grouped) ∙ length-append front (events_text es) in
    omega (arith, large, new_length, all_length, front_shorter seen (i + 1))

-- the number of events alone is over the limit
pub count_over : (old front : List ℕ) (seen : List owned.Event) → front ≡ old ++ word_text (length seen) → 268435456 < length front → 268435456 < length (old ++ counted_text (all_happened seen))
count_over old front seen begun large =
    let es = all_happened seen in
    let count : length es ≡ length seen = length-map seen happened in
    let all_length : length (old ++ counted_text es) ≡ length (old ++ word_text (length seen)) + length (events_text es) =
    ap length (sym (append_assoc old (word_text (length es)) (events_text es)) ∙ ap (λ n. (old ++ word_text n) ++ events_text es) count) ∙ length-append (old ++ word_text (length seen)) (events_text es) in
    omega (arith, large, all_length, ap length begun)

-- the same of the event that stands there
pub written_more : (front : List ℕ) (seen : List owned.Event) (i : ℕ) (e : owned.Event) (old new : List ℕ) → i < length seen → e ≡ get_or seen i e → new ≡ old ++ event_text (happened e) → EventFits (happened e) → length new ≤ 268435456 → IsWrittenTo front seen i old → IsWrittenTo front seen (i + 1) new
written_more front seen i e old new lt is pushed fits small so_far =
    more_at front seen i e old new lt (subst (λ (x : owned.Event). new ≡ old ++ event_text (happened x)) is pushed) (subst (λ (x : owned.Event). EventFits (happened x)) is fits) small so_far

pub long_here : (large : Type 0) (seen : List owned.Event) (i : ℕ) (e : owned.Event) (fault : WriteFault) → i < length seen → e ≡ get_or seen i e → IsLargeOnlyIf {X = Unit {0}} (IsLong (happened e)) (Err fault) → IsLargeOnlyIf {X = Unit {0}} (SomeLong (all_happened seen) ⊎ large) (Err fault)
long_here large seen i e faults.TooLarge lt is long = inl (some_long seen i e lt (subst (λ (x : owned.Event). IsLong (happened x)) is long))
long_here large seen i e faults.NoMemory lt is long = tt

pub file_over : (old front : List ℕ) (seen : List owned.Event) (i : ℕ) (e : owned.Event) (before new : List ℕ) → front ≡ old ++ word_text (length seen) → i < length seen → e ≡ get_or seen i e → new ≡ before ++ event_text (happened e) → 268435456 < length new → IsWrittenTo front seen i before
    → 268435456 < length (old ++ counted_text (all_happened seen))
file_over old front seen i e before new begun lt is pushed large so_far =
    over_at old front seen i e before new begun lt (subst (λ (x : owned.Event). new ≡ before ++ event_text (happened x)) is pushed) large so_far
