-- A log of which an event is noted, or refused, and what it knows from then on.
use Rattle.std.proofs.Common.{◌≡◌, ℕ, ◌+◌, ◌-◌, ◌≤◌, Bool, true, if◌then◌else◌, List, [], ◌∷◌, ◌++◌, length, Ok, Err, Some, refl, sym, ap, subst, ◌∙◌, arith}
use Rattle.std.proofs.lemmas.List.{length-map, map_push}
use Rattle.tree_starts.specs.Head.{plain_head}
use Rattle.history_file.specs.declared.event.Event as owned
use Rattle.history_file.specs.Owning.{happened, all_happened}
use Rattle.history_file.specs.Event.{Event, Recording}
use Rattle.history_file.specs.Limits.{history_limit}
use Rattle.history_file.specs.Writing.{event_text, file_text}
use Rattle.nfs_history.specs.declared.checking.OpenCalls.{OpenCalls}
use Rattle.nfs_history.specs.declared.fault.EventFault.{EventFault}
use Rattle.nfs_history.specs.Checking.{Knows, IsFaultBehind, KnowsOneMore}
use Rattle.nfs_history.specs.Standing.{MayFollow, EachMayFollow}
use Rattle.nfs_history.specs.EventFaults.{IsAtFault}
use Rattle.nfs_history.proofs.Lanes.{eras_few}
use Rattle.nfs_tap.specs.declared.fault.NoteFault.{NoteFault}
use Rattle.nfs_tap.specs.declared.fault.NoteFault.TheVariants as faults
use Rattle.nfs_tap.specs.Noting.{name_of, with_event, Notes}
use Rattle.nfs_tap.specs.Keeping.{IsKept}
use Rattle.nfs_tap.proofs.NotedEvents.{follow_push, refused_so, out_of_memory, noted_so}
use Rattle.nfs_tap.proofs.RoomLeft.{left-more}

-- the log that holds these
abbrev pub log_of : List ℕ → List owned.Event → Recording
log_of root events = record { head = plain_head root; events = all_happened events }

all_of_one_more : (events events' : List owned.Event) (e : owned.Event) (seen : Event) → events' ≡ events ++ e ∷ [] → happened e ≡ seen → all_happened events' ≡ all_happened events ++ seen ∷ []
all_of_one_more events events' e seen more is = ap all_happened more ∙ map_push happened events e ∙ ap (λ (x : Event). all_happened events ++ x ∷ []) is

-- an event is pushed where there is room for it
pub pushed_within : (events before after : List owned.Event) (e : owned.Event) (fits : Bool) → before ≡ events → after ≡ (if fits then before ++ e ∷ [] else before) → fits ≡ true → after ≡ events ++ e ∷ []
pushed_within events before after e fits same pushed fit =
    pushed ∙ ap (λ (b : Bool). if b then before ++ e ∷ [] else before) fit ∙ ap (λ (es : List owned.Event). es ++ e ∷ []) same

pub kept_more : (root : List ℕ) (events events' : List owned.Event) (e : owned.Event) (seen : Event) (old new : OpenCalls) (left left' : ℕ)
    → events' ≡ events ++ e ∷ [] → happened e ≡ seen → IsKept (log_of root events) old left → MayFollow (all_happened events) seen → KnowsOneMore old new seen
    → left' ≡ left - length (event_text (happened e)) → IsKept (log_of root events') new left'
kept_more root events events' e seen old new left left' more is kept may knows takes =
    let all = all_of_one_more events events' e seen more is in
    let size : left' ≡ left - length (event_text seen) = takes ∙ ap (λ (x : Event). left - length (event_text x)) is in
    record {
      follow = subst (EachMayFollow []) (sym all) (follow_push [] (all_happened events) seen kept.follow may);
      knows = subst (Knows new) (sym all) (knows (all_happened events) kept.knows may);
      bytes = size ∙ ap (λ n. n - length (event_text seen)) kept.bytes ∙ sym (left-more root (all_happened events) seen history_limit)
          ∙ ap (λ (es : List Event). history_limit - length (file_text root es)) (sym all);
    }

-- there are no more eras than events, but for the first
pub era_within : (root : List ℕ) (events : List owned.Event) (known : OpenCalls) (left : ℕ) → IsKept (log_of root events) known left → known.era ≤ 1 + length events
era_within root events known left kept =
    omega (arith, kept.knows.era, eras_few 1 (all_happened events), length-map events happened)

-- ---- the answers

pub noted_here : (root : List ℕ) (events events' : List owned.Event) (e : owned.Event) (seen : Event) (old : Recording) → log_of root events ≡ old
    → events' ≡ events ++ e ∷ [] → happened e ≡ seen → MayFollow (all_happened events) seen → Notes {X = Unit {0}} old seen (Ok tt) (log_of root events')
noted_here root events events' e seen old view more is may =
    let now : log_of root events' ≡ with_event (log_of root events) seen =
    ap (λ (es : List Event). let log : Recording = record { head = plain_head root; events = es } in log) (all_of_one_more events events' e seen more is) in
    subst (λ (log : Recording). Notes {X = Unit {0}} log seen (Ok tt) (log_of root events')) view (noted_so (log_of root events) (log_of root events') seen tt may now)

pub refused_here : (root : List ℕ) (events : List owned.Event) (known : OpenCalls) (left number : ℕ) (seen : Event) (old : Recording) (fault : EventFault) (named : NoteFault)
    → log_of root events ≡ old → IsKept (log_of root events) known left → number ≡ length events + 1 → IsFaultBehind known number seen (Some fault) → named ≡ name_of fault
    → Notes {X = Unit {0}} old seen (Err named) old
refused_here root events known left number seen old fault named view kept is behind name =
    let log = log_of root events in
    let count : number ≡ length (all_happened events) + 1 = is ∙ ap (λ n. n + 1) (sym (length-map events happened)) in
    let at : IsAtFault (length (all_happened events) + 1) (all_happened events) seen fault =
    subst (λ n. IsAtFault n (all_happened events) seen fault) count (behind (all_happened events) kept.knows) in
    let so : Notes {X = Unit {0}} log seen (Err named) log = subst (λ (f : NoteFault). Notes {X = Unit {0}} log seen (Err f) log) (sym name) (refused_so log log seen fault at refl) in
    subst (λ (l : Recording). Notes {X = Unit {0}} l seen (Err named) l) view so

pub unchanged_here : (root : List ℕ) (events events' : List owned.Event) (seen : Event) (old : Recording) → log_of root events ≡ old → events' ≡ events
    → Notes {X = Unit {0}} old seen (Err faults.NoMemory) (log_of root events')
unchanged_here root events events' seen old view same = out_of_memory old (log_of root events') seen (ap (log_of root) same ∙ view)
