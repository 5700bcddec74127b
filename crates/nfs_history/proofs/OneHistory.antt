-- The bytes of a file are those of one history.
use Rattle.std.proofs.Common.{◌≡◌, ℕ, true, false, List, [], ◌∷◌, map, Option, Some, None, refl, sym, ap, subst, ◌∙◌}
use Rattle.std.proofs.lemmas.Bool.{ne_eqb}
use Rattle.xdr_records.proofs.Laws.{one_value}
use Rattle.rpc_reader.specs.Values.{CallValue, Body}
use Rattle.rpc_reader.proofs.OneMessage.{one_head}
use Rattle.nfs3_types.specs.declared.calls.NfsCall.{NfsCall}
use Rattle.nfs3_types.specs.declared.replies.NfsReply.{NfsReply}
use Rattle.nfs3_types.specs.declared.replies.Outcome.{Outcome}
use Rattle.nfs3_types.specs.declared.replies.Outcome.TheVariants as outcomes
use Rattle.nfs3_msgs.specs.Messages.{arguments, results}
use Rattle.nfs3_msgs.specs.nfs3_values_specs.Told as told
use Rattle.history_file.specs.tree_starts_specs.Head.{Head}
use Rattle.history_file.specs.declared.event.Event as owned
use Rattle.history_file.specs.declared.event.Event.TheVariants as owns
use Rattle.history_file.specs.Event.{Event, Recording}
use Rattle.history_file.specs.Event.Event.{call, reply, close, crash}
use Rattle.history_file.specs.Owning.{happened, all_happened}
use Rattle.nfs_history.specs.declared.recorded.Meaning.{Meaning}
use Rattle.nfs_history.specs.declared.recorded.Meaning.TheVariants as meanings
use Rattle.nfs_history.specs.declared.recorded.RecordedCall.{RecordedCall}
use Rattle.nfs_history.specs.HistoryValue.{CallsValue, HistoryValue}
use Rattle.nfs_history.specs.Calls.{CallEvent, calls_of}
use Rattle.nfs_history.specs.Effects.{results_of, has_no_effect}
use Rattle.nfs_history.specs.History.{CameOut, IsJudged, IsKnownAs, Means, IsRecorded, AreRecorded, AreCallsOf, IsCallsFile, IsHistory, IsHistoryFile}
use Rattle.nfs_history.proofs.CallFaultLaws.{one_answer}
use Rattle.nfs_history.proofs.CallFaultTable.{not_left_out}
use Rattle.history_file.proofs.FileLaws.{one_recording}

-- ---- a call means one thing

-- a call came out in one way
one_outcome : (procedure : ℕ) (bytes : Option (List ℕ)) (a b : Option Outcome) → CameOut procedure bytes a → CameOut procedure bytes b → a ≡ b
one_outcome procedure None a b x y = x ∙ sym y
one_outcome procedure (Some bytes) a b x y =
    x.2 ∙ ap (λ (answer : NfsReply). Some (outcomes.Received answer)) (one_value told.kind_of (results procedure) bytes x.0 y.0 x.1 y.1) ∙ sym y.2

-- a judged call may have an effect
pub has_effect : (head : CallValue) (body : Option Body) (asked : NfsCall) (outcome : Option Outcome) → IsJudged head body asked outcome → has_no_effect head body ≡ false
has_effect head body asked outcome judged =
    let nfs = judged.of_nfs in
    let inside = not_left_out head.procedure nfs.procedure in
    let open_flavor = ne_eqb head.flavor 6 nfs.credential in
    rw (judged.accepted, nfs.program, nfs.version, open_flavor, inside, nfs.procedure) refl

not_both : (head : CallValue) (body : Option Body) (asked : NfsCall) (outcome : Option Outcome) → IsJudged head body asked outcome → has_no_effect head body ≡ true → ⊥
not_both head body asked outcome judged none =
    let wrong : false ≡ true = sym (has_effect head body asked outcome judged) ∙ none in
    absurd cc

one_known : (head : CallValue) (body : Option Body) (m n : Meaning) (a b : Option Outcome) → IsKnownAs head body m a → IsKnownAs head body n b → (m ≡ n) × (a ≡ b)
one_known head body (meanings.Judged c) (meanings.Judged d) a b x y = (
  ap (λ (e : NfsCall). meanings.Judged e) (one_value told.kind_of (arguments head.procedure) head.args c d x.of_nfs.arguments y.of_nfs.arguments),
  one_outcome head.procedure (results_of body) a b x.came_out y.came_out,
)
one_known head body (meanings.Judged c) meanings.Unjudged a b x y = absurd (not_both head body c a x y.0)
one_known head body meanings.Unjudged (meanings.Judged d) a b x y = absurd (not_both head body d b y x.0)
one_known head body meanings.Unjudged meanings.Unjudged a b x y = (refl, x.1 ∙ sym y.1)

one_meaning : (event : CallEvent) (m n : Meaning) (a b : Option Outcome) → Means event m a → Means event n b → (m ≡ n) × (a ≡ b)
one_meaning event m n a b x y =
    let heads_are = one_head event.message x.0 y.0 x.2 y.2 in
    let bodies_are = one_answer event.answer x.1 y.1 x.3 y.3 in
    let known = subst (λ (head : CallValue). IsKnownAs head y.1 m a) heads_are (subst (λ (body : Option Body). IsKnownAs x.0 body m a) bodies_are x.4) in
    one_known y.0 y.1 m n a b known y.4

-- ---- the calls of a recording

called : ℕ → ℕ → Meaning → ℕ → Option ℕ → ℕ → Option Outcome → RecordedCall
called lane xid meaning begin «end» era outcome = record { lane = lane; xid = xid; meaning = meaning; begin = begin; «end» = «end»; era = era; outcome = outcome }

pub same_call : (c d : RecordedCall) → c.lane ≡ d.lane → c.xid ≡ d.xid → c.meaning ≡ d.meaning → c.begin ≡ d.begin → c.«end» ≡ d.«end» → c.era ≡ d.era → c.outcome ≡ d.outcome → c ≡ d
unfolding called
same_call c d lane xid meaning begin «end» era outcome =
    let all : called c.lane c.xid c.meaning c.begin c.«end» c.era c.outcome ≡ called d.lane d.xid d.meaning d.begin d.«end» d.era d.outcome = rw (lane, xid, meaning, begin, «end», era, outcome) refl in
    all

one_call : (event : CallEvent) (c d : RecordedCall) → IsRecorded event c → IsRecorded event d → c ≡ d
one_call event c d x y =
    let means = one_meaning event c.meaning d.meaning c.outcome d.outcome x.means y.means in
    same_call c d (x.lane ∙ sym y.lane) (x.xid ∙ sym y.xid) means.0 (x.begin ∙ sym y.begin) (x.«end» ∙ sym y.«end») (x.era ∙ sym y.era) means.1

one_list : (events : List CallEvent) (cs ds : List RecordedCall) → AreRecorded events cs → AreRecorded events ds → cs ≡ ds
one_list [] [] [] x y = refl
one_list [] [] (d ∷ ds) x y = absurd y
one_list [] (c ∷ cs) ds x y = absurd x
one_list (e ∷ events) [] ds x y = absurd x
one_list (e ∷ events) (c ∷ cs) [] x y = absurd y
one_list (e ∷ events) (c ∷ cs) (d ∷ ds) x y =
    ap (λ (first : RecordedCall). first ∷ cs) (one_call e c d x.0 y.0) ∙ ap (λ (others : List RecordedCall). d ∷ others) (one_list events cs ds x.1 y.1)

-- ---- the events of a recording

unfoldable pub owned_of : Event → owned.Event
owned_of (call lane message) = owns.Call lane message
owned_of (reply lane message) = owns.Reply lane message
owned_of (close lane) = owns.Close lane
owned_of crash = owns.Crash

pub owned_again : (e : owned.Event) → owned_of (happened e) ≡ e
unfolding owned_of
owned_again (owns.Call lane message) = refl
owned_again (owns.Reply lane message) = refl
owned_again (owns.Close lane) = refl
owned_again owns.Crash = refl

all_owned_again : (events : List owned.Event) → map owned_of (all_happened events) ≡ events
all_owned_again [] = refl
all_owned_again (e ∷ events) = ap (λ (first : owned.Event). first ∷ map owned_of (all_happened events)) (owned_again e) ∙ ap (λ (others : List owned.Event). e ∷ others) (all_owned_again events)

one_sequence : (es fs : List owned.Event) → all_happened es ≡ all_happened fs → es ≡ fs
one_sequence es fs same = sym (all_owned_again es) ∙ ap (map owned_of) same ∙ all_owned_again fs

-- ---- the history of a file

made : Head → ℕ → List RecordedCall → CallsValue
made head eras calls = record { head = head; eras = eras; calls = calls }

same_known : (h g : CallsValue) → h.head ≡ g.head → h.eras ≡ g.eras → h.calls ≡ g.calls → h ≡ g
unfolding made
same_known h g head eras calls =
    let all : made h.head h.eras h.calls ≡ made g.head g.eras g.calls = rw (head, eras, calls) refl in
    all

pub known_once : (seen : Recording) (h g : CallsValue) → AreCallsOf seen h → AreCallsOf seen g → h ≡ g
known_once seen h g x y =
    same_known h g (x.head ∙ sym y.head) (x.eras ∙ sym y.eras) (one_list (calls_of seen.events) h.calls g.calls x.calls y.calls)

held : CallsValue → List owned.Event → ℕ → HistoryValue
held known events spare = record { known = known; events = events; spare = spare }

same_history : (h g : HistoryValue) → h.known ≡ g.known → h.events ≡ g.events → h.spare ≡ g.spare → h ≡ g
unfolding held
same_history h g known events spare =
    let all : held h.known h.events h.spare ≡ held g.known g.events g.spare = rw (known, events, spare) refl in
    all

one_of_recording : (seen : Recording) (h g : HistoryValue) → IsHistory seen h → IsHistory seen g → h.spare ≡ g.spare → h ≡ g
one_of_recording seen h g x y spare = same_history h g (known_once seen h.known g.known x.known y.known) (one_sequence h.events g.events (x.events ∙ sym y.events)) spare

pub one_calls : (bytes : List ℕ) (h g : CallsValue) → IsCallsFile bytes h → IsCallsFile bytes g → h ≡ g
one_calls bytes h g x y =
    let same = one_recording bytes x.0 y.0 x.1 y.1 in
    known_once y.0 h g (subst (λ (seen : Recording). AreCallsOf seen h) same x.2) y.2

pub one_history : (bytes : List ℕ) (h g : HistoryValue) → IsHistoryFile bytes h → IsHistoryFile bytes g → h ≡ g
one_history bytes h g x y =
    let same = one_recording bytes x.0 y.0 x.1 y.1 in
    one_of_recording y.0 h g (subst (λ (seen : Recording). IsHistory seen h) same x.2) y.2 (x.3 ∙ sym y.3)
