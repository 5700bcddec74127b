-- A history with one reply more, whose message was read already.
use Rattle.std.proofs.Common.{◌≡◌, ℕ, zero, suc, ◌+◌, ◌<◌, true, List, [], ◌∷◌, length, get_or, set, Option, Some, None, option_map, refl, sym, ap, subst, ◌∙◌, arith}
use Rattle.std.specs.List.{slice_get}
use Rattle.std.specs.HashMap.{get}
use Rattle.std.proofs.lemmas.Bool.{eqb-true}
use Rattle.std.proofs.lemmas.Option.{same_Some}
use Rattle.nfs3_types.specs.declared.calls.NfsCall.{NfsCall}
use Rattle.nfs3_types.specs.declared.replies.NfsReply.{NfsReply}
use Rattle.nfs3_types.specs.declared.replies.Outcome.{Outcome}
use Rattle.nfs3_types.specs.declared.replies.Outcome.TheVariants as outcomes
use Rattle.nfs3_types.specs.Procedures.{procedure_called, procedure_answered, is_answered}
use Rattle.rpc_reader.specs.Values.{Body}
use Rattle.rpc_reader.specs.Values.Body.{success}
use Rattle.nfs3_msgs.specs.Messages.{IsResult}
use Rattle.history_file.specs.Event.{Event}
use Rattle.history_file.specs.Event.Event.{reply}
use Rattle.history_file.specs.Owning.{all_happened}
use Rattle.nfs_history.specs.declared.checking.OpenCalls.{OpenCalls}
use Rattle.nfs_history.specs.declared.recorded.Meaning.{Meaning}
use Rattle.nfs_history.specs.declared.recorded.Meaning.TheVariants as meanings
use Rattle.nfs_history.specs.declared.recorded.RecordedCall.{RecordedCall}
use Rattle.nfs_history.specs.HistoryValue.{HistoryValue}
use Rattle.nfs_history.specs.Appending.{unanswered, replied, AreCallsWith, IsPlaceFor, ComesOut, IsAnsweredSo}
use Rattle.nfs_history.specs.Calls.{CallEvent, calls_of, xid_of}
use Rattle.nfs_history.specs.History.{Returns, IsJudged, IsKnownAs, Means, IsRecorded, AreRecorded}
use Rattle.nfs_history.specs.Inside.{IsOpenAt}
use Rattle.nfs_history.specs.Matching.{same_key}
use Rattle.nfs_history.specs.Outside.{outside}
use Rattle.nfs_history.proofs.AppendSteps.{place_within, answered_found}
use Rattle.nfs_history.proofs.AskedProcedure.{procedure_is}

-- ---- the call that it answers

record StandsThere (events : List CallEvent) (calls : List RecordedCall) (place : ℕ) : Type 0 where
  pub event : CallEvent
  pub asked : RecordedCall
  pub at : slice_get events place ≡ Some event
  pub there : slice_get calls place ≡ Some asked
  pub recorded : IsRecorded event asked

stands_there : (events : List CallEvent) (calls : List RecordedCall) (place : ℕ) → AreRecorded events calls → place < length events → StandsThere events calls place
stands_there [] calls place all lt = absurd (omega (arith, lt))
stands_there (e ∷ events) [] place all lt = absurd all
stands_there (e ∷ events) (c ∷ calls) zero all lt = record { event = e; asked = c; at = refl; there = refl; recorded = all.0 }
stands_there (e ∷ events) (c ∷ calls) (suc place) all lt =
    let rest = stands_there events calls place all.1 (omega (arith, lt)) in
    record { event = rest.event; asked = rest.asked; at = rest.at; there = rest.there; recorded = rest.recorded }

pub place_for : (h : HistoryValue) (known : OpenCalls) (lane : ℕ) (message : List ℕ) (place : ℕ) (old : HistoryValue) → h ≡ old → IsOpenAt h known → get same_key known.unanswered (lane, xid_of message) ≡ Some place
    → IsPlaceFor old lane message place
place_for h known lane message place old view is at =
    let events = calls_of (all_happened h.events) in
    let lt : place < length events = omega (arith, is.knows.within lane (xid_of message) place at, is.knows.calls) in
    let stands = stands_there events h.known.calls place is.history.known.calls lt in
    subst (λ (v : HistoryValue). IsPlaceFor v lane message place) view (record {
      within = place_within h known lane (xid_of message) place is at;
      event = stands.event;
      asked = stands.asked;
      there = stands.there;
      recorded = stands.recorded;
      answered = λ now recorded. answered_found h known lane message place (unanswered stands.event) now is at (sym (ap (option_map unanswered) stands.at)) recorded;
    })

-- ---- what becomes of it

module _ (message : List ℕ) (number : ℕ) (said : NfsReply) (returns : Returns message said) where
  abbrev came_out : Option Outcome
  came_out = Some (outcomes.Received said)

  -- the result is one of the call's procedure
  its_result : (procedure : ℕ) (call : NfsCall) → procedure_called call ≡ procedure → is_answered call said ≡ true → IsResult procedure returns.results said
  its_result procedure call of answered =
      let same : procedure_answered said ≡ procedure = sym (eqb-true (procedure_called call) (procedure_answered said) answered) ∙ of in
      subst (λ p. IsResult p returns.results said) same returns.result

  means_so : (event : CallEvent) (meaning : Meaning) (before : Option Outcome) (call : NfsCall) → Means event meaning before → meaning ≡ meanings.Judged call → is_answered call said ≡ true → outside call came_out ≡ None
      → Means (replied number message event) meaning came_out
  means_so event meaning before call means is answered inside =
      let head = means.0 in
      let judged : IsJudged head means.1 call before = subst (λ m. IsKnownAs head means.1 m before) is means.4 in
      let result = its_result head.procedure call (sym (procedure_is head.procedure head.args call judged.of_nfs.arguments)) answered in
      let known : IsJudged head (Some (success returns.results)) call came_out = record { of_nfs = judged.of_nfs; accepted = refl; came_out = (said, result, refl); inside = inside } in (
        head,
        Some (success returns.results),
        means.2,
        (returns.value, returns.is_reply, ap (λ (b : Body). Some b) (sym returns.accepted)),
        subst (λ m. IsKnownAs head (Some (success returns.results)) m came_out) (sym is) known,
      )

  recorded_so : (event : CallEvent) (asked : RecordedCall) (call : NfsCall) → IsRecorded event asked → asked.meaning ≡ meanings.Judged call → is_answered call said ≡ true → outside call came_out ≡ None
      → IsRecorded (replied number message event) (record asked { «end» = Some number; outcome = came_out })
  recorded_so event asked call recorded is answered inside =
      record {
        lane = recorded.lane;
        xid = recorded.xid;
        begin = recorded.begin;
        «end» = refl;
        era = recorded.era;
        means = means_so event asked.meaning asked.outcome call recorded.means is answered inside;
      }

pub answered_so : (h : HistoryValue) (lane : ℕ) (message : List ℕ) (place : ℕ) (said : NfsReply) → Returns message said → IsPlaceFor h lane message place → ComesOut h place (Some (outcomes.Received said))
    → IsAnsweredSo h (reply lane message) place (Some (outcomes.Received said))
answered_so h lane message place said returns stands comes =
    let same : comes.asked ≡ stands.asked = same_Some comes.asked stands.asked (sym comes.at ∙ stands.there) in
    let judged : stands.asked.meaning ≡ meanings.Judged comes.call = ap (λ (c : RecordedCall). c.meaning) (sym same) ∙ comes.judged in
    let received : said ≡ comes.reply = its_reply comes.reply comes.received in
    let answered : is_answered comes.call said ≡ true = ap (λ r. is_answered comes.call r) received ∙ comes.answered in
    record {
      asked = stands.asked;
      at = stands.there;
      recorded = stands.answered _ (recorded_so message (length h.events + 1) said returns stands.event stands.asked comes.call stands.recorded judged answered comes.inside);
    } where
      its_reply : (r : NfsReply) → Some (outcomes.Received said) ≡ Some (outcomes.Received r) → said ≡ r
      its_reply r e = cc

-- ---- where it is put

item_is : (calls : List RecordedCall) (place : ℕ) (asked item : RecordedCall) → slice_get calls place ≡ Some asked → item ≡ get_or calls place item → asked ≡ item
item_is [] place asked item at is = absurd (cc)
item_is (c ∷ calls) zero asked item at is = sym (same_Some c asked at) ∙ sym is
item_is (c ∷ calls) (suc place) asked item at is = item_is calls place asked item at is

pub put_there : (h old : HistoryValue) (e : Event) (place : ℕ) (outcome : Option Outcome) (item : RecordedCall) (number : ℕ) → h ≡ old → IsAnsweredSo old e place outcome → item ≡ get_or h.known.calls place item → number ≡ length h.events + 1
    → AreCallsWith h e (set h.known.calls place (record item { «end» = Some number; outcome = outcome }))
put_there h old e place outcome item number view so is count =
    let here : IsAnsweredSo h e place outcome = subst (λ (v : HistoryValue). IsAnsweredSo v e place outcome) (sym view) so in
    let same : here.asked ≡ item = item_is h.known.calls place here.asked item here.at is in
    subst (λ n. AreCallsWith h e (set h.known.calls place (record item { «end» = Some n; outcome = outcome }))) (sym count)
    (subst (λ (c : RecordedCall). AreCallsWith h e (set h.known.calls place (record c { «end» = Some (length h.events + 1); outcome = outcome }))) same here.recorded)
