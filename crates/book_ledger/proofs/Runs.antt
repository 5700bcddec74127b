-- what holds of every book that a run leads to
use Rattle.tree_starts.specs.Start.{IsStart}
use Rattle.tree_starts.specs.declared.object.StartObject.{StartObject}
use Rattle.tree_starts.specs.declared.profile.Profile.{Profile}
use Rattle.std.proofs.Common.{◌≡◌, inr, ℕ, ◌+◌, ◌-◌, ◌≤◌, Bool, true, false, List, [], ◌∷◌, ◌++◌, refl, sym, ap, ◌∙◌, subst, arith}
use Rattle.std.specs.Prelude.{◌&&◌, ◌||◌}
use Rattle.std.specs.List.{AllByRecursion, list_any}
use Rattle.nfs3_types.specs.declared.calls.NfsCall.{NfsCall}
use Rattle.nfs3_types.specs.declared.replies.NfsReply.{NfsReply}
use Rattle.nfs3_types.specs.declared.replies.Outcome.TheVariants as outcomes
use Rattle.nfs3_types.specs.Procedures.{is_answered}
use Rattle.history_file.specs.declared.event.Event as owned
use Rattle.history_file.specs.declared.event.Event.TheVariants as owns
use Rattle.history_file.specs.Event.{Event}
use Rattle.history_file.specs.Owning.{happened, all_happened}
use Rattle.nfs_history.specs.declared.recorded.Meaning.TheVariants as meanings
use Rattle.nfs_history.specs.declared.recorded.RecordedCall.{RecordedCall}
use Rattle.nfs_history.specs.Checking.{is_crash, is_on, was_cut_off}
use Rattle.nfs_history.specs.Standing.{IsCutOff}
use Rattle.nfs_history.proofs.Lanes.{cut_off_push, cut_off_is, is_cut_off}
use Rattle.book_laws.specs.Placing.{Placed}
use Rattle.book_laws.specs.Book.{Book, setting_made, object_in}
use Rattle.book_laws.specs.Steps.{opening_book, begun, answered_now, with_made, step_of, Steps, IsRun}
use Rattle.book_laws.specs.Steps.Steps.{begins, places, flushes, answers, closes, crashes, refuses}
use Rattle.book_laws.proofs.Invariant.{IsInvariant}
use Rattle.book_laws.proofs.Lists.{all_append, all_each}
use Rattle.book_laws.proofs.Moving.{all_changed}
use Rattle.book_laws.proofs.Kept.{kept}
use Rattle.book_laws.proofs.EveryBook.{opening_holds}
use Rattle.book_ledger.specs.Inside.{LeadsTo, IsReached}
use Rattle.book_ledger.proofs.Replied.{right_reply_by}

-- ---- lists of events

pub happened_push : (events : List owned.Event) (e : owned.Event) → all_happened (events ++ e ∷ []) ≡ all_happened events ++ happened e ∷ []
happened_push [] e = refl
happened_push (x ∷ events) e = ap (λ (xs : List Event). happened x ∷ xs) (happened_push events e)

-- an event that is no crash cuts no lane off
still_on : (lane : ℕ) (events : List Event) (e : Event) → is_crash e ≡ false → IsCutOff lane (events ++ e ∷ []) → IsCutOff lane events
still_on lane events e calm off = cut_off_is lane events (go (was_cut_off lane events) (list_any (is_on lane) events) (is_crash e) calm (sym (cut_off_push lane events e) ∙ is_cut_off lane (events ++ e ∷ []) off)) where
  go : (a b c : Bool) → c ≡ false → (a || (b && c)) ≡ true → a ≡ true
  go true b c f g = refl
  go false true true f g = absurd (cc)
  go false true false f g = absurd (cc)
  go false false c f g = absurd (cc)

pub calm_on : (lane : ℕ) (events : List owned.Event) (e : owned.Event) → is_crash (happened e) ≡ false → IsCutOff lane (all_happened (events ++ e ∷ [])) → IsCutOff lane (all_happened events)
calm_on lane events e calm off = still_on lane (all_happened events) (happened e) calm (subst (λ (es : List Event). IsCutOff lane es) (happened_push events e) off)

-- ---- what holds

abbrev pub IsJudgedCall : RecordedCall → Type 0
IsJudgedCall call = (asked : NfsCall) × (call.meaning ≡ meanings.Judged asked)

-- the lane of a call of the era now outlives the last crash
abbrev pub IsUncut : ℕ → List Event → RecordedCall → Type 0
IsUncut eras events call = call.era ≡ eras → IsCutOff call.lane events → ⊥

pub record IsReplyTo (step : Placed) : Type 0 where
  pub reply : NfsReply
  pub received : step.outcome ≡ outcomes.Received reply
  pub right : is_answered step.call reply ≡ true

pub record IsSound (book : Book) : Type 0 where
  pub invariant : IsInvariant book
  pub judged : AllByRecursion IsJudgedCall book.history.known.calls
  pub earlier : AllByRecursion (λ (call : RecordedCall). call.era ≤ book.history.known.eras) book.history.known.calls
  pub uncut : AllByRecursion (IsUncut book.history.known.eras (all_happened book.history.events)) book.history.known.calls
  pub replied : AllByRecursion IsReplyTo book.placed

pub opening_sound : (profile : Profile) (start : List StartObject) (faults : ℕ) → IsStart start → IsSound (opening_book profile start faults)
opening_sound profile start faults is = record { invariant = opening_holds profile start faults is; judged = tt; earlier = tt; uncut = tt; replied = tt }

-- the calls are those that they were, and an event that is no crash came
calm_uncut : (eras : ℕ) (events : List owned.Event) (e : owned.Event) (calls : List RecordedCall) → is_crash (happened e) ≡ false → AllByRecursion (IsUncut eras (all_happened events)) calls
    → AllByRecursion (IsUncut eras (all_happened (events ++ e ∷ []))) calls
calm_uncut eras events e calls calm all =
    all_each (IsUncut eras (all_happened events)) (IsUncut eras (all_happened (events ++ e ∷ []))) calls (λ c uncut now off. uncut now (calm_on c.lane events e calm off)) all

pub sound_step : (book new : Book) → IsSound book → Steps book new → IsSound new
sound_step book new s (begins lane message b) =
    let call = begun book.history lane message b.call in
    let event = owns.Call lane message in
    subst IsSound (sym b.done) (record {
      invariant = subst IsInvariant b.done (kept book new s.invariant (begins lane message b));
      judged = all_append IsJudgedCall book.history.known.calls (call ∷ []) s.judged ((b.call, refl), tt);
      earlier = all_append (λ (c : RecordedCall). c.era ≤ book.history.known.eras) book.history.known.calls (call ∷ []) s.earlier (le_refl, tt);
      uncut =
          all_append (IsUncut book.history.known.eras (all_happened (book.history.events ++ event ∷ []))) book.history.known.calls (call ∷ [])
          (calm_uncut book.history.known.eras book.history.events event book.history.known.calls refl s.uncut)
          ((λ now off. b.is_open (inr (calm_on lane book.history.events event refl off))), tt);
      replied = s.replied;
    }) where
      le_refl : {n : ℕ} → n ≤ n
      le_refl = omega arith
sound_step book new s (places number reply p) =
    subst IsSound (sym p.done) (record {
      invariant = subst IsInvariant p.done (kept book new s.invariant (places number reply p));
      judged = s.judged;
      earlier = s.earlier;
      uncut = s.uncut;
      replied = all_append IsReplyTo book.placed (step_of number p.call reply ∷ []) s.replied
          (record { reply = reply; received = refl; right = right_reply_by (setting_made book.history.known.head (with_made (object_in book number) p.after book.made)) p.before p.after number p.call reply p.next }, tt);
    })
sound_step book new s (flushes f) = subst IsSound (sym f.done) (record {
  invariant = subst IsInvariant f.done (kept book new s.invariant (flushes f));
  judged = s.judged;
  earlier = s.earlier;
  uncut = s.uncut;
  replied = s.replied;
})
sound_step book new s (answers number a) =
    let told = answered_now book.history a.step.outcome in
    let event = owns.Reply a.recorded.lane a.answer in
    let calls = book.history.known.calls in
    let eras = book.history.known.eras in
    subst IsSound (sym a.done) (record {
      invariant = subst IsInvariant a.done (kept book new s.invariant (answers number a));
      judged = all_changed IsJudgedCall told (number - 1) calls (λ c j. j) s.judged;
      earlier = all_changed (λ (c : RecordedCall). c.era ≤ eras) told (number - 1) calls (λ c le. le) s.earlier;
      uncut = all_changed (IsUncut eras (all_happened (book.history.events ++ event ∷ []))) told (number - 1) calls (λ c uncut. uncut)
          (calm_uncut eras book.history.events event calls refl s.uncut);
      replied = s.replied;
    })
sound_step book new s (closes lane c) = subst IsSound (sym c.done) (record {
  invariant = subst IsInvariant c.done (kept book new s.invariant (closes lane c));
  judged = s.judged;
  earlier = s.earlier;
  uncut = calm_uncut book.history.known.eras book.history.events (owns.Close lane) book.history.known.calls refl s.uncut;
  replied = s.replied;
})
sound_step book new s (crashes keep c) =
    let eras = book.history.known.eras in
    subst IsSound (sym c.done) (record {
      invariant = subst IsInvariant c.done (kept book new s.invariant (crashes keep c));
      judged = s.judged;
      earlier = all_each (λ (call : RecordedCall). call.era ≤ eras) (λ (call : RecordedCall). call.era ≤ eras + 1) book.history.known.calls (λ call le. further le) s.earlier;
      uncut =
          all_each (λ (call : RecordedCall). call.era ≤ eras) (IsUncut (eras + 1) (all_happened (book.history.events ++ owns.Crash ∷ []))) book.history.known.calls
          (λ call le now off. past le now) s.earlier;
      replied = tt;
    }) where
      further : {m n : ℕ} → m ≤ n → m ≤ n + 1
      further le = omega (arith, le)

      past : {m n : ℕ} → m ≤ n → m ≡ n + 1 → ⊥
      past le now = omega (arith, le, now)
sound_step book new s (refuses r) = subst IsSound (sym r.done) (record {
  invariant = subst IsInvariant r.done (kept book new s.invariant (refuses r));
  judged = s.judged;
  earlier = s.earlier;
  uncut = s.uncut;
  replied = s.replied;
})

sound_run : (book : Book) (books : List Book) (last : Book) → IsSound book → IsRun book books → LeadsTo book books last → IsSound last
sound_run book [] last s run leads = subst IsSound leads s
sound_run book (next ∷ books) last s run leads = sound_run next books last (sound_step book next s run.0) run.1 leads

pub sound : (book : Book) → IsReached book → IsSound book
sound book r = sound_run (opening_book r.profile r.start r.faults) r.books book (opening_sound r.profile r.start r.faults r.is_start) r.run r.leads

-- ---- one step more

run_more : (first : Book) (books : List Book) (book new : Book) → IsRun first books → LeadsTo first books book → Steps book new → IsRun first (books ++ new ∷ []) × LeadsTo first (books ++ new ∷ []) new
run_more first [] book new run leads step = ((subst (λ (b : Book). Steps b new) (sym leads) step, tt), refl)
run_more first (next ∷ books) book new run leads step = let rest = run_more next books book new run.1 leads step in ((run.0, rest.0), rest.1)

pub reached_step : (book new : Book) → IsReached book → Steps book new → IsReached new
reached_step book new r step =
    let more = run_more (opening_book r.profile r.start r.faults) r.books book new r.run r.leads step in
    record { profile = r.profile; start = r.start; is_start = r.is_start; faults = r.faults; books = r.books ++ new ∷ []; run = more.0; leads = more.1 }

pub reached_opening : (profile : Profile) (start : List StartObject) (faults : ℕ) → IsStart start → IsReached (opening_book profile start faults)
reached_opening profile start faults is = record { profile = profile; start = start; is_start = is; faults = faults; books = []; run = tt; leads = refl }
