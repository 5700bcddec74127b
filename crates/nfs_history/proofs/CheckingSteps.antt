-- Events are checked one after the other.
use Rattle.std.proofs.Common.{◌≡◌, ◌==◌, ◌||◌, ◌&&◌, inl, inr, ℕ, ◌+◌, length-take-le, ◌<◌, ◌≤◌, Bool, true, false, not, cond, nat_eq, List, [], ◌∷◌, ◌++◌, length, take, drop, get_or, Option, Some, None, is_some, refl, sym, ap, subst, ◌∙◌, arith, drop-cons, add-one, map, length-append}
use Rattle.std.specs.List.{list_any}
use Rattle.std.specs.HashMap.{get}
use Rattle.std.proofs.lemmas.Bool.{eqb-true, eq-eqb, ne_eqb}
use Rattle.std.proofs.lemmas.List.{length-map, take_more, map_push, drop_all, take_all}
use Rattle.history_file.specs.declared.event.SeenEvent.{SeenEvent}
use Rattle.history_file.specs.Owning.{seen_event, all_seen}
use Rattle.history_file.specs.Event.{Event}
use Rattle.history_file.specs.Event.Event.{call, reply, close, crash}
use Rattle.nfs_history.specs.declared.fault.EventFault.{EventFault}
use Rattle.nfs_history.specs.declared.checking.LaneUse.{LaneUse}
use Rattle.nfs_history.specs.declared.checking.LaneUse.TheVariants as uses
use Rattle.nfs_history.specs.declared.checking.OpenCalls.{OpenCalls}
use Rattle.nfs_history.specs.Appending.{IsQuiet}
use Rattle.nfs_history.specs.Calls.{CallEvent, xid_of, calls_of, eras_from}
use Rattle.nfs_history.specs.Matching.{same_key}
use Rattle.nfs_history.specs.Standing.{is_unanswered, has_unanswered, MayFollow, EachMayFollow}
use Rattle.nfs_history.specs.EventFaults.{IsAtFault, FirstEventFault}
use Rattle.nfs_history.specs.Checking.{is_on, is_close_of, is_crash, was_cut_off, was_closed, is_shut, is_over, last_era, is_known_closed, is_place, AnswersWait, Knows, AreKnownToFollow}
use Rattle.nfs_history.proofs.Unanswered.{any-call, any-reply, calls_from-quiet, or_false, and_true}
use Rattle.nfs_history.proofs.Waiting.{new_call, calls_from-call, answered_if, reply_at, calls_from-reply, waits-one, none_waits, waits-answered}
use Rattle.nfs_history.proofs.Lanes.{or_true, any_push, cut_off_push, closed_push, eras_quiet, eras_crash, eras_few, is_open}

-- ---- the lanes behind one more event

-- how a lane was used once another was used so
abbrev UsedSo : OpenCalls → OpenCalls → ℕ → LaneUse → Type 0
UsedSo old new lane use' = (l : ℕ) → get nat_eq new.lanes l ≡ cond (nat_eq lane l) (Some use') (get nat_eq old.lanes l)

quiet_or : (a c x k : Bool) → c ≡ false → k ≡ false → a || (c || (x && k)) ≡ a
quiet_or a c x k e f = rw (e, f) (go a x) where
  go : (a x : Bool) → a || (false || (x && false)) ≡ a
  go true x = refl
  go false true = refl
  go false false = refl

some_or : {A : Type 0} → (b : Bool) (u : A) (o : Option A) → is_some (cond b (Some u) o) ≡ is_some o || b
some_or true u o = sym (or_true (is_some o))
some_or false u o = sym (or_false (is_some o))

used_more : (before : List Event) (old new : OpenCalls) (lane : ℕ) (u : LaneUse) (e : Event) → UsedSo old new lane u → ((l : ℕ) → is_on l e ≡ nat_eq lane l) → Knows old before
    → (l : ℕ) → is_some (get nat_eq new.lanes l) ≡ list_any (is_on l) (before ++ e ∷ [])
used_more before old new lane u e updates on knows l =
    ap is_some (updates l) ∙ some_or (nat_eq lane l) u (get nat_eq old.lanes l)
    ∙ ap (λ b. b || nat_eq lane l) (knows.used l)
    ∙ ap (λ b. list_any (is_on l) before || b) (sym (on l))
    ∙ sym (any_push (is_on l) before e)

not_itself : (n : ℕ) → not (n == n) ≡ false
not_itself n = ap not (eq-eqb n n refl)

-- a lane that is used in this era is open
open_more : (before : List Event) (old new : OpenCalls) (lane : ℕ) (e : Event) → new.era ≡ old.era → UsedSo old new lane (uses.InEra old.era)
    → ((l : ℕ) → is_close_of l e ≡ false) → is_crash e ≡ false → was_closed lane before ≡ false → Knows old before
    → (l : ℕ) → is_known_closed new l ≡ was_closed l (before ++ e ∷ [])
open_more before old new lane e era updates no_close no_crash open_lane knows l =
    go (nat_eq lane l) refl ∙ sym (closed_push l before e ∙ quiet_or (was_closed l before) (is_close_of l e) (list_any (is_on l) before) (is_crash e) (no_close l) no_crash) where
      chosen : (b : Bool) → nat_eq lane l ≡ b → is_known_closed new l ≡ is_shut old.era (cond b (Some (uses.InEra old.era)) (get nat_eq old.lanes l))
      chosen b is = ap (λ n. is_shut n (get nat_eq new.lanes l)) era ∙ ap (is_shut old.era) (updates l ∙ ap (λ x. cond x (Some (uses.InEra old.era)) (get nat_eq old.lanes l)) is)

      go : (b : Bool) → nat_eq lane l ≡ b → is_known_closed new l ≡ was_closed l before
      go true is = chosen true is ∙ not_itself old.era ∙ sym (subst (λ k. was_closed k before ≡ false) (eqb-true lane l is) open_lane)
      go false is = chosen false is ∙ knows.closed l

in_order_used : (before : List Event) (old new : OpenCalls) (lane : ℕ) (u : LaneUse) → new.era ≡ old.era → last_era u ≡ old.era → UsedSo old new lane u → Knows old before
    → (l : ℕ) (v : LaneUse) → get nat_eq new.lanes l ≡ Some v → last_era v ≤ new.era
in_order_used before old new lane u era now updates knows l v is = go (nat_eq lane l) (sym (updates l) ∙ is) where
  go : (b : Bool) → cond b (Some u) (get nat_eq old.lanes l) ≡ Some v → last_era v ≤ new.era
  go true same = let one : u ≡ v = cc in omega (arith, ap last_era one, now, era)
  go false same = omega (arith, knows.in_order l v same, era)

not_second : (a b : Bool) → a || b ≡ false → b ≡ false
not_second true b h = absurd (cc)
not_second false b h = h

-- an event but a crash cuts no lane off
cut_off_used : (before : List Event) (old new : OpenCalls) (lane : ℕ) (u : LaneUse) (e : Event) → new.era ≡ old.era → is_over old.era (Some u) ≡ false → UsedSo old new lane u
    → is_crash e ≡ false → was_closed lane before ≡ false → Knows old before
    → (l : ℕ) → is_over new.era (get nat_eq new.lanes l) ≡ was_cut_off l (before ++ e ∷ [])
cut_off_used before old new lane u e era now updates no_crash open_lane knows l =
    ap (λ n. is_over n (get nat_eq new.lanes l)) era ∙ ap (is_over old.era) (updates l) ∙ go (nat_eq lane l) refl
    ∙ sym (cut_off_push l before e ∙ ap (λ b. was_cut_off l before || (list_any (is_on l) before && b)) no_crash ∙ nothing (was_cut_off l before) (list_any (is_on l) before)) where
      nothing : (a x : Bool) → a || (x && false) ≡ a
      nothing true x = refl
      nothing false true = refl
      nothing false false = refl

      go : (b : Bool) → nat_eq lane l ≡ b → is_over old.era (cond (nat_eq lane l) (Some u) (get nat_eq old.lanes l)) ≡ was_cut_off l before
      go true is =
          ap (λ b. is_over old.era (cond b (Some u) (get nat_eq old.lanes l))) is ∙ now
          ∙ sym (subst (λ k. was_cut_off k before ≡ false) (eqb-true lane l is) (not_second (list_any (is_close_of lane) before) (was_cut_off lane before) open_lane))
      go false is = ap (λ b. is_over old.era (cond b (Some u) (get nat_eq old.lanes l))) is ∙ knows.cut_off l

era_more : (before : List Event) (old new : OpenCalls) (e : Event) → new.era ≡ old.era → is_crash e ≡ false → Knows old before → new.era ≡ eras_from 1 (before ++ e ∷ [])
era_more before old new e era quiet knows = era ∙ knows.era ∙ sym (eras_quiet 1 before e quiet)

-- ---- where the unanswered calls stand

-- the place of an unanswered call once another one stands, or none, at a key
abbrev PlacedSo : OpenCalls → OpenCalls → ℕ × ℕ → Option ℕ → Type 0
PlacedSo old new key place = (q : ℕ × ℕ) → get same_key new.unanswered q ≡ cond (same_key key q) place (get same_key old.unanswered q)

none_or : {A : Type 0} → (b : Bool) (o : Option A) → is_some (cond b None o) ≡ is_some o && not b
none_or true o = sym (and_false (is_some o)) where
  and_false : (b : Bool) → b && false ≡ false
  and_false true = refl
  and_false false = refl
none_or false o = sym (and_true (is_some o))

same_parts : (lane xid l x : ℕ) → same_key (lane, xid) (l, x) ≡ true → (lane ≡ l) × (xid ≡ x)
same_parts lane xid l x is = go (lane == l) refl is where
  go : (b : Bool) → (lane == l) ≡ b → b && (xid == x) ≡ true → (lane ≡ l) × (xid ≡ x)
  go true on of = (eqb-true lane l on, eqb-true xid x of)
  go false on of = absurd (cc)

not_there : (k : ℕ) (o : Option ℕ) → ((place : ℕ) → o ≡ Some place → place < k) → is_place k o ≡ false
not_there k None within = refl
not_there k (Some place) within = let lt : place < k = within place refl in ne_eqb k place (λ same. omega arith)

places_call : (before : List Event) (old new : OpenCalls) (lane : ℕ) (message : List ℕ) → PlacedSo old new (lane, xid_of message) (Some old.calls)
    → Knows old before → has_unanswered lane (xid_of message) before ≡ false
    → (l x : ℕ) → AnswersWait l x (get same_key new.unanswered (l, x)) 0 (calls_of (before ++ call lane message ∷ []))
places_call before old new lane message updates knows free l x =
    subst (AnswersWait l x (get same_key new.unanswered (l, x)) 0) (sym (calls_from-call 1 1 before lane message))
    (subst (λ o. AnswersWait l x o 0 (calls_of before ++ new_call lane message (1 + length before) (eras_from 1 before) ∷ [])) (sym (updates (l, x))) (go (same_key (lane, xid_of message) (l, x)) refl)) where
      behind : 0 + length (calls_of before) ≡ old.calls
      behind = omega (arith, knows.calls)

      go : (b : Bool) → same_key (lane, xid_of message) (l, x) ≡ b → AnswersWait l x (cond b (Some old.calls) (get same_key old.unanswered (l, x))) 0 (calls_of before ++ new_call lane message (1 + length before) (eras_from 1 before) ∷ [])
      go true is =
          let parts = same_parts lane (xid_of message) l x is in
          let none : has_unanswered l x before ≡ false = subst (λ n. has_unanswered n x before ≡ false) parts.0 (subst (λ n. has_unanswered lane n before ≡ false) parts.1 free) in
          waits-one l x 0 (Some old.calls) (calls_of before) (new_call lane message (1 + length before) (eras_from 1 before)) (none_waits l x 0 old.calls (calls_of before) none (omega (arith, behind)))
          (and_true (same_key (lane, xid_of message) (l, x)) ∙ is ∙ sym (eq-eqb (0 + length (calls_of before)) old.calls behind))
      go false is =
          waits-one l x 0 (get same_key old.unanswered (l, x)) (calls_of before) (new_call lane message (1 + length before) (eras_from 1 before)) (knows.places l x)
          (and_true (same_key (lane, xid_of message) (l, x)) ∙ is
          ∙ sym (not_there (0 + length (calls_of before)) (get same_key old.unanswered (l, x)) (λ place at. omega (arith, behind, knows.within l x place at))))

within_call : (before : List Event) (old new : OpenCalls) (key : ℕ × ℕ) → PlacedSo old new key (Some old.calls) → new.calls ≡ old.calls + 1 → Knows old before
    → (l x place : ℕ) → get same_key new.unanswered (l, x) ≡ Some place → place < new.calls
within_call before old new key updates more knows l x place is = go (same_key key (l, x)) (sym (updates (l, x)) ∙ is) where
  go : (b : Bool) → cond b (Some old.calls) (get same_key old.unanswered (l, x)) ≡ Some place → place < new.calls
  go true at = let last : old.calls ≡ place = cc in omega (arith, last, more)
  go false at = omega (arith, knows.within l x place at, more)

places_reply : (before : List Event) (old new : OpenCalls) (lane : ℕ) (message : List ℕ) → PlacedSo old new (lane, xid_of message) None → Knows old before
    → (l x : ℕ) → AnswersWait l x (get same_key new.unanswered (l, x)) 0 (calls_of (before ++ reply lane message ∷ []))
places_reply before old new lane message updates knows l x =
    subst (AnswersWait l x (get same_key new.unanswered (l, x)) 0) (sym (calls_from-reply 1 1 before lane message))
    (subst (λ o. AnswersWait l x o 0 (map (answered_if lane (xid_of message) (reply_at (1 + length before) message)) (calls_of before))) (sym (updates (l, x)))
    (waits-answered lane (xid_of message) l x 0 (reply_at (1 + length before) message) (get same_key old.unanswered (l, x)) (calls_of before) (knows.places l x)))

within_reply : (before : List Event) (old new : OpenCalls) (key : ℕ × ℕ) → PlacedSo old new key None → new.calls ≡ old.calls → Knows old before
    → (l x place : ℕ) → get same_key new.unanswered (l, x) ≡ Some place → place < new.calls
within_reply before old new key updates same knows l x place is = go (same_key key (l, x)) (sym (updates (l, x)) ∙ is) where
  go : (b : Bool) → cond b None (get same_key old.unanswered (l, x)) ≡ Some place → place < new.calls
  go true at = absurd (cc)
  go false at = omega (arith, knows.within l x place at, same)

-- ---- one more event is known

pub knows_call : (before : List Event) (old new : OpenCalls) (lane : ℕ) (message : List ℕ) → new.era ≡ old.era → UsedSo old new lane (uses.InEra old.era)
    → PlacedSo old new (lane, xid_of message) (Some old.calls) → new.calls ≡ old.calls + 1
    → Knows old before → MayFollow before (call lane message) → Knows new (before ++ call lane message ∷ [])
knows_call before old new lane message era used updates more knows may = record {
  unanswered = λ l x. ap is_some (updates (l, x)) ∙ some_or (same_key (lane, xid_of message) (l, x)) old.calls (get same_key old.unanswered (l, x))
      ∙ ap (λ b. b || same_key (lane, xid_of message) (l, x)) (knows.unanswered l x)
      ∙ sym (any-call l x 1 1 before lane message);
  places = places_call before old new lane message updates knows may.2;
  within = within_call before old new (lane, xid_of message) updates more knows;
  calls = more ∙ ap (λ n. n + 1) knows.calls ∙ sym (ap length (calls_from-call 1 1 before lane message) ∙ length_push (calls_of before));
  closed = open_more before old new lane (call lane message) era used (λ l. refl) refl (is_open lane before may.0) knows;
  used = used_more before old new lane (uses.InEra old.era) (call lane message) used (λ l. refl) knows;
  cut_off = cut_off_used before old new lane (uses.InEra old.era) (call lane message) era (not_itself old.era) used refl (is_open lane before may.0) knows;
  in_order = in_order_used before old new lane (uses.InEra old.era) era refl used knows;
  era = era_more before old new (call lane message) era refl knows;
} where
  length_push : (calls : List CallEvent) → length (calls ++ new_call lane message (1 + length before) (eras_from 1 before) ∷ []) ≡ length calls + 1
  length_push calls = length-append calls (new_call lane message (1 + length before) (eras_from 1 before) ∷ [])

pub knows_reply : (before : List Event) (old new : OpenCalls) (lane : ℕ) (message : List ℕ) → new.era ≡ old.era → UsedSo old new lane (uses.InEra old.era)
    → PlacedSo old new (lane, xid_of message) None → new.calls ≡ old.calls
    → Knows old before → MayFollow before (reply lane message) → Knows new (before ++ reply lane message ∷ [])
knows_reply before old new lane message era used updates same knows may = record {
  unanswered = λ l x. ap is_some (updates (l, x)) ∙ none_or (same_key (lane, xid_of message) (l, x)) (get same_key old.unanswered (l, x))
      ∙ ap (λ b. b && not (same_key (lane, xid_of message) (l, x))) (knows.unanswered l x)
      ∙ sym (any-reply l x 1 1 before lane message);
  places = places_reply before old new lane message updates knows;
  within = within_reply before old new (lane, xid_of message) updates same knows;
  calls = same ∙ knows.calls ∙ sym (ap length (calls_from-reply 1 1 before lane message) ∙ length-map (calls_of before) (answered_if lane (xid_of message) (reply_at (1 + length before) message)));
  closed = open_more before old new lane (reply lane message) era used (λ l. refl) refl (is_open lane before may.0) knows;
  used = used_more before old new lane (uses.InEra old.era) (reply lane message) used (λ l. refl) knows;
  cut_off = cut_off_used before old new lane (uses.InEra old.era) (reply lane message) era (not_itself old.era) used refl (is_open lane before may.0) knows;
  in_order = in_order_used before old new lane (uses.InEra old.era) era refl used knows;
  era = era_more before old new (reply lane message) era refl knows;
}

-- a close and a crash leave the calls as they are
places_quiet : (before : List Event) (old new : OpenCalls) (e : Event) → IsQuiet e → new.unanswered ≡ old.unanswered → Knows old before
    → (l x : ℕ) → AnswersWait l x (get same_key new.unanswered (l, x)) 0 (calls_of (before ++ e ∷ []))
places_quiet before old new e quiet same knows l x =
    subst (AnswersWait l x (get same_key new.unanswered (l, x)) 0) (sym (calls_from-quiet 1 1 before e quiet))
    (subst (λ s. AnswersWait l x (get same_key s (l, x)) 0 (calls_of before)) (sym same) (knows.places l x))

within_quiet : (before : List Event) (old new : OpenCalls) → new.unanswered ≡ old.unanswered → new.calls ≡ old.calls → Knows old before
    → (l x place : ℕ) → get same_key new.unanswered (l, x) ≡ Some place → place < new.calls
within_quiet before old new same count knows l x place is =
    omega (arith, count, knows.within l x place (ap (λ s. get same_key s (l, x)) (sym same) ∙ is))

unanswered_quiet : (before : List Event) (old new : OpenCalls) (e : Event) → IsQuiet e → new.unanswered ≡ old.unanswered → Knows old before
    → (l x : ℕ) → is_some (get same_key new.unanswered (l, x)) ≡ has_unanswered l x (before ++ e ∷ [])
unanswered_quiet before old new e quiet same knows l x =
    ap (λ s. is_some (get same_key s (l, x))) same ∙ knows.unanswered l x ∙ ap (list_any (is_unanswered l x)) (sym (calls_from-quiet 1 1 before e quiet))

-- the lane that is closed, and no other
shut_more : (before : List Event) (old new : OpenCalls) (lane : ℕ) → new.era ≡ old.era → UsedSo old new lane (uses.Closed old.era) → Knows old before
    → (l : ℕ) → is_known_closed new l ≡ was_closed l (before ++ close lane ∷ [])
shut_more before old new lane era updates knows l = go (nat_eq lane l) refl ∙ sym (closed_push l before (close lane)) where
  chosen : (b : Bool) → nat_eq lane l ≡ b → is_known_closed new l ≡ is_shut old.era (cond b (Some (uses.Closed old.era)) (get nat_eq old.lanes l))
  chosen b is = ap (λ n. is_shut n (get nat_eq new.lanes l)) era ∙ ap (is_shut old.era) (updates l ∙ ap (λ x. cond x (Some (uses.Closed old.era)) (get nat_eq old.lanes l)) is)

  unused : (a x : Bool) → a || (false || (x && false)) ≡ a
  unused a x = quiet_or a false x false refl refl

  go : (b : Bool) → nat_eq lane l ≡ b → is_known_closed new l ≡ was_closed l before || (nat_eq lane l || (list_any (is_on l) before && false))
  go true is = chosen true is ∙ sym (ap (λ b. was_closed l before || (b || (list_any (is_on l) before && false))) is ∙ or_true (was_closed l before))
  go false is = chosen false is ∙ knows.closed l ∙ sym (ap (λ b. was_closed l before || (b || (list_any (is_on l) before && false))) is ∙ unused (was_closed l before) (list_any (is_on l) before))

pub knows_close : (before : List Event) (old new : OpenCalls) (lane : ℕ) → new.era ≡ old.era → new.unanswered ≡ old.unanswered → new.calls ≡ old.calls → UsedSo old new lane (uses.Closed old.era)
    → Knows old before → MayFollow before (close lane) → Knows new (before ++ close lane ∷ [])
knows_close before old new lane era same count used knows may = record {
  unanswered = unanswered_quiet before old new (close lane) tt same knows;
  places = places_quiet before old new (close lane) tt same knows;
  within = within_quiet before old new same count knows;
  calls = count ∙ knows.calls ∙ ap length (sym (calls_from-quiet 1 1 before (close lane) tt));
  closed = shut_more before old new lane era used knows;
  used = used_more before old new lane (uses.Closed old.era) (close lane) used (λ l. refl) knows;
  cut_off = cut_off_used before old new lane (uses.Closed old.era) (close lane) era (not_itself old.era) used refl (is_open lane before may) knows;
  in_order = in_order_used before old new lane (uses.Closed old.era) era refl used knows;
  era = era_more before old new (close lane) era refl knows;
}

-- a crash closes each lane that was used
crash_shuts : (era : ℕ) (o : Option LaneUse) → ((u : LaneUse) → o ≡ Some u → last_era u ≤ era) → is_shut (era + 1) o ≡ is_shut era o || is_some o
crash_shuts era None in_order = refl
crash_shuts era (Some (uses.Closed last)) in_order = refl
crash_shuts era (Some (uses.InEra last)) in_order =
    let within : last ≤ era = in_order (uses.InEra last) refl in
    ap not (ne_eqb last (era + 1) (λ same. omega arith)) ∙ sym (or_true (not (last == era)))

-- it cuts each of them off
crash_ends : (era : ℕ) (o : Option LaneUse) → ((u : LaneUse) → o ≡ Some u → last_era u ≤ era) → is_over (era + 1) o ≡ is_over era o || is_some o
crash_ends era None in_order = refl
crash_ends era (Some (uses.Closed last)) in_order =
    let within : last ≤ era = in_order (uses.Closed last) refl in
    ap not (ne_eqb last (era + 1) (λ same. omega arith)) ∙ sym (or_true (not (last == era)))
crash_ends era (Some (uses.InEra last)) in_order =
    let within : last ≤ era = in_order (uses.InEra last) refl in
    ap not (ne_eqb last (era + 1) (λ same. omega arith)) ∙ sym (or_true (not (last == era)))

cut_off_more : (before : List Event) (old new : OpenCalls) → new.era ≡ old.era + 1 → new.lanes ≡ old.lanes → Knows old before
    → (l : ℕ) → is_over new.era (get nat_eq new.lanes l) ≡ was_cut_off l (before ++ crash ∷ [])
cut_off_more before old new era same knows l =
    ap (λ n. is_over n (get nat_eq new.lanes l)) era ∙ ap (λ m. is_over (old.era + 1) (get nat_eq m l)) same
    ∙ crash_ends old.era (get nat_eq old.lanes l) (knows.in_order l)
    ∙ ap (λ b. b || is_some (get nat_eq old.lanes l)) (knows.cut_off l)
    ∙ ap (λ b. was_cut_off l before || b) (knows.used l)
    ∙ ap (λ b. was_cut_off l before || b) (sym (and_true (list_any (is_on l) before)))
    ∙ sym (cut_off_push l before crash)

cut_more : (before : List Event) (old new : OpenCalls) → new.era ≡ old.era + 1 → new.lanes ≡ old.lanes → Knows old before
    → (l : ℕ) → is_known_closed new l ≡ was_closed l (before ++ crash ∷ [])
cut_more before old new era same knows l =
    ap (λ n. is_shut n (get nat_eq new.lanes l)) era ∙ ap (λ m. is_shut (old.era + 1) (get nat_eq m l)) same
    ∙ crash_shuts old.era (get nat_eq old.lanes l) (knows.in_order l)
    ∙ ap (λ b. b || is_some (get nat_eq old.lanes l)) (knows.closed l)
    ∙ ap (λ b. was_closed l before || b) (knows.used l)
    ∙ ap (λ b. was_closed l before || b) (sym (and_true (list_any (is_on l) before)))
    ∙ sym (closed_push l before crash)

pub knows_crash : (before : List Event) (old new : OpenCalls) → new.era ≡ old.era + 1 → new.unanswered ≡ old.unanswered → new.calls ≡ old.calls → new.lanes ≡ old.lanes → Knows old before → Knows new (before ++ crash ∷ [])
knows_crash before old new era same count lanes knows = record {
  unanswered = unanswered_quiet before old new crash tt same knows;
  places = places_quiet before old new crash tt same knows;
  within = within_quiet before old new same count knows;
  calls = count ∙ knows.calls ∙ ap length (sym (calls_from-quiet 1 1 before crash tt));
  closed = cut_more before old new era lanes knows;
  used = λ l. ap (λ m. is_some (get nat_eq m l)) lanes ∙ knows.used l ∙ sym (any_push (is_on l) before crash ∙ or_false (list_any (is_on l) before));
  cut_off = cut_off_more before old new era lanes knows;
  in_order = λ l u is. let so_far : last_era u ≤ old.era = knows.in_order l u (ap (λ m. get nat_eq m l) (sym lanes) ∙ is) in omega (arith, era);
  era = era ∙ ap (λ n. n + 1) knows.era ∙ sym (eras_crash 1 before);
}

-- the events below i may follow one another, and what they leave open is known
pub record IsCheckedTo (events : List SeenEvent) (i : ℕ) (known : OpenCalls) : Type 0 where
  pub others : EachMayFollow (all_seen (take i events)) (all_seen (drop i events)) → EachMayFollow [] (all_seen events)
  pub faults_are : (fault : EventFault) → FirstEventFault (all_seen (take i events)) (all_seen (drop i events)) fault → FirstEventFault [] (all_seen events) fault
  pub knows : Knows known (all_seen (take i events))

one_taken : (events : List SeenEvent) (i : ℕ) (d : SeenEvent) → i < length events → all_seen (take (i + 1) events) ≡ all_seen (take i events) ++ seen_event (get_or events i d) ∷ []
one_taken events i d lt = ap all_seen (take_more events i d lt) ∙ map_push seen_event (take i events) (get_or events i d)

one_dropped : (events : List SeenEvent) (i : ℕ) (d : SeenEvent) → i < length events → all_seen (drop i events) ≡ seen_event (get_or events i d) ∷ all_seen (drop (i + 1) events)
one_dropped events i d lt = ap all_seen (drop-cons events i d lt) ∙ ap (λ n. seen_event (get_or events i d) ∷ all_seen (drop n events)) (sym (add-one i))

pub checked_more : (events : List SeenEvent) (i : ℕ) (d : SeenEvent) (old new : OpenCalls) → i < length events
    → MayFollow (all_seen (take i events)) (seen_event (get_or events i d))
    → Knows new (all_seen (take i events) ++ seen_event (get_or events i d) ∷ [])
    → IsCheckedTo events i old → IsCheckedTo events (i + 1) new
checked_more events i d old new lt follows knows so_far =
    let taken = one_taken events i d lt in
    let dropped = one_dropped events i d lt in
    record {
      others = λ rest. so_far.others (rw dropped (follows, rw taken at rest));
      faults_are = λ fault rest. so_far.faults_are fault (rw dropped (inr (follows, rw taken at rest)));
      knows = rw taken knows;
    }

pub all_checked : (events : List SeenEvent) (i : ℕ) (known : OpenCalls) → length events ≤ i → IsCheckedTo events i known → AreKnownToFollow (all_seen events) known
all_checked events i known le so_far =
    (so_far.others (rw (drop_all i events le) tt), subst (λ es. Knows known (all_seen es)) (take_all i events le) so_far.knows)

-- the event behind those that were checked is at fault
pub first_here : (events : List SeenEvent) (i : ℕ) (d : SeenEvent) (known : OpenCalls) (fault : EventFault) → i < length events
    → IsAtFault (i + 1) (all_seen (take i events)) (seen_event (get_or events i d)) fault
    → IsCheckedTo events i known → FirstEventFault [] (all_seen events) fault
first_here events i d known fault lt h so_far =
    let number : length (all_seen (take i events)) ≡ i = length-map (take i events) seen_event ∙ length-take-le i events (omega arith) in
    so_far.faults_are fault (rw (one_dropped events i d lt) (inl (rw number h)))

-- there are no more eras than events, but for the first
pub era_within : (events : List SeenEvent) (i : ℕ) (known : OpenCalls) → i < length events → IsCheckedTo events i known → known.era ≤ 1 + i
era_within events i known lt so_far =
    let size : length (all_seen (take i events)) ≡ i = length-map (take i events) seen_event ∙ length-take-le i events (omega arith) in
    omega (arith, size, so_far.knows.era, eras_few 1 (all_seen (take i events)))
