-- Calls and replies are matched from the last event to the first.
use Rattle.std.proofs.Common.{◌≡◌, ◌==◌, ◌&&◌, ◌||◌, not, ℕ, suc, ◌+◌, ◌-◌, ◌<◌, ◌≤◌, Bool, true, false, cond, List, [], ◌∷◌, ◌++◌, length, take, drop, get_or, map, reverse, Option, Some, None, option_map, refl, sym, ap, subst, ◌∙◌, arith, drop-cons, add-one, append_assoc, HashMap, BuildHasherDefault}
use Rattle.std.specs.HashMap.{get, IsEmpty}
use Rattle.std.specs.Map.{lookup}
use Rattle.std.specs.List.{list_any}
use Rattle.std.proofs.lemmas.Bool.{false≢true, eqb-true, eq-eqb}
use Rattle.std.proofs.lemmas.List.{reverse-append, append-nil, take-append-drop, map-append, take_more, map_push, drop_all}
use Rattle.history_file.specs.declared.event.SeenEvent.{SeenEvent}
use Rattle.history_file.specs.declared.event.SeenEvent.TheVariants as sees
use Rattle.history_file.specs.Owning.{seen_event, all_seen}
use Rattle.std.specs.declared.hash.FoldHasher.{FoldHasher}
use Rattle.nfs_history.specs.declared.matching.SeenReply.{SeenReply}
use Rattle.nfs_history.specs.declared.matching.SeenCall.{SeenCall}
use Rattle.history_file.specs.Event.{Event}
use Rattle.history_file.specs.Event.Event.{call, reply, close, crash}
use Rattle.nfs_history.specs.Calls.{ReplyEvent, CallEvent, first_reply, calls_from, eras_from, xid_of}
use Rattle.nfs_history.specs.Checking.{is_crash}
use Rattle.nfs_history.specs.Matching.{seen_reply, seen_call, same_key}
use Rattle.nfs_history.specs.Standing.{is_unanswered, has_unanswered, MayFollow, EachMayFollow}
use Rattle.nfs_history.specs.Appending.{IsQuiet}
use Rattle.nfs_history.proofs.Unanswered.{any-call, any-reply, calls_from-quiet}
use Rattle.nfs_history.proofs.Lanes.{eras_quiet, eras_crash}

-- the replies that were met
abbrev pub Table : Type 0
Table = HashMap (ℕ × ℕ) SeenReply (BuildHasherDefault FoldHasher)

-- behind some events the calls are matched, and of each call before them that is unanswered the first reply is known
pub record IsMatched (before : List Event) (behind era : ℕ) (events : List Event) (table : Table) (calls : List SeenCall) : Type 0 where
  pub calls_are : map seen_call (reverse calls) ≡ calls_from (behind + 1) era events
  pub table_is : (lane xid : ℕ) → has_unanswered lane xid before ≡ true → option_map seen_reply (get same_key table (lane, xid)) ≡ first_reply lane xid (behind + 1) events

chosen : (b : Bool) (r : SeenReply) (o : Option SeenReply) → option_map seen_reply (cond b (Some r) o) ≡ cond b (Some (seen_reply r)) (option_map seen_reply o)
chosen true r o = refl
chosen false r o = refl

-- of two choices the second counts where the test fails
if_not : {A : Type 0} → (b : Bool) (x y z : A) → (b ≡ false → y ≡ z) → cond b x y ≡ cond b x z
if_not true x y z same = refl
if_not false x y z same = same refl

map_reverse_push : (calls : List SeenCall) (c : SeenCall) → map seen_call (reverse (calls ++ c ∷ [])) ≡ seen_call c ∷ map seen_call (reverse calls)
map_reverse_push calls c = ap (map seen_call) (reverse-append calls (c ∷ []))

pub none_met : (before : List Event) (n era : ℕ) (table : Table) (calls : List SeenCall) → IsEmpty table → calls ≡ [] → IsMatched before n era [] table calls
none_met before n era table calls empty none = record {
  calls_are = ap (λ cs. map seen_call (reverse cs)) none;
  table_is = λ lane xid some. ap (λ es. option_map seen_reply (lookup (same_key (lane, xid)) es)) empty;
}

-- another key than that of a call which has none unanswered before it
other_key : (lane xid l x : ℕ) (before : List Event) → has_unanswered lane xid before ≡ false → has_unanswered l x before ≡ true → same_key (lane, xid) (l, x) ≡ false
other_key lane xid l x before none some = go (lane == l) (xid == x) refl refl where
  go : (a b : Bool) → (lane == l) ≡ a → (xid == x) ≡ b → (a && b) ≡ false
  go false b p q = refl
  go true false p q = refl
  go true true p q =
      let moved : has_unanswered l x before ≡ false = subst (λ n. has_unanswered l n before ≡ false) (eqb-true xid x q) (subst (λ n. has_unanswered n xid before ≡ false) (eqb-true lane l p) none) in
      absurd (false≢true (sym moved ∙ some))

still_or : (a b : Bool) → a ≡ true → (a || b) ≡ true
still_or true b is = refl
still_or false b is = absurd (false≢true is)

or_last : (a b : Bool) → b ≡ true → (a || b) ≡ true
or_last true b is = refl
or_last false b is = is

itself : (n : ℕ) → (n == n) ≡ true
itself n = eq-eqb n n refl

pub met_call : (k era : ℕ) (before events : List Event) (old new : Table) (calls : List SeenCall) (c : SeenCall) → c.begin ≡ k + 1 → c.era ≡ era → c.answer ≡ get same_key old (c.lane, xid_of c.message.now)
    → ((q : ℕ × ℕ) → get same_key new q ≡ cond (same_key (c.lane, xid_of c.message.now) q) None (get same_key old q)) → has_unanswered c.lane (xid_of c.message.now) before ≡ false
    → IsMatched (before ++ call c.lane c.message.now ∷ []) (k + 1) era events old calls → IsMatched before k era (call c.lane c.message.now ∷ events) new (calls ++ c ∷ [])
met_call k era before events old new calls c begin era_is answer updates none matched =
    let xid = xid_of c.message.now in
    let unanswered : has_unanswered c.lane xid (before ++ call c.lane c.message.now ∷ []) ≡ true =
    any-call c.lane xid 1 1 before c.lane c.message.now ∙ or_last (has_unanswered c.lane xid before) ((c.lane == c.lane) && (xid == xid)) (rw (itself c.lane, itself xid) refl) in
    let known : option_map seen_reply c.answer ≡ first_reply c.lane xid ((k + 1) + 1) events = ap (option_map seen_reply) answer ∙ matched.table_is c.lane xid unanswered in
    let made : ℕ → ℕ → Option ReplyEvent → CallEvent = λ b n a. record { lane = c.lane; message = c.message.now; begin = b; era = n; answer = a } in
    record {
      calls_are = map_reverse_push calls c
          ∙ ap (λ b. made b c.era (option_map seen_reply c.answer) ∷ map seen_call (reverse calls)) begin
          ∙ ap (λ n. made (k + 1) n (option_map seen_reply c.answer) ∷ map seen_call (reverse calls)) era_is
          ∙ ap (λ a. made (k + 1) era a ∷ map seen_call (reverse calls)) known
          ∙ ap (λ cs. made (k + 1) era (first_reply c.lane xid ((k + 1) + 1) events) ∷ cs) matched.calls_are;
      table_is = λ l x some.
          let other = other_key c.lane xid l x before none some in
          let kept : get same_key new (l, x) ≡ get same_key old (l, x) = updates (l, x) ∙ ap (λ b. cond b None (get same_key old (l, x))) other in
          ap (option_map seen_reply) kept
          ∙ matched.table_is l x (any-call l x 1 1 before c.lane c.message.now ∙ still_or (has_unanswered l x before) ((c.lane == l) && (xid == x)) some);
    }

pub met_reply : (k era : ℕ) (before events : List Event) (old new : Table) (calls : List SeenCall) (lane xid : ℕ) (r : SeenReply) → ((q : ℕ × ℕ) → get same_key new q ≡ cond (same_key (lane, xid) q) (Some r) (get same_key old q)) → xid ≡ xid_of r.message.now → r.number ≡ k + 1
    → IsMatched (before ++ reply lane r.message.now ∷ []) (k + 1) era events old calls → IsMatched before k era (reply lane r.message.now ∷ events) new calls
met_reply k era before events old new calls lane xid r updates transaction number matched = record {
  calls_are = matched.calls_are;
  table_is = λ l x some.
      let same = same_key (lane, xid_of r.message.now) (l, x) in
      let unanswered : same ≡ false → has_unanswered l x (before ++ reply lane r.message.now ∷ []) ≡ true = λ other. any-reply l x 1 1 before lane r.message.now ∙ ap (λ a. a && not same) some ∙ ap (λ b. true && not b) other in
      ap (option_map seen_reply) (updates (l, x) ∙ ap (λ n. cond (same_key (lane, n) (l, x)) (Some r) (get same_key old (l, x))) transaction)
      ∙ chosen same r (get same_key old (l, x))
      ∙ ap (λ n. cond same (Some (record { number = n; message = r.message.now })) (option_map seen_reply (get same_key old (l, x)))) number
      ∙ if_not same (Some (record { number = k + 1; message = r.message.now })) _ _ (λ other. matched.table_is l x (unanswered other));
}

-- a close and a crash leave calls unanswered
still_unanswered : (lane xid : ℕ) (before : List Event) (e : Event) → IsQuiet e → has_unanswered lane xid before ≡ true → has_unanswered lane xid (before ++ e ∷ []) ≡ true
still_unanswered lane xid before e quiet some = ap (list_any (is_unanswered lane xid)) (calls_from-quiet 1 1 before e quiet) ∙ some

pub met_close : (k era lane : ℕ) (before events : List Event) (table : Table) (calls : List SeenCall) → IsMatched (before ++ close lane ∷ []) (k + 1) era events table calls → IsMatched before k era (close lane ∷ events) table calls
met_close k era lane before events table calls matched = record { calls_are = matched.calls_are; table_is = λ l x some. matched.table_is l x (still_unanswered l x before (close lane) tt some) }

-- the event at a place may follow those before it
follows_behind : (before xs : List Event) (e : Event) (ys : List Event) → EachMayFollow before (xs ++ e ∷ ys) → MayFollow (before ++ xs) e
follows_behind before [] e ys may = subst (λ es. MayFollow es e) (sym (append-nil before)) may.0
follows_behind before (x ∷ xs) e ys may = subst (λ es. MayFollow es e) (append_assoc before (x ∷ []) xs) (follows_behind (before ++ x ∷ []) xs e ys may.1)

pub may_follow_at : (events : List SeenEvent) (k : ℕ) (e : Event) (rest : List Event) → all_seen (drop k events) ≡ e ∷ rest → EachMayFollow [] (all_seen events) → MayFollow (all_seen (take k events)) e
may_follow_at events k e rest is may =
    let parts : all_seen events ≡ all_seen (take k events) ++ e ∷ rest = ap all_seen (sym (take-append-drop k events)) ∙ map-append seen_event (take k events) (drop k events) ∙ ap (λ es. all_seen (take k events) ++ es) is in
    follows_behind [] (all_seen (take k events)) e rest (subst (EachMayFollow []) parts may)

-- the event before the place i, and what stands behind it
pub one_before : (events : List SeenEvent) (i : ℕ) (d e : SeenEvent) → 0 < i → i ≤ length events → get_or events (i - 1) d ≡ e → all_seen (drop (i - 1) events) ≡ seen_event e ∷ all_seen (drop ((i - 1) + 1) events)
one_before events i d e some within is =
    let k : ℕ = i - 1 in
    let lt : k < length events = omega arith in
    ap all_seen (drop-cons events k d lt) ∙ ap (λ x. seen_event x ∷ all_seen (drop (suc k) events)) is ∙ ap (λ n. seen_event e ∷ all_seen (drop n events)) (sym (add-one k))

-- ahead of a crash lies the era before
pub met_crash : (k era : ℕ) (before events : List Event) (table : Table) (calls : List SeenCall) → 0 < era → IsMatched (before ++ crash ∷ []) (k + 1) era events table calls → IsMatched before k (era - 1) (crash ∷ events) table calls
met_crash k era before events table calls some matched =
    let same : era ≡ (era - 1) + 1 = omega arith in
    record {
      calls_are = matched.calls_are ∙ ap (λ n. calls_from ((k + 1) + 1) n events) same;
      table_is = λ l x unanswered. matched.table_is l x (still_unanswered l x before crash tt unanswered);
    }

-- the events behind the place i are matched, and those before it end in the era
pub record IsMatchedTo (events : List SeenEvent) (i era : ℕ) (table : Table) (calls : List SeenCall) : Type 0 where
  pub matched : IsMatched (all_seen (take i events)) i era (all_seen (drop i events)) table calls
  pub era_is : era ≡ eras_from 1 (all_seen (take i events))

-- the events before the place i end in the one before it
front_is : (events : List SeenEvent) (i : ℕ) (d e : SeenEvent) → 0 < i → i ≤ length events → get_or events (i - 1) d ≡ e → all_seen (take i events) ≡ all_seen (take (i - 1) events) ++ seen_event e ∷ []
front_is events i d e some within is =
    let k : ℕ = i - 1 in
    let next : i ≡ k + 1 = omega arith in
    let lt : k < length events = omega arith in
    ap (λ n. all_seen (take n events)) next ∙ ap all_seen (take_more events k d lt) ∙ map_push seen_event (take k events) (get_or events k d)
    ∙ ap (λ x. all_seen (take k events) ++ seen_event x ∷ []) is

-- the place before i, with what is known behind i
pub behind_it : (events : List SeenEvent) (i era : ℕ) (d e : SeenEvent) (table : Table) (calls : List SeenCall) → 0 < i → i ≤ length events → get_or events (i - 1) d ≡ e → IsMatched (all_seen (take i events)) i era (all_seen (drop i events)) table calls
    → IsMatched (all_seen (take (i - 1) events) ++ seen_event e ∷ []) ((i - 1) + 1) era (all_seen (drop ((i - 1) + 1) events)) table calls
behind_it events i era d e table calls some within is matched =
    let same : i ≡ (i - 1) + 1 = omega arith in
    let front = front_is events i d e some within is in
    subst (λ n. IsMatched (all_seen (take (i - 1) events) ++ seen_event e ∷ []) n era (all_seen (drop n events)) table calls) same
    (subst (λ es. IsMatched es i era (all_seen (drop i events)) table calls) front matched)

pub era_before : (events : List SeenEvent) (i : ℕ) (d e : SeenEvent) (era : ℕ) → 0 < i → i ≤ length events → get_or events (i - 1) d ≡ e → is_crash (seen_event e) ≡ false → era ≡ eras_from 1 (all_seen (take i events)) → era ≡ eras_from 1 (all_seen (take (i - 1) events))
era_before events i d e era some within is quiet era_is =
    era_is ∙ ap (eras_from 1) (front_is events i d e some within is) ∙ eras_quiet 1 (all_seen (take (i - 1) events)) (seen_event e) quiet

pub era_at_crash : (events : List SeenEvent) (i : ℕ) (d : SeenEvent) (era : ℕ) → 0 < i → i ≤ length events → get_or events (i - 1) d ≡ sees.Crash → era ≡ eras_from 1 (all_seen (take i events)) → era ≡ eras_from 1 (all_seen (take (i - 1) events)) + 1
era_at_crash events i d era some within is era_is =
    era_is ∙ ap (eras_from 1) (front_is events i d sees.Crash some within is) ∙ eras_crash 1 (all_seen (take (i - 1) events))

-- ---- eras are counted

-- the crashes among the events below i are counted
pub record AreCountedTo (events : List SeenEvent) (i eras : ℕ) : Type 0 where
  pub others : eras_from eras (all_seen (drop i events)) ≡ eras_from 1 (all_seen events)
  pub few : eras ≤ i + 1

dropped : (events : List SeenEvent) (i : ℕ) (d : SeenEvent) → i < length events → all_seen (drop i events) ≡ seen_event (get_or events i d) ∷ all_seen (drop (i + 1) events)
dropped events i d lt = ap all_seen (drop-cons events i d lt) ∙ ap (λ n. seen_event (get_or events i d) ∷ all_seen (drop n events)) (sym (add-one i))

one_more : (eras : ℕ) (e : Event) (events : List Event) → is_crash e ≡ true → eras_from eras (e ∷ events) ≡ eras_from (eras + 1) events
one_more eras (call l m) events crashed = absurd (false≢true crashed)
one_more eras (reply l m) events crashed = absurd (false≢true crashed)
one_more eras (close l) events crashed = absurd (false≢true crashed)
one_more eras crash events crashed = refl

pub crash_counted : (events : List SeenEvent) (i eras : ℕ) (d : SeenEvent) → i < length events → is_crash (seen_event (get_or events i d)) ≡ true → AreCountedTo events i eras → AreCountedTo events (i + 1) (eras + 1)
crash_counted events i eras d lt crashed so_far = record {
  others = sym (one_more eras (seen_event (get_or events i d)) (all_seen (drop (i + 1) events)) crashed) ∙ ap (eras_from eras) (sym (dropped events i d lt)) ∙ so_far.others;
  few = omega (arith, so_far.few);
}

passed_over : (eras : ℕ) (e : Event) (events : List Event) → is_crash e ≡ false → eras_from eras (e ∷ events) ≡ eras_from eras events
passed_over eras (call l m) events quiet = refl
passed_over eras (reply l m) events quiet = refl
passed_over eras (close l) events quiet = refl
passed_over eras crash events quiet = absurd (false≢true (sym quiet))

pub other_counted : (events : List SeenEvent) (i eras : ℕ) (d : SeenEvent) → i < length events → is_crash (seen_event (get_or events i d)) ≡ false → AreCountedTo events i eras → AreCountedTo events (i + 1) eras
other_counted events i eras d lt quiet so_far = record {
  others = sym (passed_over eras (seen_event (get_or events i d)) (all_seen (drop (i + 1) events)) quiet) ∙ ap (eras_from eras) (sym (dropped events i d lt)) ∙ so_far.others;
  few = omega (arith, so_far.few);
}

pub all_counted : (events : List SeenEvent) (i eras : ℕ) → length events ≤ i → AreCountedTo events i eras → eras ≡ eras_from 1 (all_seen events)
all_counted events i eras le so_far = ap (λ es. eras_from eras (all_seen es)) (sym (drop_all i events le)) ∙ so_far.others
