-- no crash takes a stable place of a book's plan away
use Rattle.std.proofs.Common.{◌≡◌, ℕ, zero, suc, ◌+◌, ◌<◌, ◌≤◌, Bool, true, false, List, [], ◌∷◌, ◌++◌, length, take, map, Option, Some, None, refl, sym, ap, ◌∙◌, subst, arith}
use Rattle.std.specs.Prelude.{IsSome, ◌&&◌, not, is_some, option_and_then, if◌then◌else◌, slice_index_or}
use Rattle.std.specs.Option.{option_map_or}
use Rattle.std.specs.List.{AllByRecursion, filter_map, cons_option}
use Rattle.std.proofs.lemmas.List.{append_assoc}
use Rattle.nfs3_types.specs.declared.calls.NfsCall.{NfsCall}
use Rattle.nfs3_types.specs.declared.calls.NfsCall.TheVariants as calls
use Rattle.nfs3_types.specs.declared.calls.StableHow.{StableHow}
use Rattle.nfs3_types.specs.declared.calls.StableHow.TheVariants as levels
use Rattle.nfs3_types.specs.declared.replies.Answer.TheVariants.{Done}
use Rattle.nfs3_types.specs.declared.replies.NfsReply.TheVariants as replies
use Rattle.nfs3_types.specs.declared.replies.Outcome.{Outcome}
use Rattle.nfs3_types.specs.declared.replies.Outcome.TheVariants as outcomes
use Rattle.nfs3_types.specs.declared.replies.WriteSuccess.{WriteSuccess}
use Rattle.nfs3_types.specs.declared.replies.CommitSuccess.{CommitSuccess}
use Rattle.nfs_history.specs.declared.recorded.Meaning.TheVariants as meanings
use Rattle.nfs_history.specs.declared.recorded.RecordedCall.{RecordedCall}
use Rattle.nfs_history.specs.Precedence.{end_of}
use Rattle.certificate.specs.declared.plan.Place.{Place}
use Rattle.certificate.specs.declared.plan.EraPlan.{EraPlan}
use Rattle.certificate.specs.Plan.{cut_of}
use Rattle.tree_handles.specs.Binding.{Bindings}
use Rattle.cut_check.specs.declared.effect.Effect.{Effect}
use Rattle.cut_check.specs.declared.effect.Effect.TheVariants.{Nothing, Lasting, Unstable, Committed}
use Rattle.nfs_history.specs.Success.{write_success, commit_success, succeeded}
use Rattle.cut_check.specs.Effect.{is_synchronous, of_object, at_level, effect_of_write, where_done, effect_of}
use Rattle.cut_check.specs.Places.{era_at, answered_with, object_written, effect_at, effects_of}
use Rattle.cut_check.specs.Stable.{IsStable, AreCommitted, Reaches}
use Rattle.cut_check.specs.Cut.{KeepsStable, CutsKeepStable}
use Rattle.tree_laws.specs.Leaving.{only_looks}
use Rattle.book_laws.specs.Placing.{Placed, is_recorded, records_in, front_with}
use Rattle.book_laws.specs.Book.{Book}
use Rattle.book_laws.specs.Plan.{place_of, places_of, plan_over, plan_of}
use Rattle.book_laws.specs.Steps.{is_commit, commits}
use Rattle.book_laws.proofs.Invariant.{Over, IsKnown, AreKnown, AllKnown, IsCutSafely, IsInvariant}
use Rattle.book_laws.proofs.Lists.{all_behind, given_parts}
use Rattle.book_laws.proofs.Shaped.{plans, Stands, stands}
use Rattle.book_laws.proofs.Shaped.Stands.{answered, taken}
use Rattle.book_laws.proofs.Running.{head_is, tail_is}

-- ---- lists

record MapParts {X Y : Type 0} (f : X → Y) (xs : List X) (ahead : List Y) (y : Y) (behind : List Y) : Type 0 where
  first : List X
  here : X
  rest : List X
  parts : xs ≡ first ++ here ∷ rest
  ahead_is : map f first ≡ ahead
  here_is : f here ≡ y
  behind_is : map f rest ≡ behind

map_parts : {X Y : Type 0} (f : X → Y) (xs : List X) (ahead : List Y) (y : Y) (behind : List Y) → map f xs ≡ ahead ++ y ∷ behind → MapParts f xs ahead y behind
map_parts f [] [] y behind e = absurd (cc)
map_parts f [] (a ∷ ahead) y behind e = absurd (cc)
map_parts f (x ∷ xs) [] y behind e = record { first = []; here = x; rest = xs; parts = refl; ahead_is = refl; here_is = head_is e; behind_is = tail_is e }
map_parts f (x ∷ xs) (a ∷ ahead) y behind e =
    let p = map_parts f xs ahead y behind (tail_is e) in
    record {
      first = x ∷ p.first;
      here = p.here;
      rest = p.rest;
      parts = ap (λ zs. x ∷ zs) p.parts;
      ahead_is = ap (λ z. z ∷ map f p.first) (head_is e) ∙ ap (λ zs. a ∷ zs) p.ahead_is;
      here_is = p.here_is;
      behind_is = p.behind_is;
    }

pub contains_parts : {X : Type 0} (xs : List X) (x : X) (k : ℕ) → k < length xs → slice_index_or xs k x ≡ x → (a : List X) × (b : List X) × (xs ≡ a ++ x ∷ b)
contains_parts [] x k lt e = absurd (none k lt) where
  none : (k : ℕ) → k < 0 → ⊥
  none k lt = omega (arith, lt)
contains_parts (y ∷ ys) x zero lt e = ([], ys, ap (λ z. z ∷ ys) e)
contains_parts (y ∷ ys) x (suc k) lt e = let p = contains_parts ys x k (omega (arith, lt)) e in (y ∷ p.0, p.1, ap (λ zs. y ∷ zs) p.2)

map_length : {X Y : Type 0} (f : X → Y) (xs : List X) → length (map f xs) ≡ length xs
map_length f [] = refl
map_length f (x ∷ xs) = ap suc (map_length f xs)

-- a front that reaches past an item gives what it gives
front_gives : {X Y : Type 0} (h : X → Option Y) (n : ℕ) (first : List X) (x : X) (rest : List X) (y : Y) → length first + 1 ≤ n → h x ≡ Some y
    → length (filter_map h first) + 1 ≤ length (filter_map h (take n (first ++ x ∷ rest)))
front_gives h zero first x rest y le gives = absurd (none (length first) le) where
  none : (k : ℕ) → k + 1 ≤ 0 → ⊥
  none k le = omega (arith, le)
front_gives h (suc n) [] x rest y le gives = subst (λ o. 1 ≤ length (cons_option o (filter_map h (take n rest)))) (sym gives) (omega arith)
front_gives h (suc n) (f ∷ first) x rest y le gives = go (h f) (front_gives h n first x rest y (omega (arith, le)) gives) where
  go : (o : Option _) → length (filter_map h first) + 1 ≤ length (filter_map h (take n (first ++ x ∷ rest)))
      → length (cons_option o (filter_map h first)) + 1 ≤ length (cons_option o (filter_map h (take n (first ++ x ∷ rest))))
  go None le = le
  go (Some z) le = omega (arith, le)

-- ---- records

abbrev counted : Bool → ℕ → ℕ
counted b n = if b then suc n else n

pub records_append : (xs ys : List Placed) → records_in (xs ++ ys) ≡ records_in xs + records_in ys
records_append [] ys = omega arith
records_append (x ∷ xs) ys = go (is_recorded x) (records_append xs ys) where
  go : (b : Bool) → records_in (xs ++ ys) ≡ records_in xs + records_in ys → counted b (records_in (xs ++ ys)) ≡ counted b (records_in xs) + records_in ys
  go true e = omega (arith, e)
  go false e = e

-- the shortest front with as many records has each one that is among them
pub front_reaches : (count : ℕ) (first : List Placed) (step : Placed) (rest : List Placed) → is_recorded step ≡ true → records_in (first ++ step ∷ []) ≤ count
    → length first + 1 ≤ front_with count (first ++ step ∷ rest)
front_reaches zero [] step rest is le = absurd (none (ap (λ b. counted b 0) is) le) where
  none : {n : ℕ} → n ≡ 1 → n ≤ 0 → ⊥
  none e le = omega (arith, e, le)
front_reaches (suc count) [] step rest is le = omega arith
front_reaches zero (f ∷ first) step rest is le = go (is_recorded f) le (front_reaches zero first step rest is) where
  go : (b : Bool) → counted b (records_in (first ++ step ∷ [])) ≤ 0 → (records_in (first ++ step ∷ []) ≤ 0 → length first + 1 ≤ 0) → suc (length first) + 1 ≤ 0
  go true le rest = omega (arith, le)
  go false le rest = omega (arith, rest le)
front_reaches (suc count) (f ∷ first) step rest is le = go (is_recorded f) le (front_reaches count first step rest is) (front_reaches (suc count) first step rest is) where
  go : (b : Bool) → counted b (records_in (first ++ step ∷ [])) ≤ suc count → (records_in (first ++ step ∷ []) ≤ count → length first + 1 ≤ front_with count (first ++ step ∷ rest))
      → (records_in (first ++ step ∷ []) ≤ suc count → length first + 1 ≤ front_with (suc count) (first ++ step ∷ rest))
      → suc (length first) + 1 ≤ suc (front_with (if b then count else suc count) (first ++ step ∷ rest))
  go true le fewer same = omega (arith, fewer (omega (arith, le)))
  go false le fewer same = omega (arith, same le)

-- ---- what a call promises

lasting_write : (o : Option ℕ) (offset : ℕ) (s : Option WriteSuccess) → where_done (effect_of_write o offset) s ≡ Lasting → where_done (effect_of_write None offset) s ≡ Lasting
lasting_write o offset None e = absurd (cc)
lasting_write o offset (Some success) e = go success.level o e where
  go : (level : StableHow) (o : Option ℕ) → at_level level (of_object (λ named. Unstable named offset success.count) o) ≡ Lasting
      → at_level level (of_object (λ named. Unstable named offset success.count) None) ≡ Lasting
  go levels.Unstable None e = absurd (cc)
  go levels.Unstable (Some n) e = absurd (cc)
  go levels.DataSync o e = refl
  go levels.FileSync o e = refl

commit_lasts : (o : Option ℕ) (offset count : ℕ) (s : Option CommitSuccess) → where_done (λ success. of_object (λ named. Committed named offset count) o) s ≡ Lasting → ⊥
commit_lasts o offset count None e = cc
commit_lasts None offset count (Some success) e = cc
commit_lasts (Some n) offset count (Some success) e = cc

-- a promise is one whatever the handle names
lasts : (o : Option ℕ) (call : NfsCall) (outcome : Outcome) → effect_of o call outcome ≡ Lasting → effect_of None call outcome ≡ Lasting
lasts o (calls.Write a) outcome e = lasting_write o a.offset (write_success outcome) e
lasts o (calls.Commit a) outcome e = absurd (commit_lasts o a.offset a.count (commit_success outcome) e)
lasts o (calls.GetAttr a) outcome e = e
lasts o (calls.SetAttr a) outcome e = e
lasts o (calls.Lookup a) outcome e = e
lasts o (calls.ReadLink a) outcome e = e
lasts o (calls.Read a) outcome e = e
lasts o (calls.Create a) outcome e = e
lasts o (calls.MkDir a) outcome e = e
lasts o (calls.SymLink a) outcome e = e
lasts o (calls.Remove a) outcome e = e
lasts o (calls.RmDir a) outcome e = e
lasts o (calls.Rename a) outcome e = e
lasts o (calls.ReadDir a) outcome e = e
lasts o (calls.ReadDirPlus a) outcome e = e

-- a WRITE that succeeded is recorded
wrote : (outcome : Outcome) (success : WriteSuccess) → write_success outcome ≡ Some success → (call : _) → succeeded (calls.Write call) outcome ≡ true
wrote (outcomes.Received (replies.Write (Done s))) success e call = refl
wrote outcome success e call = absurd (cc)

if_lasting : (b : Bool) → (if b then Lasting else Nothing) ≡ Lasting → b ≡ true
if_lasting true e = refl
if_lasting false e = absurd (cc)

where_some : {S : Type 0} (effect : S → Effect) (o : Option S) → (where_done effect o ≡ Nothing → ⊥) → (s : S) × (o ≡ Some s)
where_some effect None isnt = absurd (isnt refl)
where_some effect (Some s) isnt = (s, refl)

both_true : (a b : Bool) → a ≡ true → b ≡ true → (a && b) ≡ true
both_true true b e f = f
both_true false b e f = absurd (cc)

second_true : (a b : Bool) → (a && b) ≡ true → b ≡ true
second_true true b e = e
second_true false b e = absurd (cc)

lasting_isnt_nothing : (x : Effect) → x ≡ Lasting → x ≡ Nothing → ⊥
lasting_isnt_nothing Lasting e f = cc
lasting_isnt_nothing Nothing e f = cc
lasting_isnt_nothing (Unstable object offset count) e f = cc
lasting_isnt_nothing (Committed object offset count) e f = cc

-- what a call promises it has a record of
promised : (o : Option ℕ) (step : Placed) → effect_of o step.call step.outcome ≡ Lasting → is_recorded step ≡ true
promised o step e = go step.call e where
  synchronous : (call : NfsCall) → only_looks call ≡ false → (if is_synchronous call && succeeded call step.outcome then Lasting else Nothing) ≡ Lasting → (not (only_looks call) && succeeded call step.outcome) ≡ true
  synchronous call changes e = ap (λ b. not b && succeeded call step.outcome) changes ∙ second_true (is_synchronous call) (succeeded call step.outcome) (if_lasting (is_synchronous call && succeeded call step.outcome) e)

  never : (if false then Lasting else Nothing) ≡ Lasting → ⊥
  never e = cc

  go : (call : NfsCall) → effect_of o call step.outcome ≡ Lasting → (not (only_looks call) && succeeded call step.outcome) ≡ true
  go (calls.Write a) e =
      let s = where_some (effect_of_write o a.offset) (write_success step.outcome) (lasting_isnt_nothing (where_done (effect_of_write o a.offset) (write_success step.outcome)) e) in
      wrote step.outcome s.0 s.1 a
  go (calls.Commit a) e = absurd (commit_lasts o a.offset a.count (commit_success step.outcome) e)
  go (calls.SetAttr a) e = synchronous (calls.SetAttr a) refl e
  go (calls.Create a) e = synchronous (calls.Create a) refl e
  go (calls.MkDir a) e = synchronous (calls.MkDir a) refl e
  go (calls.SymLink a) e = synchronous (calls.SymLink a) refl e
  go (calls.Remove a) e = synchronous (calls.Remove a) refl e
  go (calls.RmDir a) e = synchronous (calls.RmDir a) refl e
  go (calls.Rename a) e = synchronous (calls.Rename a) refl e
  go (calls.GetAttr a) e = absurd (never e)
  go (calls.Lookup a) e = absurd (never e)
  go (calls.ReadLink a) e = absurd (never e)
  go (calls.Read a) e = absurd (never e)
  go (calls.ReadDir a) e = absurd (never e)
  go (calls.ReadDirPlus a) e = absurd (never e)

-- of what is written and may be lost it has one too
unstable_recorded : (o : Option ℕ) (step : Placed) (object offset count : ℕ) → effect_of o step.call step.outcome ≡ Unstable object offset count → is_recorded step ≡ true
unstable_recorded o step object offset count e = go step.call e where
  isnt_nothing : (x : Effect) → x ≡ Unstable object offset count → x ≡ Nothing → ⊥
  isnt_nothing Lasting e f = cc
  isnt_nothing Nothing e f = cc
  isnt_nothing (Unstable a b c) e f = cc
  isnt_nothing (Committed a b c) e f = cc

  never : (b : Bool) → (if b then Lasting else Nothing) ≡ Unstable object offset count → ⊥
  never true e = cc
  never false e = cc

  no_commit : (o : Option ℕ) (from size : ℕ) (s : Option CommitSuccess) → where_done (λ success. of_object (λ named. Committed named from size) o) s ≡ Unstable object offset count → ⊥
  no_commit o from size None e = cc
  no_commit None from size (Some success) e = cc
  no_commit (Some n) from size (Some success) e = cc

  go : (call : NfsCall) → effect_of o call step.outcome ≡ Unstable object offset count → (not (only_looks call) && succeeded call step.outcome) ≡ true
  go (calls.Write a) e =
      let s = where_some (effect_of_write o a.offset) (write_success step.outcome) (isnt_nothing (where_done (effect_of_write o a.offset) (write_success step.outcome)) e) in
      wrote step.outcome s.0 s.1 a
  go (calls.Commit a) e = absurd (no_commit o a.offset a.count (commit_success step.outcome) e)
  go (calls.SetAttr a) e = absurd (never (succeeded (calls.SetAttr a) step.outcome) e)
  go (calls.Create a) e = absurd (never (succeeded (calls.Create a) step.outcome) e)
  go (calls.MkDir a) e = absurd (never (succeeded (calls.MkDir a) step.outcome) e)
  go (calls.SymLink a) e = absurd (never (succeeded (calls.SymLink a) step.outcome) e)
  go (calls.Remove a) e = absurd (never (succeeded (calls.Remove a) step.outcome) e)
  go (calls.RmDir a) e = absurd (never (succeeded (calls.RmDir a) step.outcome) e)
  go (calls.Rename a) e = absurd (never (succeeded (calls.Rename a) step.outcome) e)
  go (calls.GetAttr a) e = absurd (never false e)
  go (calls.Lookup a) e = absurd (never false e)
  go (calls.ReadLink a) e = absurd (never false e)
  go (calls.Read a) e = absurd (never false e)
  go (calls.ReadDir a) e = absurd (never false e)
  go (calls.ReadDirPlus a) e = absurd (never false e)

-- what commits is a COMMIT that succeeded
committed_commits : (o : Option ℕ) (step : Placed) (object offset count : ℕ) → effect_of o step.call step.outcome ≡ Committed object offset count → commits step ≡ true
committed_commits o step object offset count e = go step.call e where
  isnt_nothing : (x : Effect) → x ≡ Committed object offset count → x ≡ Nothing → ⊥
  isnt_nothing Lasting e f = cc
  isnt_nothing Nothing e f = cc
  isnt_nothing (Unstable a b c) e f = cc
  isnt_nothing (Committed a b c) e f = cc

  never : (b : Bool) → (if b then Lasting else Nothing) ≡ Committed object offset count → ⊥
  never true e = cc
  never false e = cc

  no_write : (level : StableHow) (o : Option ℕ) (from size : ℕ) → at_level level (of_object (λ named. Unstable named from size) o) ≡ Committed object offset count → ⊥
  no_write levels.Unstable None from size e = cc
  no_write levels.Unstable (Some n) from size e = cc
  no_write levels.DataSync o from size e = cc
  no_write levels.FileSync o from size e = cc

  write_never : (o : Option ℕ) (from : ℕ) (s : Option WriteSuccess) → where_done (effect_of_write o from) s ≡ Committed object offset count → ⊥
  write_never o from None e = cc
  write_never o from (Some success) e = no_write success.level o from success.count e

  go : (call : NfsCall) → effect_of o call step.outcome ≡ Committed object offset count → (is_commit call && is_some (commit_success step.outcome)) ≡ true
  go (calls.Commit a) e =
      let s = where_some (λ (success : CommitSuccess). of_object (λ named. Committed named a.offset a.count) o) (commit_success step.outcome) (isnt_nothing (where_done (λ (success : CommitSuccess). of_object (λ named. Committed named a.offset a.count) o) (commit_success step.outcome)) e) in
      ap is_some s.1
  go (calls.Write a) e = absurd (write_never o a.offset (write_success step.outcome) e)
  go (calls.SetAttr a) e = absurd (never (succeeded (calls.SetAttr a) step.outcome) e)
  go (calls.Create a) e = absurd (never (succeeded (calls.Create a) step.outcome) e)
  go (calls.MkDir a) e = absurd (never (succeeded (calls.MkDir a) step.outcome) e)
  go (calls.SymLink a) e = absurd (never (succeeded (calls.SymLink a) step.outcome) e)
  go (calls.Remove a) e = absurd (never (succeeded (calls.Remove a) step.outcome) e)
  go (calls.RmDir a) e = absurd (never (succeeded (calls.RmDir a) step.outcome) e)
  go (calls.Rename a) e = absurd (never (succeeded (calls.Rename a) step.outcome) e)
  go (calls.GetAttr a) e = absurd (never false e)
  go (calls.Lookup a) e = absurd (never false e)
  go (calls.ReadLink a) e = absurd (never false e)
  go (calls.Read a) e = absurd (never false e)
  go (calls.ReadDir a) e = absurd (never false e)
  go (calls.ReadDirPlus a) e = absurd (never false e)

record IsCommitted (effect : Effect) : Type 0 where
  object : ℕ
  offset : ℕ
  count : ℕ
  is : effect ≡ Committed object offset count

reaches_commits : (effect : Effect) (object byte : ℕ) → Reaches effect object byte → IsCommitted effect
reaches_commits Nothing object byte r = absurd r
reaches_commits Lasting object byte r = absurd r
reaches_commits (Unstable a b c) object byte r = absurd r
reaches_commits (Committed a b c) object byte r = record { object = a; offset = b; count = c; is = refl }

-- ---- an era that is over

module _ (binds : Bindings) (calls : List RecordedCall) (e : ℕ) (era : Over) (known : AreKnown calls e era.steps) (cut : IsCutSafely calls era) where
  -- a place that means something for stable storage has its reply
  record Means (step : Placed) (effect : Effect) : Type 0 where
    ended : IsSome (end_of calls step.number)
    object : Option ℕ
    means : effect_of object step.call step.outcome ≡ effect

  meaning : (step : Placed) (place : Place) → IsKnown calls e step → place_of calls step ≡ Some place → (effect_at binds calls place ≡ Nothing → ⊥) → Means step (effect_at binds calls place)
  meaning step place k is isnt = go (stands calls e step place k is) where
    go : Stands calls step k.call place → Means step (effect_at binds calls place)
    go (answered ended came at) = record {
      ended = ap (λ c. is_some (option_and_then (λ (call : RecordedCall). call.«end») c)) k.recorded ∙ ended;
      object = object_written binds step.call;
      means = sym (ap (effect_at binds calls) at
          ∙ ap (λ a. option_map_or (λ (a : NfsCall × Outcome). effect_of (object_written binds a.0) a.0 a.1) a Nothing)
          (ap (option_and_then (λ (call : RecordedCall). answered_with call.meaning call.outcome)) k.recorded ∙ ap (λ m. answered_with m k.call.outcome) k.judged ∙ ap (answered_with (meanings.Judged step.call)) came));
    }
    go (taken quiet recorded at) = absurd (isnt (ap (effect_at binds calls) at))

  -- a place whose call has a record among those that were kept isn't past the cut
  within : (first : List Placed) (step : Placed) (rest : List Placed) (place : Place) → era.steps ≡ first ++ step ∷ rest → place_of calls step ≡ Some place → is_recorded step ≡ true
      → records_in (first ++ step ∷ []) ≤ cut.count → length (places_of calls first) + 1 ≤ cut_of (plan_over calls era)
  within first step rest place parts gives recorded le =
      let reached : length first + 1 ≤ era.kept = subst (λ (n : ℕ). length first + 1 ≤ n) (ap (front_with cut.count) (sym parts) ∙ sym cut.front) (front_reaches cut.count first step rest recorded le) in
      subst (λ (xs : List Placed). length (places_of calls first) + 1 ≤ length (places_of calls (take era.kept xs))) (sym parts) (front_gives (place_of calls) era.kept first step rest place reached gives)

  fewer : (first : List Placed) (step : Placed) (more : List Placed) → records_in (first ++ step ∷ []) ≤ records_in (first ++ step ∷ more)
  fewer first step more =
      subst (λ (n : ℕ). records_in (first ++ step ∷ []) ≤ n) (sym (ap records_in (sym (append_assoc first (step ∷ []) more)) ∙ records_append (first ++ step ∷ []) more)) (more_of (records_in (first ++ step ∷ [])) (records_in more)) where
        more_of : (a b : ℕ) → a ≤ a + b
        more_of a b = omega arith

  -- by what follows of a place that is stable, it isn't past the cut
  module _ (first : List Placed) (step : Placed) (rest : List Placed) (place : Place) (parts : era.steps ≡ first ++ step ∷ rest) (gives : place_of calls step ≡ Some place) where
    known_here : IsKnown calls e step
    known_here = (all_behind (IsKnown calls e) first (step ∷ rest) (subst (AreKnown calls e) parts known)).0

    known_rest : AreKnown calls e rest
    known_rest = (all_behind (IsKnown calls e) first (step ∷ rest) (subst (AreKnown calls e) parts known)).1

    kept_by : is_recorded step ≡ true → records_in (first ++ step ∷ []) ≤ cut.count → length (places_of calls first) + 1 ≤ cut_of (plan_over calls era)
    kept_by recorded le = within first step rest place parts gives recorded le

    by_commit : is_recorded step ≡ true → (object offset count : ℕ) → AreCommitted object offset count (effects_of binds calls (places_of calls rest))
        → length (places_of calls first) + 1 ≤ cut_of (plan_over calls era)
    by_commit recorded object offset count committed =
        let commit = committed.0 in
        let found = contains_parts (effects_of binds calls (places_of calls rest)) commit committed.1.0 committed.1.1 committed.1.2 in
        let at = map_parts (effect_at binds calls) (places_of calls rest) found.0 commit found.1 found.2 in
        let later = given_parts (place_of calls) rest at.first at.here at.rest at.parts in
        let k = (all_behind (IsKnown calls e) later.first (later.here ∷ later.rest) (subst (AreKnown calls e) later.parts known_rest)).0 in
        let is = reaches_commits commit object committed.2.0 committed.2.2 in
        let m = meaning later.here at.here k later.gives (λ nothing. clash (sym is.is ∙ sym at.here_is ∙ nothing)) in
        let commits_so = committed_commits m.object later.here is.object is.offset is.count (m.means ∙ at.here_is ∙ is.is) in
        let whole : era.steps ≡ (first ++ step ∷ later.first) ++ later.here ∷ later.rest =
        parts ∙ ap (λ xs. first ++ step ∷ xs) later.parts ∙ sym (append_assoc first (step ∷ later.first) (later.here ∷ later.rest)) in
        let durable = cut.durable (first ++ step ∷ later.first) later.here later.rest whole m.ended in
        kept_by recorded (both_le (records_in (first ++ step ∷ [])) (records_in (first ++ step ∷ later.first)) cut.count (fewer first step later.first) (durable.1 commits_so)) where
          clash : {a b c : ℕ} → Committed a b c ≡ Nothing → ⊥
          clash e = cc

          both_le : (a b c : ℕ) → a ≤ b → 0 + b ≤ c → a ≤ c
          both_le a b c f g = omega (arith, f, g)

    kept_so : (effect : Effect) → effect_at binds calls place ≡ effect → IsStable effect (effects_of binds calls (places_of calls rest)) → length (places_of calls first) + 1 ≤ cut_of (plan_over calls era)
    kept_so Nothing is stable = absurd stable
    kept_so (Committed object offset count) is stable = absurd stable
    kept_so Lasting is stable =
        let m = meaning step place known_here gives (λ nothing. lasting_isnt_nothing (effect_at binds calls place) is nothing) in
        let lasting = m.means ∙ is in
        kept_by (promised m.object step lasting) (from_zero (records_in (first ++ step ∷ [])) cut.count ((cut.durable first step rest parts m.ended).0 (lasts m.object step.call step.outcome lasting))) where
          from_zero : (a c : ℕ) → 0 + a ≤ c → a ≤ c
          from_zero a c f = omega (arith, f)
    kept_so (Unstable object offset count) is stable =
        let m = meaning step place known_here gives (λ nothing. clash (sym is ∙ nothing)) in
        by_commit (unstable_recorded m.object step object offset count (m.means ∙ is)) object offset count stable where
          clash : Unstable object offset count ≡ Nothing → ⊥
          clash e = cc

  pub keeps_stable : KeepsStable binds calls (plan_over calls era)
  keeps_stable position past at =
      let here = map_parts (effect_at binds calls) (places_of calls era.steps) at.ahead at.here at.behind at.stands in
      let step = given_parts (place_of calls) era.steps here.first here.here here.rest here.parts in
      let behind : effects_of binds calls (places_of calls step.rest) ≡ at.behind = ap (effects_of binds calls) step.behind_given ∙ here.behind_is in
      let kept = kept_so step.first step.here step.rest here.here step.parts step.gives at.here here.here_is (subst (IsStable at.here) (sym behind) at.stable) in
      let ahead : length (places_of calls step.first) ≡ length at.ahead = ap length step.ahead_given ∙ sym (map_length (effect_at binds calls) here.first) ∙ ap length here.ahead_is in
      clash past at.number ahead kept where
        clash : {cut position a b : ℕ} → cut < position → position ≡ b + 1 → a ≡ b → a + 1 ≤ cut → ⊥
        clash p n s k = omega (arith, p, n, s, k)

-- ---- all eras

cuts_keep : (binds : Bindings) (calls : List RecordedCall) (e : ℕ) (over : List Over) (placed : List Placed) → AllKnown calls e over placed → AllByRecursion (IsCutSafely calls) over
    → (k : ℕ) (era : EraPlan) → era_at (plans calls over placed) k ≡ Some era → k < length (plans calls over placed) → KeepsStable binds calls era
cuts_keep binds calls e over placed known safe zero era at lt = absurd (none at) where
  none : None ≡ Some era → ⊥
  none f = cc
cuts_keep binds calls e [] placed known safe (suc k) era at lt = absurd (none lt) where
  none : suc k < 1 → ⊥
  none f = omega (arith, f)
cuts_keep binds calls e (first ∷ over) placed known safe (suc zero) era at lt =
    subst (KeepsStable binds calls) (is at) (keeps_stable binds calls e first known.0 safe.0) where
      is : Some (plan_over calls first) ≡ Some era → plan_over calls first ≡ era
      is f = cc
cuts_keep binds calls e (first ∷ over) placed known safe (suc (suc k)) era at lt = cuts_keep binds calls (e + 1) over placed known.1 safe.1 (suc k) era at (omega (arith, lt))

pub cuts_keep_stable : (book : Book) (binds : Bindings) → IsInvariant book → CutsKeepStable binds book.history.known.calls (plan_of book).eras
cuts_keep_stable book binds i = cuts_keep binds book.history.known.calls 1 book.over book.placed i.known i.cuts
