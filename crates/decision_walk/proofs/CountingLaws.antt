-- states over open WRITEs: calls that come to none of their files, counts that are chosen or narrowed, and WRITEs that are opened
use Rattle.std.proofs.Common.{◌≡◌, ◌⊎◌, inl, inr, ℕ, ◌+◌, ◌-◌, ◌<◌, ◌≤◌, Bool, false, true, List, [], ◌∷◌, length, Option, Some, None, refl, sym, ap, ◌∙◌, subst, arith}
use Rattle.std.specs.Prelude.{◌&&◌, if◌then◌else◌, nat_le, take, cond, IfSome, IsSome, is_some, option_and_then, option_map}
use Rattle.std.specs.List.{AllByRecursion}
use Rattle.std.proofs.lemmas.Bool.{cases_order}
use Rattle.nfs3_types.specs.declared.calls.NfsCall.{NfsCall}
use Rattle.nfs3_types.specs.declared.calls.NfsCall.TheVariants as calls
use Rattle.nfs3_types.specs.declared.calls.WriteArguments.{WriteArguments}
use Rattle.nfs3_types.specs.declared.replies.Outcome.{Outcome}
use Rattle.nfs3_types.specs.declared.replies.Outcome.TheVariants.{Received, Taken}
use Rattle.nfs_history.specs.declared.recorded.Meaning.TheVariants as meanings
use Rattle.nfs_history.specs.declared.knowing.KnownCalls.{KnownCalls}
use Rattle.certificate.specs.declared.plan.Certificate.{Certificate}
use Rattle.order_check.specs.Places.{may_take}
use Rattle.tree_starts.specs.Start.{object_made}
use Rattle.tree_nodes.specs.declared.node.Node.{Node}
use Rattle.tree_nodes.specs.Tree.{Names, Tree, entry_of}
use Rattle.tree_nodes.proofs.Chains.{value_of}
use Rattle.tree_starts.specs.declared.profile.Profile.{Profile}
use Rattle.tree_starts.specs.declared.profile.Profile.TheVariants.{Plain, Strict}
use Rattle.tree_handles.specs.Live.{FileEntry, as_file, file_of}
use Rattle.file_tree.specs.Strict.{judged}
use Rattle.file_tree.specs.Written.{reaches, write_at}
use Rattle.tree_handles.specs.Binding.{Bindings, object_of}
use Rattle.tree_answers.specs.Asked.{first_handle}
use Rattle.alike_calls.specs.Alike.{entry_read_or_set, object_touched}
use Rattle.alike_calls.proofs.WritesSame.{agreed_touched}
use Rattle.file_tree.specs.Setting.{under}
use Rattle.file_tree.specs.Success.{changed, next_tree}
use Rattle.decision_core.specs.Layers.{Grows}
use Rattle.decision_steps.specs.Known.{AgreesWith, is_failure}
use Rattle.decision_steps.specs.Standing.{Standing}
use Rattle.decision_law.specs.Laws.{binds_of}
use Rattle.decision_law.specs.Machine.{Point}
use Rattle.decision_walk.specs.declared.open_writes.OpenWrite.{OpenWrite}
use Rattle.decision_walk.specs.declared.open_writes.Counts.{Counts}
use Rattle.decision_walk.specs.View.{KeptView, WalkView}
use Rattle.decision_walk.specs.Opening.{write_in, call_of_history, write_of, IsOpen, HasWritten, is_open, open_at, of_others, IsInserted, IsWithin}
use Rattle.decision_walk.specs.Standing.{IsAt}
use Rattle.decision_walk.specs.Settling.{may_change}
use Rattle.decision_walk.specs.Placings.{kept_of, with_trees, narrowed, IsApart, MakesNoneOpen, GoesOn, IsCovered, IsCoveredAt, CoversPlans, CoversPoints, IsResolution, DoesNotFit, HasChildren, HasPlaced, HasPlacedFor, HasTaken, HasTakenFor}
use Rattle.decision_walk.specs.Resolving.{HasWrote, IsResolvedTo, IsBaseResolvedTo, CanOpen, IsNowhereOpen, is_open_base}
use Rattle.decision_walk.proofs.Filling.{at_found, counted}
use Rattle.decision_walk.proofs.Resolutions.{none_written, none_is_same, one_resolved, one_opened, others_counted, base_counted, kept_narrowed, base_narrowed, goes_apart}
use Rattle.decision_walk.proofs.Looks.{look_keeps}
use Rattle.decision_walk.proofs.PlacedLaws.{children_hold}

module _ (known : KnownCalls) (marks : List Bool) where
  -- ---- a call that comes to no open WRITE's file

  pub apart_covers : (state : WalkView) (n : ℕ) (call : NfsCall) (outcome : Outcome) (found : Option Standing) → IsApart state call outcome → MakesNoneOpen known state n
      → CoversPlans known state n call outcome found → CoversPoints known marks state n call outcome found
  apart_covers state n call outcome found apart fresh covers plan gone point at inside after leads = go state.writes refl where
    binds : Bindings
    binds = binds_of known plan

    number : ℕ
    number = object_made (length known.head.start) n

    has : HasWritten known binds at.counts state.writes state.tree point.tree
    has = at.tree inside

    turned : (tree : Tree) (f : Option Standing) → HasWritten known binds at.counts state.writes tree after → IsCovered known plan tree f → IsCoveredAt known marks plan at.counts state.writes after f
    turned tree None here covered = covered
    turned tree (Some next) here covered = (subst (λ t. HasWritten known binds at.counts state.writes t after) (sym covered.0) here, covered.1)

    given : (tree : Tree) → GoesOn known plan state.tree n call outcome tree → HasWritten known binds at.counts state.writes tree after → IsCoveredAt known marks plan at.counts state.writes after found
    given tree goes here = turned tree found here (covers plan tree at.binds goes)

    go : (writes : List OpenWrite) → state.writes ≡ writes → IsCoveredAt known marks plan at.counts state.writes after found
    go [] is =
        let same : point.tree ≡ state.tree = none_is_same known binds at.counts state.tree point.tree (subst (λ ws. HasWritten known binds at.counts ws state.tree point.tree) is has) in
        given after (subst (λ t. GoesOn known plan t n call outcome after) same leads)
        (subst (λ ws. HasWritten known binds at.counts ws after after) (sym is) (none_written known binds at.counts after))
    go (w ∷ writes) is =
        let plain = (subst (AllByRecursion (IsOpen known binds at.counts)) is has.each).0.plain in
        let it = goes_apart known binds at.counts state.writes state.tree point.tree after number call outcome (apart binds at.binds) fresh has
        (subst (λ p. under p binds point.tree number call outcome ≡ Some after) plain leads) in
        given it.0 (subst (λ p. under p binds state.tree number call outcome ≡ Some it.0) (sym plain) it.1) it.2

  -- ---- counts that are chosen

  pub resolves : (state : WalkView) (kept : KeptView) (base : Option KeptView) (call count : ℕ) → IsResolvedTo known call count (kept_of state) kept
      → IsBaseResolvedTo known call count state.base base → IsResolution known marks state call count (with_trees state kept base)
  resolves state kept base call count here there plan gone point at is = record {
    counts = at.counts;
    binds = at.binds;
    era = at.era;
    past = at.past;
    tree = λ inside. here (binds_of known plan) at.counts point.tree is (at.tree inside);
    base = λ early. there (binds_of known plan) at.counts point.base is (at.base early);
    placed = at.placed;
    answered = at.answered;
    barred = at.barred;
  }

  module _ (states : List WalkView) (state : WalkView) (n : ℕ) (call : NfsCall) where
    pub placed_for_kept : (old : List WalkView) (written count : ℕ) (outcome : Outcome) → Grows old states → HasPlacedFor known marks old state written count n call outcome
        → HasPlacedFor known marks states state written count n call outcome
    placed_for_kept old written count outcome grows has plan gone point next at is inside kept comes = let found = has plan gone point next at is inside kept comes in (found.0, grows found.0 found.1, found.2)

    pub taken_for_kept : (old : List WalkView) (written count : ℕ) → Grows old states → HasTakenFor known marks old state written count n call → HasTakenFor known marks states state written count n call
    taken_for_kept old written count grows has bytes may = placed_for_kept old written count (Taken bytes) grows (has bytes may)

    module _ (written count : ℕ) (after : WalkView) (resolved : IsResolution known marks state written count after) where
      pub placed_once : (outcome : Outcome) → HasPlaced known marks states after n call outcome → HasPlacedFor known marks states state written count n call outcome
      placed_once outcome has plan gone point next at is inside kept comes = has plan gone point next (resolved plan gone point at is) inside kept comes

      pub taken_once : HasTaken known marks states after n call → HasTakenFor known marks states state written count n call
      taken_once has bytes may plan gone point next at is inside kept comes = has bytes may plan gone point next (resolved plan gone point at is) inside kept comes

      pub fits_not : (outcome : Outcome) → CoversPoints known marks after n call outcome None → DoesNotFit known marks state written n call outcome count
      fits_not outcome none plan gone point at is inside tree goes = none plan gone point (resolved plan gone point at is) inside tree goes

    module _ (one : OpenWrite) (found : open_at state.writes one.object ≡ Some one) where
      -- the counts that the WRITE may have
      its_count : (plan : Certificate) (gone : ℕ → Bool) (point : Point known) (at : IsAt known marks plan gone point state) → point.era ≤ known.eras → IsOpen known (binds_of known plan) at.counts one
      its_count plan gone point at inside = (at_found (IsOpen known (binds_of known plan) at.counts) state.writes one.object one (at.tree inside).each found).0

      pub each_placed : (outcome : Outcome) (counts : ℕ) → one.least + counts ≡ one.most + 1 → ((j : ℕ) → j < counts → HasPlacedFor known marks states state one.call (one.least + j) n call outcome)
          → HasPlaced known marks states state n call outcome
      each_placed outcome counts all has plan gone point after at inside kept comes =
          let is = its_count plan gone point at inside in
          let low = is.least in
          let high = is.most in
          has (at.counts one.call - one.least) (omega (arith, all, low, high)) plan gone point after at (omega (arith, low)) inside kept comes

      pub each_taken : (counts : ℕ) → one.least + counts ≡ one.most + 1 → ((j : ℕ) → j < counts → HasTakenFor known marks states state one.call (one.least + j) n call)
          → HasTaken known marks states state n call
      each_taken counts all has bytes may = each_placed (Taken bytes) counts all (λ j below. has j below bytes may)

      -- ---- a call that looks

      module _ (outcome : Outcome) (counts : Counts) (fits : (count : ℕ) → one.least ≤ count → count ≤ one.most → DoesNotFit known marks state one.call n call outcome count ⊎ IsWithin counts count) where
        within : (plan : Certificate) (gone : ℕ → Bool) (point : Point known) (at : IsAt known marks plan gone point state) → point.era ≤ known.eras → (after : Tree) → GoesOn known plan point.tree n call outcome after
            → IsWithin counts (at.counts one.call)
        within plan gone point at inside after goes =
            let is = its_count plan gone point at inside in
            elim (fits (at.counts one.call) is.least is.most) [ inl not ↦ absurd (not plan gone point at refl inside after goes) | inr it ↦ it ]

        pub none_fits : counts.most < counts.least → HasPlaced known marks states state n call outcome
        none_fits less plan gone point after at inside kept comes =
            let it = within plan gone point at inside comes.tree comes.goes in
            let low = it.0 in
            let high = it.1 in
            absurd (omega (arith, less, low, high))

        narrows : (plan : Certificate) (gone : ℕ → Bool) (point : Point known) (at : IsAt known marks plan gone point state) → IsWithin counts (at.counts one.call)
            → IsAt known marks plan gone point (narrowed state one.call counts.least counts.most)
        narrows plan gone point at it = record {
          counts = at.counts;
          binds = at.binds;
          era = at.era;
          past = at.past;
          tree = λ inside. kept_narrowed known (binds_of known plan) at.counts one.call counts.least counts.most it.0 it.1 state.writes state.tree point.tree (at.tree inside);
          base = λ early. base_narrowed known (binds_of known plan) at.counts one.call counts.least counts.most it.0 it.1 state.base point.base (at.base early);
          placed = at.placed;
          answered = at.answered;
          barred = at.barred;
        }

        pub looks_cover : may_change call ≡ false → (next : Standing) → next.tree ≡ state.tree → next.binds ≡ state.binds
            → HasChildren known marks states (narrowed state one.call counts.least counts.most) n next (narrowed state one.call counts.least counts.most).writes → HasPlaced known marks states state n call outcome
        looks_cover looks next tree binds children plan gone point after at inside kept comes =
            let here = narrows plan gone point at (within plan gone point at inside comes.tree comes.goes) in
            let same : point.tree ≡ comes.tree = look_keeps known.head.profile (binds_of known plan) point.tree comes.tree (object_made (length known.head.start) n) call outcome looks comes.goes in
            children_hold known marks states (narrowed state one.call counts.least counts.most) n next (narrowed state one.call counts.least counts.most).writes children plan gone point after comes.tree here.counts here
            (here.tree inside) here.base (subst (λ b. AgreesWith b (binds_of known plan)) (sym binds) here.binds)
            (subst (λ t. HasWritten known (binds_of known plan) here.counts (narrowed state one.call counts.least counts.most).writes next.tree t) same
            (subst (λ t. HasWritten known (binds_of known plan) here.counts (narrowed state one.call counts.least counts.most).writes t point.tree) (sym tree) (here.tree inside)))
            comes.cut

  -- ---- a WRITE that is opened

  some_is : {X : Type 0} (a b : X) → Some a ≡ Some b → a ≡ b
  some_is a b e = cc

  -- the call of a WRITE
  pub write_is : (call : NfsCall) (write : WriteArguments) → write_in call ≡ Some write → call ≡ calls.Write write
  write_is (calls.GetAttr object) write is = absurd (cc)
  write_is (calls.SetAttr call) write is = absurd (cc)
  write_is (calls.Lookup place) write is = absurd (cc)
  write_is (calls.ReadLink link) write is = absurd (cc)
  write_is (calls.Read call) write is = absurd (cc)
  write_is (calls.Write call) write is = ap (λ w. calls.Write w) (some_is call write is)
  write_is (calls.Create call) write is = absurd (cc)
  write_is (calls.MkDir call) write is = absurd (cc)
  write_is (calls.SymLink call) write is = absurd (cc)
  write_is (calls.Remove place) write is = absurd (cc)
  write_is (calls.RmDir place) write is = absurd (cc)
  write_is (calls.Rename call) write is = absurd (cc)
  write_is (calls.ReadDir call) write is = absurd (cc)
  write_is (calls.ReadDirPlus call) write is = absurd (cc)
  write_is (calls.Commit call) write is = absurd (cc)

  -- it is taken with a count
  has_count : (write : WriteArguments) (bytes : Option ℕ) → may_take (meanings.Judged (calls.Write write)) bytes ≡ true → (k : ℕ) × (bytes ≡ Some k)
  has_count write None may = absurd (cc)
  has_count write (Some k) may = (k, refl)

  pub opens_take : (states : List WalkView) (state : WalkView) (n : ℕ) (call : NfsCall) (one : OpenWrite) (next : Standing) (writes : List OpenWrite) → call_of_history known n ≡ Some call
      → CanOpen known state n one → next.tree ≡ state.tree → next.binds ≡ state.binds → open_at state.writes one.object ≡ None → IsNowhereOpen state n → IsInserted one state.writes writes
      → HasChildren known marks states state n next writes → HasTaken known marks states state n call
  opens_take states state n call one next writes is can tree binds none nowhere inserted children bytes may plan gone point after at inside kept comes =
      children_hold known marks states state n next writes children plan gone point after comes.tree later at (others_counted known B at.counts one.call k state.writes state.tree point.tree here (at.tree inside))
      (λ early. base_counted known B at.counts one.call k state.base point.base there (at.base early)) (subst (λ b. AgreesWith b B) (sym binds) at.binds)
      (subst (λ t. HasWritten known B later writes t comes.tree) (sym tree) written) comes.cut where
        B : Bindings
        B = binds_of known plan

        call_is : call ≡ calls.Write can.write
        call_is = write_is call can.write (ap (option_and_then write_in) (sym is) ∙ can.«is»)

        counted_as : (k : ℕ) × (bytes ≡ Some k)
        counted_as = has_count can.write bytes (subst (λ c. may_take (meanings.Judged c) bytes ≡ true) call_is may)

        k : ℕ
        k = counted_as.0

        later : ℕ → ℕ
        later = counted known at.counts one.call k

        here : is_open state.writes one.call ≡ false
        here = subst (λ m. is_open state.writes m ≡ false) (sym can.call) nowhere.here

        there : is_open_base state.base one.call ≡ false
        there = subst (λ m. is_open_base state.base m ≡ false) (sym can.call) nowhere.base

        number : ℕ
        number = object_made (length known.head.start) n

        leads : next_tree B point.tree number (calls.Write can.write) (Taken (Some k)) ≡ Some comes.tree
        leads = subst (λ p. under p B point.tree number (calls.Write can.write) (Taken (Some k)) ≡ Some comes.tree) can.plain
            (subst (λ c. under known.head.profile B point.tree number c (Taken (Some k)) ≡ Some comes.tree) call_is
            (subst (λ b. under known.head.profile B point.tree number call (Taken b) ≡ Some comes.tree) counted_as.1 comes.goes))

        written : HasWritten known B later writes state.tree comes.tree
        written = one_opened known B at.counts state.writes writes state.tree point.tree comes.tree one can.write number k can.plain (ap (write_of known) can.call ∙ can.«is»)
            (at.binds can.write.file one.object can.named) can.numbered can.least can.most none here inserted (at.tree inside) leads

-- ---- for the functions

-- one count more
pub next_count : (P : List WalkView → ℕ → Type 0) (old new : List WalkView) (least more : ℕ) → ((k : ℕ) → P old k → P new k) → ((j : ℕ) → j < more → P old (least + j)) → P new (least + more)
    → (j : ℕ) → j < more + 1 → P new (least + j)
next_count P old new least more kept so_far here j below = elim (cases_order j more) [
  | inl same ↦ subst (λ i. P new (least + i)) (sym same) here
  | inr other ↦ elim other [ inl ahead ↦ kept (least + j) (so_far j ahead) | inr behind ↦ absurd (omega (arith, below, behind)) ]
]

pub next_fit : (Not : ℕ → Type 0) (old new : Counts) (least more : ℕ) (fits : Bool) → ((k : ℕ) → IsWithin old k → IsWithin new k) → ((j : ℕ) → j < more → Not (least + j) ⊎ IsWithin old (least + j))
    → (fits ≡ false → Not (least + more)) → (fits ≡ true → IsWithin new (least + more)) → (j : ℕ) → j < more + 1 → Not (least + j) ⊎ IsWithin new (least + j)
next_fit Not old new least more fits kept so_far unfit fit j below = elim (cases_order j more) [
  | inl same ↦ subst (λ i. Not (least + i) ⊎ IsWithin new (least + i)) (sym same) (here fits refl)
  | inr other ↦ elim other [ inl ahead ↦ earlier (so_far j ahead) | inr behind ↦ absurd (omega (arith, below, behind)) ]
] where
  here : (b : Bool) → fits ≡ b → Not (least + more) ⊎ IsWithin new (least + more)
  here true is = inr (fit is)
  here false is = inl (unfit is)

  earlier : Not (least + j) ⊎ IsWithin old (least + j) → Not (least + j) ⊎ IsWithin new (least + j)
  earlier (inl not) = inl not
  earlier (inr it) = inr (kept (least + j) it)

pub all_fit : (P : ℕ → Type 0) (least most counts more : ℕ) → least + counts ≡ most + 1 → counts ≤ more → ((j : ℕ) → j < more → P (least + j)) → (count : ℕ) → least ≤ count → count ≤ most → P count
all_fit P least most counts more all past has count low high =
    let same : least + (count - least) ≡ count = omega (arith, low) in
    subst P same (has (count - least) (omega (arith, all, past, low, high)))

pub found_so : (writes : List OpenWrite) (object : ℕ) (o : Option OpenWrite) → o ≡ open_at writes object → IfSome o (λ (one : OpenWrite). open_at writes one.object ≡ Some one)
found_so writes object None is = tt
found_so writes object (Some one) is =
    let same = (at_found (λ _. Unit {0}) writes object one (each_so writes) (sym is)).1 in
    ap (open_at writes) same ∙ sym is where
      each_so : (ws : List OpenWrite) → AllByRecursion (λ _. Unit {0}) ws
      each_so [] = tt
      each_so (w ∷ ws) = (tt, each_so ws)

none_some : {X : Type 0} (x : X) → None ≡ Some x → ⊥
none_some x e = cc

pub none_is : {X : Type 0} (o : Option X) → is_some o ≡ false → o ≡ None
none_is None is = refl
none_is (Some x) is = absurd (cc)

-- a call that comes to no open WRITE's file by the handles that are bound, comes to none by a plan's
pub touched_apart : (binds plan : Bindings) → AgreesWith binds plan → (tree : Tree) (call : NfsCall) (outcome : Outcome) (writes : List OpenWrite) (object : ℕ)
    → object_touched binds tree call outcome ≡ Some object → open_at writes object ≡ None → (is_failure outcome ≡ true) ⊎ IsSome (object_of binds (first_handle call))
    → IfSome (object_touched plan tree call outcome) (λ o. open_at writes o ≡ None)
touched_apart binds plan agrees tree call outcome writes object touched none (inr known) =
    subst (λ o. IfSome o (λ o. open_at writes o ≡ None)) (sym (agreed_touched binds plan agrees tree call outcome known ∙ touched)) none
touched_apart binds plan agrees tree call (Received reply) writes object touched none (inl fails) =
    subst (λ o. IfSome o (λ o. open_at writes o ≡ None)) (sym (ap (λ b. option_map (λ (e : Names × Node). e.1.object) (cond b None (entry_read_or_set plan tree call))) fails)) tt
touched_apart binds plan agrees tree call (Taken count) writes object touched none (inl fails) = absurd (cc)

module _ (known : KnownCalls) (binds : Bindings) (counts : ℕ → ℕ) where
  pub resolves_in : (writes rest : List OpenWrite) (stands next : Standing) (other : Tree) (one found : OpenWrite) (count : ℕ) → open_at writes one.object ≡ Some found → found.call ≡ one.call
      → HasWrote known found.call found.object count stands next → rest ≡ of_others writes one.object → counts one.call ≡ count → HasWritten known binds counts writes stands.tree other
      → HasWritten known binds counts rest next.tree other
  resolves_in writes rest stands next other one found count is same wrote left counted has =
      subst (λ ws. HasWritten known binds counts ws next.tree other) (sym left)
      (one_resolved known binds counts writes stands next other found one.object is
      (subst (λ k. HasWrote known found.call one.object k stands next) (sym (ap counts same ∙ counted))
      (subst (λ o. HasWrote known found.call o count stands next) (at_found (IsOpen known binds counts) writes one.object found has.each is).1 wrote)) has)

-- a WRITE whose handle names no file that stands isn't taken
no_file : (binds plan : Bindings) → AgreesWith binds plan → (tree : Tree) (write : WriteArguments) → IsSome (object_of binds write.file) → file_of binds tree write.file ≡ None
    → (number k : ℕ) → next_tree plan tree number (calls.Write write) (Taken (Some k)) ≡ None
no_file binds plan agrees tree write bound none number k =
    let found = value_of (object_of binds write.file) bound in
    let same : object_of plan write.file ≡ object_of binds write.file = agrees write.file found.0 found.1 ∙ sym found.1 in
    ap (λ o. option_map (changed tree) (option_and_then (λ (entry : FileEntry). if nat_le k write.count && nat_le k (length write.bytes) && reaches write.level None then write_at entry write.offset (take k write.bytes) else None)
    (option_and_then (λ (e : Names × Node). as_file e.0 e.1.object e.1.content) (option_and_then (entry_of tree) o)))) same
    ∙ ap (λ f. option_map (changed tree) (option_and_then (λ (entry : FileEntry). if nat_le k write.count && nat_le k (length write.bytes) && reaches write.level None then write_at entry write.offset (take k write.bytes) else None) f)) none

not_under : (profile : Profile) (binds : Bindings) (tree after : Tree) (number : ℕ) (call : NfsCall) (outcome : Outcome) → next_tree binds tree number call outcome ≡ None
    → under profile binds tree number call outcome ≡ Some after → ⊥
not_under Plain binds tree after number call outcome isnt some = none_some after (sym isnt ∙ some)
not_under Strict binds tree after number call outcome isnt some = none_some after (sym (ap (option_and_then (judged binds tree call outcome)) isnt) ∙ some)

pub unmapped : {X Y : Type 0} (f : X → Y) (o : Option X) → option_map f o ≡ None → o ≡ None
unmapped f None is = refl
unmapped f (Some x) is = absurd (cc)

module _ (known : KnownCalls) (marks : List Bool) where
  pub nowhere_taken : (states : List WalkView) (state : WalkView) (n : ℕ) (call : NfsCall) (write : WriteArguments) → write_in call ≡ Some write → IsSome (object_of state.binds write.file)
      → file_of state.binds state.tree write.file ≡ None → MakesNoneOpen known state n → IsApart state call (Taken None) → HasTaken known marks states state n call
  nowhere_taken states state n call write is bound none fresh apart bytes may plan gone point after at inside kept comes =
      absurd (apart_covers known marks state n (calls.Write write) (Taken (Some counted_as.0)) None apart_here fresh covers plan gone point at inside comes.tree goes) where
        call_is : call ≡ calls.Write write
        call_is = write_is known marks call write is

        counted_as : (k : ℕ) × (bytes ≡ Some k)
        counted_as = has_count known marks write bytes (subst (λ c. may_take (meanings.Judged c) bytes ≡ true) call_is may)

        apart_here : IsApart state (calls.Write write) (Taken (Some counted_as.0))
        apart_here = subst (λ c. IsApart state c (Taken None)) call_is apart

        covers : CoversPlans known state n (calls.Write write) (Taken (Some counted_as.0)) None
        covers plan after agrees leads =
            not_under known.head.profile (binds_of known plan) state.tree after (object_made (length known.head.start) n) (calls.Write write) (Taken (Some counted_as.0))
            (no_file state.binds (binds_of known plan) agrees state.tree write bound none (object_made (length known.head.start) n) counted_as.0) leads

        goes : GoesOn known plan point.tree n (calls.Write write) (Taken (Some counted_as.0)) comes.tree
        goes = subst (λ c. GoesOn known plan point.tree n c (Taken (Some counted_as.0)) comes.tree) call_is (subst (λ b. GoesOn known plan point.tree n call (Taken b) comes.tree) counted_as.1 comes.goes)

module _ (known : KnownCalls) (call count : ℕ) where
  pub base_resolves : (base : Option KeptView) (kept after : KeptView) → base ≡ Some kept → IsResolvedTo known call count kept after → IsBaseResolvedTo known call count base (Some after)
  base_resolves base kept after is resolved = subst (λ b. IsBaseResolvedTo known call count b (Some after)) (sym is) go where
    go : IsBaseResolvedTo known call count (Some kept) (Some after)
    go binds counts None counted has = absurd has
    go binds counts (Some other) counted has = resolved binds counts other counted has
