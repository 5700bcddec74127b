-- handles that no reply gave: which plans have them name an object that exists, and the states in which they do
use Rattle.std.proofs.Common.{◌≡◌, ◌⊎◌, inl, inr, ℕ, zero, suc, ◌≤◌, Bool, true, false, List, [], ◌∷◌, length, Option, Some, None, refl, sym, ap, ◌∙◌, subst, arith}
use Rattle.std.specs.Prelude.{if◌then◌else◌, Contains, IfSome, IsSome, is_some, option_map}
use Rattle.std.specs.List.{AllByRecursion}
use Rattle.nfs3_types.specs.declared.calls.NfsCall.{NfsCall}
use Rattle.nfs3_types.specs.declared.replies.Outcome.{Outcome}
use Rattle.nfs3_types.specs.declared.replies.Outcome.TheVariants.{Received, Taken}
use Rattle.nfs3_types.specs.Procedures.{failure_in}
use Rattle.nfs_history.specs.declared.knowing.KnownCalls.{KnownCalls}
use Rattle.certificate.specs.declared.plan.Certificate.{Certificate}
use Rattle.tree_starts.specs.declared.profile.Profile.{Profile}
use Rattle.tree_starts.specs.Start.{object_made}
use Rattle.tree_nodes.specs.Tree.{Names, Tree, entry_of}
use Rattle.tree_nodes.specs.declared.node.Node.{Node}
use Rattle.tree_handles.specs.Binding.{Bindings, object_of}
use Rattle.tree_answers.specs.Asked.{first_handle, second_handle}
use Rattle.file_tree.specs.Setting.{under}
use Rattle.alike_calls.specs.Alike.{entry_read_or_set, with_bytes}
use Rattle.alike_calls.proofs.Going.{bytes_filled}
use Rattle.alike_calls.proofs.Seen as seen
use Rattle.decision_core.specs.Layers.{Grows}
use Rattle.decision_core.proofs.Sets.{all_weaker}
use Rattle.decision_steps.specs.Known.{AgreesWith, NamesMore, is_failure, knows_handles}
use Rattle.decision_steps.specs.Standing.{Standing}
use Rattle.decision_steps.proofs.Unknown.{success_names}
use Rattle.decision_law.specs.Laws.{binds_of}
use Rattle.decision_law.specs.Machine.{Point}
use Rattle.decision_walk.specs.declared.open_writes.OpenWrite.{OpenWrite}
use Rattle.decision_walk.specs.View.{WalkView}
use Rattle.decision_walk.specs.Opening.{IsOpen, HasWritten, filled, open_at}
use Rattle.decision_walk.specs.Standing.{IsAt}
use Rattle.decision_walk.specs.Placings.{GoesOn, HasPlaced, HasTaken, HoldsAt, IsApart, MakesNoneOpen}
use Rattle.decision_walk.specs.Guessing.{IsGuessOf, HasGuess, HasGuessesOf, HasNamesMore, HasGuesses}
use Rattle.decision_walk.specs.Barring.{IsBarring}
use Rattle.decision_walk.proofs.Resolutions.{none_is_same, goes_apart}

-- ---- lists

pub all_contained : {X : Type 0} (P : X → Type 0) (xs : List X) (x : X) → Contains xs x → AllByRecursion P xs → P x
all_contained P [] x (k, inside, is) all = absurd (omega (arith, inside))
all_contained P (y ∷ ys) x (zero, inside, is) all = subst P is all.0
all_contained P (y ∷ ys) x (suc k, inside, is) all = all_contained P ys x (k, omega (arith, inside), is) all.1

-- ---- whether a plan has a handle of a call, which isn't bound, name an object that exists

module _ (binds plan : Bindings) (tree : Tree) (call : NfsCall) where
  abbrev Named : List ℕ → Type 0
  Named handle = (first_handle call ≡ handle) ⊎ (second_handle call ≡ Some handle)

  -- no record of more is of this handle
  abbrev IsNot : List ℕ → Type 0
  IsNot handle = (object : ℕ) → object_of binds handle ≡ None → object_of plan handle ≡ Some object → IsSome (entry_of tree object) → ⊥

  one_names : (handle : List ℕ) → Named handle → NamesMore binds plan tree call ⊎ IsNot handle
  one_names handle named = go (object_of binds handle) (object_of plan handle) refl refl where
    some_is : (a b : ℕ) → Some a ≡ Some b → a ≡ b
    some_is a b e = cc

    go : (o p : Option ℕ) → object_of binds handle ≡ o → object_of plan handle ≡ p → NamesMore binds plan tree call ⊎ IsNot handle
    go (Some bound) p here there = inr (λ object new names stands. absurd (cc (here, new)))
    go None None here there = inr (λ object new names stands. absurd (cc (there, names)))
    go None (Some named_one) here there = by (entry_of tree named_one) refl where
      by : (e : Option (Names × Node)) → entry_of tree named_one ≡ e → NamesMore binds plan tree call ⊎ IsNot handle
      by (Some e) is = inl (record { handle = handle; object = named_one; is_named = named; is_new = here; names = there; stands = subst IsSome (sym is) refl })
      by None is = inr (λ object new names stands. absurd (differ object names stands)) where
        differ : (object : ℕ) → object_of plan handle ≡ Some object → IsSome (entry_of tree object) → ⊥
        differ object names stands = none_is_some (subst IsSome (ap (entry_of tree) (some_is object named_one (sym names ∙ there)) ∙ is) stands) where
          none_is_some : IsSome {T = Names × Node} None → ⊥
          none_is_some e = absurd (cc)

  second_names : (o : Option (List ℕ)) → second_handle call ≡ o → NamesMore binds plan tree call ⊎ ((handle : List ℕ) → second_handle call ≡ Some handle → IsNot handle)
  second_names None is = inr (λ handle there. absurd (cc (is, there)))
  second_names (Some second) is = elim (one_names second (inr is)) [
    | inl more ↦ inl more
    | inr none ↦ inr (λ handle there. subst IsNot (same second handle (sym is ∙ there)) none)
  ] where
    same : (a b : List ℕ) → Some a ≡ Some b → a ≡ b
    same a b e = cc

  names_or_not : NamesMore binds plan tree call ⊎ (NamesMore binds plan tree call → ⊥)
  names_or_not = elim (one_names (first_handle call) (inl refl)) [
    | inl more ↦ inl more
    | inr first ↦ elim (second_names (second_handle call) refl) [
      | inl more ↦ inl more
      | inr second ↦ inr (λ more. none first second more more.is_named)
    ]
  ] where
    none : IsNot (first_handle call) → ((handle : List ℕ) → second_handle call ≡ Some handle → IsNot handle) → (more : NamesMore binds plan tree call) → Named more.handle → ⊥
    none first second more (inl is) = subst IsNot is first more.object more.is_new more.names more.stands
    none first second more (inr is) = second more.handle is more.object more.is_new more.names more.stands

-- ---- states in which a handle is bound

module _ (known : KnownCalls) where
  pub no_guess_wanted : (guesses : List WalkView) (state : WalkView) (handle : List ℕ) → (object_of state.binds handle ≡ None → ⊥) → HasGuessesOf known guesses state handle
  no_guess_wanted guesses state handle bound object new stands = absurd (bound new)

  pub guess_grows : (old new : List WalkView) (state : WalkView) (handle : List ℕ) → Grows old new → (object : ℕ) → HasGuess known old state handle object → HasGuess known new state handle object
  guess_grows old new state handle grows object (inl has) = inl (has.0, grows has.0 has.1, has.2)
  guess_grows old new state handle grows object (inr barred) = inr barred

  pub guesses_grow : (old new : List WalkView) (state : WalkView) (handle : List ℕ) → Grows old new → HasGuessesOf known old state handle → HasGuessesOf known new state handle
  guesses_grow old new state handle grows has object new_one stands = guess_grows old new state handle grows object (has object new_one stands)

  pub each_guessed : (guesses : List WalkView) (state : WalkView) (handle : List ℕ) (objects : List ℕ) → ((object : ℕ) → IsSome (entry_of state.tree object) → Contains objects object)
      → AllByRecursion (HasGuess known guesses state handle) objects → HasGuessesOf known guesses state handle
  each_guessed guesses state handle objects all_there all object new stands = all_contained (HasGuess known guesses state handle) objects object (all_there object stands) all

module _ (known : KnownCalls) (marks : List Bool) where
  -- a guess stands for the points of plans that have the handle name its object
  guess_at : (plan : Certificate) (gone : ℕ → Bool) (point : Point known) (state guess : WalkView) (handle : List ℕ) (object : ℕ) → IsGuessOf state handle object guess
      → object_of (binds_of known plan) handle ≡ Some object → IsAt known marks plan gone point state → IsAt known marks plan gone point guess
  guess_at plan gone point state guess handle object is names at = subst (IsAt known marks plan gone point) (sym is.rest) (record {
    counts = at.counts;
    binds = is.covers (binds_of known plan) at.binds names;
    era = at.era;
    past = at.past;
    tree = at.tree;
    base = at.base;
    placed = at.placed;
    answered = at.answered;
    barred = at.barred;
  })

  module _ (guesses : List WalkView) (state : WalkView) where
    chosen : (handle : List ℕ) → HasGuessesOf known guesses state handle → (plan : Certificate) (gone : ℕ → Bool) (point : Point known) → IsAt known marks plan gone point state → (object : ℕ)
        → object_of state.binds handle ≡ None → object_of (binds_of known plan) handle ≡ Some object → IsSome (entry_of state.tree object) → HoldsAt known marks guesses plan gone point
    chosen handle has plan gone point at object new names stands = go (has object new stands) where
      go : HasGuess known guesses state handle object → HoldsAt known marks guesses plan gone point
      go (inl guess) = (guess.0, guess.1, guess_at plan gone point state guess.0 handle object guess.2 names at)
      go (inr barred) = absurd (barred (binds_of known plan) at.barred names)

    pub first_guessed : (call : NfsCall) → HasGuessesOf known guesses state (first_handle call) → ((handle : List ℕ) → second_handle call ≡ Some handle → HasGuessesOf known guesses state handle)
        → HasGuesses known marks guesses state call
    first_guessed call first second plan gone point at more = go more.is_named where
      go : (first_handle call ≡ more.handle) ⊎ (second_handle call ≡ Some more.handle) → HoldsAt known marks guesses plan gone point
      go (inl is) = chosen more.handle (subst (HasGuessesOf known guesses state) is first) plan gone point at more.object more.is_new more.names more.stands
      go (inr is) = chosen more.handle (second more.handle is) plan gone point at more.object more.is_new more.names more.stands

  -- where each plan by which the call goes on names more, the guesses have all to which it may lead
  pub placed_in_guesses : (states guesses : List WalkView) (state : WalkView) (n : ℕ) (call : NfsCall) (outcome : Outcome) → HasNamesMore known marks state n call outcome
      → HasGuesses known marks guesses state call → AllByRecursion (λ guess. HasPlaced known marks states guess n call outcome) guesses → HasPlaced known marks states state n call outcome
  placed_in_guesses states guesses state n call outcome more has all plan gone point after at inside kept comes =
      let held = has plan gone point at (more plan gone point at inside comes.tree comes.goes) in
      all_contained (λ guess. HasPlaced known marks states guess n call outcome) guesses held.0 held.1 all plan gone point after held.2 inside kept comes

  -- ---- which calls ask for an object

  -- an object that exists once open WRITEs are in the tree exists without them
  exists_too : (binds : Bindings) (counts : ℕ → ℕ) (writes : List OpenWrite) (tree other : Tree) (object : ℕ) → HasWritten known binds counts writes tree other
      → IsSome (entry_of other object) → IsSome (entry_of tree object)
  exists_too binds counts writes tree other object has stands =
      go _ (entry_of tree object) (subst IsSome (seen.stands (with_bytes bytes) (bytes_filled bytes).0 tree other has.alike object) stands) where
        bytes : ℕ → List ℕ → List ℕ
        bytes = filled known counts writes

        go : (f : Names × Node → Names × Node) (o : Option (Names × Node)) → IsSome (option_map f o) → IsSome o
        go f None is = is
        go f (Some e) is = refl

  pub success_asks : (state : WalkView) (n : ℕ) (call : NfsCall) (outcome : Outcome) → knows_handles state.binds call ≡ false → is_failure outcome ≡ false → HasNamesMore known marks state n call outcome
  success_asks state n call outcome knows is plan gone point at inside after goes =
      let more = success_names known.head.profile state.binds (binds_of known plan) point.tree after (object_made (length known.head.start) n) call outcome at.binds goes knows is in
      record {
        handle = more.handle;
        object = more.object;
        is_named = more.is_named;
        is_new = more.is_new;
        names = more.names;
        stands = exists_too (binds_of known plan) at.counts state.writes state.tree point.tree more.object (at.tree inside) more.stands;
      }

  -- a failure comes to no file
  failure_apart : (state : WalkView) (call : NfsCall) (outcome : Outcome) → is_failure outcome ≡ true → IsApart state call outcome
  failure_apart state call (Taken count) is plan agrees = absurd (cc)
  failure_apart state call (Received reply) is plan agrees = go (is_some (failure_in reply)) is where
    go : (b : Bool) → b ≡ true → IfSome (option_map {T = Names × Node} (λ e. e.1.object) (if b then None else entry_read_or_set plan state.tree call)) (λ object. open_at state.writes object ≡ None)
    go true e = tt
    go false e = absurd (cc)

  -- so it goes on in the tree without the open WRITEs
  goes_without : (state : WalkView) (n : ℕ) (call : NfsCall) (outcome : Outcome) → IsApart state call outcome → MakesNoneOpen known state n → (plan : Certificate) (gone : ℕ → Bool) (point : Point known)
      → IsAt known marks plan gone point state → point.era ≤ known.eras → (after : Tree) → GoesOn known plan point.tree n call outcome after
      → (other : Tree) × GoesOn known plan state.tree n call outcome other
  goes_without state n call outcome apart fresh plan gone point at inside after leads = go state.writes refl where
    binds : Bindings
    binds = binds_of known plan

    number : ℕ
    number = object_made (length known.head.start) n

    has : HasWritten known binds at.counts state.writes state.tree point.tree
    has = at.tree inside

    go : (writes : List OpenWrite) → state.writes ≡ writes → (other : Tree) × GoesOn known plan state.tree n call outcome other
    go [] is =
        let same : point.tree ≡ state.tree = none_is_same known binds at.counts state.tree point.tree (subst (λ ws. HasWritten known binds at.counts ws state.tree point.tree) is has) in
        (after, subst (λ t. GoesOn known plan t n call outcome after) same leads)
    go (w ∷ writes) is =
        let plain = (subst (AllByRecursion (IsOpen known binds at.counts)) is has.each).0.plain in
        let it = goes_apart known binds at.counts state.writes state.tree point.tree after number call outcome (apart binds at.binds) fresh has
        (subst (λ p. under p binds point.tree number call outcome ≡ Some after) plain leads) in
        (it.0, subst (λ p. under p binds state.tree number call outcome ≡ Some it.0) (sym plain) it.1)

  pub refused_asks : (state : WalkView) (stands : Standing) → state.tree ≡ stands.tree → state.binds ≡ stands.binds → (n object : ℕ) → object ≡ object_made (length known.head.start) n
      → (profile : Profile) → profile ≡ known.head.profile → (call : NfsCall) (outcome : Outcome) → is_failure outcome ≡ true → MakesNoneOpen known state n
      → ((plan : Bindings) (after : Tree) → AgreesWith stands.binds plan → under profile plan stands.tree object call outcome ≡ Some after → NamesMore stands.binds plan stands.tree call)
      → HasNamesMore known marks state n call outcome
  refused_asks state stands tree binds n object made profile profile_is call outcome is fresh more plan gone point at inside after leads =
      let here = goes_without state n call outcome (failure_apart state call outcome is) fresh plan gone point at inside after leads in
      let goes : under profile (binds_of known plan) stands.tree object call outcome ≡ Some here.0 =
      ap (λ p. under p (binds_of known plan) stands.tree object call outcome) profile_is
      ∙ ap (λ t. under known.head.profile (binds_of known plan) t object call outcome) (sym tree)
      ∙ ap (λ o. under known.head.profile (binds_of known plan) state.tree o call outcome) made ∙ here.1 in
      let found = more (binds_of known plan) here.0 (subst (λ b. AgreesWith b (binds_of known plan)) binds at.binds) goes in
      subst (λ b. NamesMore b (binds_of known plan) state.tree call) (sym binds) (subst (λ t. NamesMore stands.binds (binds_of known plan) t call) (sym tree) found)

  -- ---- a WRITE that is taken without a reply

  pub taken_in_guesses : (states guesses : List WalkView) (state : WalkView) (n : ℕ) (call : NfsCall) → knows_handles state.binds call ≡ false → HasGuesses known marks guesses state call
      → AllByRecursion (λ guess. HasTaken known marks states guess n call) guesses → HasTaken known marks states state n call
  taken_in_guesses states guesses state n call knows has all count may =
      placed_in_guesses states guesses state n call (Taken count) (success_asks state n call (Taken count) knows refl) has
      (all_weaker (λ guess. HasTaken known marks states guess n call) (λ guess. HasPlaced known marks states guess n call (Taken count)) (λ guess taken. taken count may) guesses all)

  -- ---- a call that fits whether its handles name objects that exist or not

  -- a state with bars stands for the points of plans that name no more
  barred_at : (state after : WalkView) (call : NfsCall) → IsBarring known state call after → (plan : Certificate) (gone : ℕ → Bool) (point : Point known)
      → (NamesMore state.binds (binds_of known plan) state.tree call → ⊥) → IsAt known marks plan gone point state → IsAt known marks plan gone point after
  barred_at state after call is plan gone point none at = subst (IsAt known marks plan gone point) (sym is.rest) (record {
    counts = at.counts;
    binds = at.binds;
    era = at.era;
    past = at.past;
    tree = at.tree;
    base = at.base;
    placed = at.placed;
    answered = at.answered;
    barred = is.meets (binds_of known plan) at.barred none;
  })

  pub placed_in_either : (states guesses : List WalkView) (state after : WalkView) (n : ℕ) (call : NfsCall) (outcome : Outcome) → HasGuesses known marks guesses state call
      → AllByRecursion (λ guess. HasPlaced known marks states guess n call outcome) guesses → IsBarring known state call after → HasPlaced known marks states after n call outcome
      → HasPlaced known marks states state n call outcome
  placed_in_either states guesses state after n call outcome has all is placed plan gone point next at inside kept comes =
      elim (names_or_not state.binds (binds_of known plan) state.tree call) [
        | inl more ↦ (let held = has plan gone point at more in
            all_contained (λ guess. HasPlaced known marks states guess n call outcome) guesses held.0 held.1 all plan gone point next held.2 inside kept comes)
        | inr none ↦ placed plan gone point next (barred_at state after call is plan gone point none at) inside kept comes
      ]
