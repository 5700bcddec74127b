-- the parts of a step put together
use Rattle.std.proofs.Common.{◌≡◌, inl, inr, ℕ, ◌+◌, ◌≤◌, Bool, true, List, Option, Some, None, Result, Ok, Err, IfOk, sym, ◌∙◌, subst, arith}
use Rattle.std.specs.Prelude.{Contains}
use Rattle.std.proofs.lemmas.Bool.{cases_order}
use Rattle.nfs3_types.specs.declared.calls.NfsCall.{NfsCall}
use Rattle.nfs3_types.specs.declared.replies.Outcome.{Outcome}
use Rattle.nfs3_types.specs.declared.replies.Outcome.TheVariants.{Taken}
use Rattle.nfs_history.specs.declared.recorded.Meaning.TheVariants as meanings
use Rattle.nfs_history.specs.declared.recorded.RecordedCall.{RecordedCall}
use Rattle.nfs_history.specs.declared.knowing.KnownCalls.{KnownCalls}
use Rattle.order_check.specs.Places.{may_take}
use Rattle.decision_core.specs.Layers.{Grows}
use Rattle.decision_law.specs.Machine.{MayComeOut}
use Rattle.decision_steps.specs.Standing.{Standing}
use Rattle.decision_walk.specs.declared.open_writes.OpenWrite.{OpenWrite}
use Rattle.decision_walk.specs.View.{WalkView}
use Rattle.decision_walk.specs.Placings.{kept_of, child_of, CoversPoints, HasChildren, HasPlaced, HasCounts, HasTaken, HasAllOf, MayNotLose}

-- what is said of a call's answer, said in other words
pub if_ok : {A E : Type 0} (r : Result A E) (P Q : A → Type 0) → ((x : A) → P x → Q x) → IfOk r P → IfOk r Q
if_ok (Ok x) P Q f p = f x p
if_ok (Err e) P Q f p = p

module _ (known : KnownCalls) where
  module _ (marks : List Bool) where
    pub placed_kept : (old new : List WalkView) (state : WalkView) (n : ℕ) (call : NfsCall) (outcome : Outcome) → Grows old new → HasPlaced known marks old state n call outcome
        → HasPlaced known marks new state n call outcome
    placed_kept old new state n call outcome grows has plan gone point after at inside kept comes = let found = has plan gone point after at inside kept comes in (found.0, grows found.0 found.1, found.2)

    pub none_placed : (states : List WalkView) (state : WalkView) (n : ℕ) (call : NfsCall) (outcome : Outcome) → CoversPoints known marks state n call outcome None
        → HasPlaced known marks states state n call outcome
    none_placed states state n call outcome none plan gone point after at inside kept comes = absurd (none plan gone point at inside comes.tree comes.goes)

    -- ---- the children

    pub with_base : (states : List WalkView) (state : WalkView) (n : ℕ) (next : Standing) (writes : List OpenWrite) → (state.base ≡ None → ⊥) → Contains states (child_of state next writes state.base n)
        → HasChildren known marks states state n next writes
    with_base states state n next writes some child = (child, λ none early. absurd (some none))

    pub in_last_era : (states : List WalkView) (state : WalkView) (n : ℕ) (next : Standing) (writes : List OpenWrite) → known.eras ≤ state.era
        → Contains states (child_of state next writes state.base n) → HasChildren known marks states state n next writes
    in_last_era states state n next writes last child = (child, λ none early. absurd (omega (arith, last, early)))

    pub never_lost : (states : List WalkView) (state : WalkView) (n : ℕ) (next : Standing) (writes : List OpenWrite) → MayNotLose known marks state n
        → Contains states (child_of state next writes state.base n) → HasChildren known marks states state n next writes
    never_lost states state n next writes stays child = (child, λ none early. inl stays)

    pub as_first_lost : (old new : List WalkView) (state : WalkView) (n : ℕ) (next : Standing) (writes : List OpenWrite) → Grows old new → Contains old (child_of state next writes state.base n)
        → Contains new (child_of state next writes (Some (kept_of state)) n) → HasChildren known marks new state n next writes
    as_first_lost old new state n next writes grows child lost = (grows (child_of state next writes state.base n) child, λ none early. inr lost)

    -- ---- calls that are taken

    pub no_counts : (states : List WalkView) (state : WalkView) (n : ℕ) (call : NfsCall) → HasCounts known marks states state n call 0
    no_counts states state n call count below = absurd (omega (arith, below))

    pub one_count : (old new : List WalkView) (state : WalkView) (n : ℕ) (call : NfsCall) (count : ℕ) → Grows old new → HasCounts known marks old state n call count
        → HasPlaced known marks new state n call (Taken (Some count)) → HasCounts known marks new state n call (count + 1)
    one_count old new state n call count grows so_far here k below = elim (cases_order k count) [
      | inl same ↦ subst (λ j. HasPlaced known marks new state n call (Taken (Some j))) (sym same) here
      | inr other ↦ elim other [
        | inl ahead ↦ placed_kept old new state n call (Taken (Some k)) grows (so_far k ahead)
        | inr behind ↦ absurd (omega (arith, below, behind))
      ]
    ]

    -- ---- calls, however they came out

    pub unjudged : (states : List WalkView) (state : WalkView) (n : ℕ) (recorded : RecordedCall) → recorded.meaning ≡ meanings.Unjudged → HasAllOf known marks states state n recorded
    unjudged states state n recorded is call outcome judged came = absurd (differ (sym is ∙ judged)) where
      differ : meanings.Unjudged ≡ meanings.Judged call → ⊥
      differ e = cc

    pub by_reply : (states : List WalkView) (state : WalkView) (n : ℕ) (call : NfsCall) (answer : Option Outcome) (outcome : Outcome) → answer ≡ Some outcome → HasPlaced known marks states state n call outcome
        → (other : Outcome) → answer ≡ Some other → HasPlaced known marks states state n call other
    by_reply states state n call answer outcome is has other also = subst (λ o. HasPlaced known marks states state n call o) (same outcome other (sym is ∙ also)) has where
      same : (a b : Outcome) → Some a ≡ Some b → a ≡ b
      same a b e = cc

    pub no_reply : (states : List WalkView) (state : WalkView) (n : ℕ) (call : NfsCall) (answer : Option Outcome) → answer ≡ None → (other : Outcome) → answer ≡ Some other
        → HasPlaced known marks states state n call other
    no_reply states state n call answer none other also = absurd (differ (sym none ∙ also)) where
      differ : None ≡ Some other → ⊥
      differ e = cc

    pub all_parts : (states : List WalkView) (state : WalkView) (n : ℕ) (recorded : RecordedCall) (call : NfsCall) → recorded.meaning ≡ meanings.Judged call
        → ((outcome : Outcome) → recorded.outcome ≡ Some outcome → HasPlaced known marks states state n call outcome) → (recorded.«end» ≡ None → HasTaken known marks states state n call)
        → HasAllOf known marks states state n recorded
    all_parts states state n recorded call is answered taken other outcome judged came =
        subst (λ k. HasPlaced known marks states state n k outcome) (same call other (sym is ∙ judged)) (go came) where
          same : (a b : NfsCall) → meanings.Judged a ≡ meanings.Judged b → a ≡ b
          same a b e = cc

          go : MayComeOut recorded outcome → HasPlaced known marks states state n call outcome
          go (inl answer) = answered outcome answer
          go (inr (count, open_end, may, is_taken)) =
              subst (λ o. HasPlaced known marks states state n call o) (sym is_taken) (taken open_end count (subst (λ m. may_take m count ≡ true) is may))
