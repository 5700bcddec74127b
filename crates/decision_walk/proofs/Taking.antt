-- how a call may be taken that had no reply
use Rattle.std.proofs.Common.{◌≡◌, ℕ, ◌+◌, ◌≤◌, Bool, true, false, List, length, Option, Some, None, refl, sym, subst, arith}
use Rattle.std.proofs.lemmas.Bool.{leb-true}
use Rattle.nfs3_types.specs.declared.calls.NfsCall.{NfsCall}
use Rattle.nfs3_types.specs.declared.calls.NfsCall.TheVariants as calls
use Rattle.nfs3_types.specs.declared.replies.Outcome.TheVariants.{Taken}
use Rattle.nfs_history.specs.declared.recorded.Meaning.TheVariants as meanings
use Rattle.nfs_history.specs.declared.knowing.KnownCalls.{KnownCalls}
use Rattle.order_check.specs.Places.{may_take}
use Rattle.decision_walk.specs.View.{WalkView}
use Rattle.decision_walk.specs.Settling.{may_change}
use Rattle.decision_walk.specs.Placings.{bytes_brought, HasPlaced, HasCounts, HasTaken}

-- a call that only looks is never taken
never_taken : (call : NfsCall) (count : Option ℕ) → may_change call ≡ false → may_take (meanings.Judged call) count ≡ true → ⊥
never_taken (calls.GetAttr object) count is may = absurd (cc)
never_taken (calls.SetAttr call) count is may = absurd (cc)
never_taken (calls.Lookup place) count is may = absurd (cc)
never_taken (calls.ReadLink link) count is may = absurd (cc)
never_taken (calls.Read call) count is may = absurd (cc)
never_taken (calls.Write call) count is may = absurd (cc)
never_taken (calls.Create call) count is may = absurd (cc)
never_taken (calls.MkDir call) count is may = absurd (cc)
never_taken (calls.SymLink call) count is may = absurd (cc)
never_taken (calls.Remove place) count is may = absurd (cc)
never_taken (calls.RmDir place) count is may = absurd (cc)
never_taken (calls.Rename call) count is may = absurd (cc)
never_taken (calls.ReadDir call) count is may = absurd (cc)
never_taken (calls.ReadDirPlus call) count is may = absurd (cc)
never_taken (calls.Commit call) count is may = absurd (cc)

-- one that is no WRITE is taken without a count
no_count : (call : NfsCall) (count : Option ℕ) → bytes_brought call ≡ None → may_take (meanings.Judged call) count ≡ true → count ≡ None
no_count call None is may = refl
no_count (calls.GetAttr object) (Some count) is may = absurd (cc)
no_count (calls.SetAttr call) (Some count) is may = absurd (cc)
no_count (calls.Lookup place) (Some count) is may = absurd (cc)
no_count (calls.ReadLink link) (Some count) is may = absurd (cc)
no_count (calls.Read call) (Some count) is may = absurd (cc)
no_count (calls.Write call) (Some count) is may = absurd (cc)
no_count (calls.Create call) (Some count) is may = absurd (cc)
no_count (calls.MkDir call) (Some count) is may = absurd (cc)
no_count (calls.SymLink call) (Some count) is may = absurd (cc)
no_count (calls.Remove place) (Some count) is may = absurd (cc)
no_count (calls.RmDir place) (Some count) is may = absurd (cc)
no_count (calls.Rename call) (Some count) is may = absurd (cc)
no_count (calls.ReadDir call) (Some count) is may = absurd (cc)
no_count (calls.ReadDirPlus call) (Some count) is may = absurd (cc)
no_count (calls.Commit call) (Some count) is may = absurd (cc)

-- a WRITE is taken with as many bytes as it brought, or fewer
some_count : (call : NfsCall) (count : Option ℕ) (most : ℕ) → bytes_brought call ≡ Some most → may_take (meanings.Judged call) count ≡ true → (k : ℕ) × (count ≡ Some k) × (k ≤ most)
some_count (calls.GetAttr object) count most is may = absurd (cc)
some_count (calls.SetAttr call) count most is may = absurd (cc)
some_count (calls.Lookup place) count most is may = absurd (cc)
some_count (calls.ReadLink link) count most is may = absurd (cc)
some_count (calls.Read call) count most is may = absurd (cc)
some_count (calls.Write call) None most is may = absurd (cc)
some_count (calls.Write call) (Some k) most is may =
    let same : length call.bytes ≡ most = some_is (length call.bytes) most is in
    (k, refl, subst (λ m. k ≤ m) same (leb-true k (length call.bytes) may)) where
      some_is : (a b : ℕ) → Some a ≡ Some b → a ≡ b
      some_is a b e = cc
some_count (calls.Create call) count most is may = absurd (cc)
some_count (calls.MkDir call) count most is may = absurd (cc)
some_count (calls.SymLink call) count most is may = absurd (cc)
some_count (calls.Remove place) count most is may = absurd (cc)
some_count (calls.RmDir place) count most is may = absurd (cc)
some_count (calls.Rename call) count most is may = absurd (cc)
some_count (calls.ReadDir call) count most is may = absurd (cc)
some_count (calls.ReadDirPlus call) count most is may = absurd (cc)
some_count (calls.Commit call) count most is may = absurd (cc)

module _ (known : KnownCalls) (marks : List Bool) (states : List WalkView) (state : WalkView) (n : ℕ) (call : NfsCall) where
  pub none_taken : may_change call ≡ false → HasTaken known marks states state n call
  none_taken is count may = absurd (never_taken call count is may)

  pub whole_taken : bytes_brought call ≡ None → HasPlaced known marks states state n call (Taken None) → HasTaken known marks states state n call
  whole_taken is has count may = subst (λ c. HasPlaced known marks states state n call (Taken c)) (sym (no_count call count is may)) has

  pub counts_taken : (most : ℕ) → bytes_brought call ≡ Some most → HasCounts known marks states state n call (most + 1) → HasTaken known marks states state n call
  counts_taken most is has count may =
      let found = some_count call count most is may in
      subst (λ c. HasPlaced known marks states state n call (Taken c)) (sym found.1) (has found.0 (omega (arith, found.2)))
