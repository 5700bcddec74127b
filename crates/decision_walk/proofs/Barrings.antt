-- which objects handles that aren't bound don't name
use Rattle.std.proofs.Common.{◌≡◌, ℕ, zero, suc, ◌<◌, List, [], ◌∷◌, ◌++◌, length, get_or, Some, None, sym, ap, subst, ◌∙◌, arith}
use Rattle.std.specs.Prelude.{IsSome, option_and_then}
use Rattle.std.specs.List.{AllByRecursion}
use Rattle.nfs3_types.specs.declared.calls.NfsCall.{NfsCall}
use Rattle.nfs_history.specs.declared.knowing.KnownCalls.{KnownCalls}
use Rattle.tree_nodes.specs.Tree.{entry_of}
use Rattle.tree_handles.specs.Binding.{object_of}
use Rattle.decision_core.proofs.Sets.{all_push}
use Rattle.decision_walk.specs.declared.bars.Bar.{Bar}
use Rattle.decision_walk.specs.View.{WalkView}
use Rattle.decision_walk.specs.Opening.{call_of_history}
use Rattle.decision_walk.specs.Bars.{handle_at, barred_handle, IsBarred, AreBarred}
use Rattle.decision_walk.specs.Barring.{IsNamed, KeepsBars}

-- what all are one of them is
pub one_of : {X : Type 0} (P : X → Type 0) (xs : List X) (i : ℕ) (d : X) → i < length xs → AllByRecursion P xs → P (get_or xs i d)
one_of P [] i d inside all = absurd (omega (arith, inside))
one_of P (x ∷ xs) zero d inside all = all.0
one_of P (x ∷ xs) (suc i) d inside all = one_of P xs i d (omega (arith, inside)) all.1

module _ (known : KnownCalls) (state : WalkView) (call : NfsCall) where
  pub bars_stay : (bars : List Bar) → KeepsBars known state call bars bars
  bars_stay bars binds met none are = are

  pub bars_then : (one two three : List Bar) → KeepsBars known state call one two → KeepsBars known state call two three → KeepsBars known state call one three
  bars_then one two three first second binds met none are = second binds met none (first binds met none are)

  pub one_bar : (bars new : List Bar) (bar : Bar) (handle : List ℕ) → new ≡ bars ++ bar ∷ [] → call_of_history known bar.call ≡ Some call → handle_at bar.is_second call ≡ Some handle → IsNamed call handle
      → object_of state.binds handle ≡ None → IsSome (entry_of state.tree bar.object) → KeepsBars known state call bars new
  one_bar bars new bar handle is stands at named free exists binds met none are =
      subst (AreBarred known binds) (sym is) (all_push (IsBarred known binds) bars bar are (λ other is_other names.
      none (record { handle = handle; object = bar.object; is_named = named; is_new = free; names = subst (λ h. object_of binds h ≡ Some bar.object) (same other is_other) names; stands = exists }))) where
        some_is : (a b : List ℕ) → Some a ≡ Some b → a ≡ b
        some_is a b e = cc

        turned : barred_handle known bar ≡ Some handle
        turned = ap (option_and_then (handle_at bar.is_second)) stands ∙ at

        same : (other : List ℕ) → barred_handle known bar ≡ Some other → other ≡ handle
        same other is_other = some_is other handle (sym is_other ∙ turned)
