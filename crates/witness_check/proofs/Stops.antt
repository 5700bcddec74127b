-- Where a run of steps stops that has more behind it, or ahead of it.
use Rattle.std.proofs.Common.{◌≡◌, ℕ, List, [], ◌∷◌, ◌++◌, Option, Some, sym, ap, ◌∙◌, subst, append_assoc}
use Rattle.std.specs.Prelude.{IsSome}
use Rattle.nfs3_types.specs.declared.calls.NfsCall.{NfsCall}
use Rattle.nfs3_types.specs.declared.replies.Outcome.{Outcome}
use Rattle.replay_law.specs.Run.{TakenStep, state_after}
use Rattle.replay_law.proofs.Crashes.{from_base}
use Rattle.tree_nodes.specs.Tree.{Tree}
use Rattle.witness_check.specs.Stop.{IsFirstStop}

module _ (next : Tree → ℕ → NfsCall → Outcome → Option Tree) (base : Tree) where
  -- where a front stops, the whole does
  pub stop_of_front : (xs ys : List (TakenStep NfsCall Outcome)) (n : ℕ) (tree : Tree) → IsFirstStop next base xs n tree → IsFirstStop next base (xs ++ ys) n tree
  stop_of_front xs ys n tree h = record {
    first = record {
      ahead = h.first.ahead;
      stuck = h.first.stuck;
      behind = h.first.behind ++ ys;
      parts = ap (λ zs. zs ++ ys) h.first.parts ∙ append_assoc h.first.ahead (h.first.stuck ∷ h.first.behind) ys;
      runs = h.first.runs;
      stops = h.first.stops;
      named = h.first.named;
    };
    there = h.there;
  }

  -- and so it does where what stands behind a front that runs stops
  pub stop_behind : (middle : Tree) (xs ys : List (TakenStep NfsCall Outcome)) (n : ℕ) (tree : Tree) → state_after next base xs ≡ Some middle
      → IsFirstStop next middle ys n tree → IsFirstStop next base (xs ++ ys) n tree
  stop_behind middle xs ys n tree reached h = record {
    first = record {
      ahead = xs ++ h.first.ahead;
      stuck = h.first.stuck;
      behind = h.first.behind;
      parts = ap (λ zs. xs ++ zs) h.first.parts ∙ sym (append_assoc xs h.first.ahead (h.first.stuck ∷ h.first.behind));
      runs = subst IsSome (sym (from_base next base middle xs h.first.ahead reached)) h.first.runs;
      stops = ap (state_after next base) (append_assoc xs h.first.ahead (h.first.stuck ∷ [])) ∙ from_base next base middle xs (h.first.ahead ++ h.first.stuck ∷ []) reached ∙ h.first.stops;
      named = h.first.named;
    };
    there = from_base next base middle xs h.first.ahead reached ∙ h.there;
  }
