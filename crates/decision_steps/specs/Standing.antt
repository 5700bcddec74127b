-- Believed.
-- A state of a walk: the tree that its calls have led to, and the handles that are bound so far (a form of this project's own).
use Rattle.std.specs.Prelude.{ℕ, List, refl}
use Rattle.std.specs.Coded.{Coded, code_by, coded×, coded_list, coded_ℕ}
use Rattle.std.specs.FinMap as map
use Rattle.tree_nodes.specs.Tree.{Tree}
use Rattle.tree_nodes.specs.Codes.{node_code}
use Rattle.tree_handles.specs.Binding.{Bindings}

pub record Standing : Type 0 where
  pub tree : Tree
  pub binds : Bindings
  -- the tree and the handles that it is compared by, which say nothing of what it stands for
  pub origin : Tree × Bindings

-- ---- for the prover: how these are told apart

abbrev pub tree_code : Coded Tree
tree_code = map.code (coded_list (coded_list coded_ℕ)) node_code

abbrev pub bindings_code : Coded Bindings
bindings_code =
    code_by (List ℕ × List (List ℕ × ℕ)) (coded× (coded_list coded_ℕ) (coded_list (coded× (coded_list coded_ℕ) coded_ℕ))) (λ b. (b.root, b.pairs)) (λ p. record { root = p.0; pairs = p.1 }) (λ _. refl)

abbrev pub standing_code : Coded Standing
standing_code =
    code_by (Tree × (Bindings × (Tree × Bindings))) (coded× tree_code (coded× bindings_code (coded× tree_code bindings_code))) (λ s. (s.tree, (s.binds, s.origin))) (λ p. record { tree = p.0; binds = p.1.0; origin = p.1.1 })
    (λ _. refl)
