-- For the prover.
-- in what a state may differ from the one that it is compared by (a form of this project's own)
use Rattle.std.specs.Prelude.{◌≡◌, ◌⊎◌, ℕ, List, Option, Some, Contains, IsSome, refl}
use Rattle.std.specs.Coded.{Coded, code_by, coded×, coded_list, coded_ℕ}
use Rattle.tree_nodes.specs.Tree.{Tree}
use Rattle.tree_nodes.specs.Spots.{spot_of}
use Rattle.tree_handles.specs.Binding.{Bindings, object_of}
use Rattle.file_tree.specs.Touching.{IsOneOf}
use Rattle.decision_steps.specs.Standing.{tree_code, bindings_code}

-- a tree and handles that others are compared by too, the objects that may lie elsewhere or be others, and the handles that may name
-- something else
pub record DifferenceView : Type 0 where
  pub origin : Tree × Bindings
  pub objects : List ℕ
  pub handles : List (List ℕ)

-- all objects but these lie in both trees in the same place, and are the same
abbrev pub AreTheSameBut : List ℕ → Tree → Tree → Type 0
AreTheSameBut objects one other = (o : ℕ) → Contains objects o ⊎ (spot_of one o ≡ spot_of other o)

-- all handles but these name the same by both
abbrev pub NameTheSameBut : List (List ℕ) → Bindings → Bindings → Type 0
NameTheSameBut handles one other = (h : List ℕ) → Contains handles h ⊎ (object_of one h ≡ object_of other h)

-- a tree and handles differ from the origin in nothing else
abbrev pub DiffersIn : DifferenceView → Tree → Bindings → Type 0
DiffersIn difference tree binds = AreTheSameBut difference.objects tree difference.origin.0 × NameTheSameBut difference.handles binds difference.origin.1

-- each of these handles that is bound by the first names the same by the second
abbrev pub AgreesOn : List (List ℕ) → Bindings → Bindings → Type 0
AgreesOn handles one other = (h : List ℕ) → Contains handles h → (object : ℕ) → object_of one h ≡ Some object → object_of other h ≡ Some object

-- what is among the first is among the second
abbrev pub Keeps : {X : Type 0} → List X → List X → Type 0
Keeps old new = (x : _) → Contains old x → Contains new x

-- the second difference has besides the objects that a call touched, and those of the handles that it gave that weren't bound
pub record Notes (before : DifferenceView) (touched : Option ℕ × Option ℕ) (binds : Bindings) (pairs : List (List ℕ × ℕ)) (after : DifferenceView) : Type 0 where
  pub origin : after.origin ≡ before.origin
  pub objects : Keeps before.objects after.objects
  pub has : (o : ℕ) → IsOneOf touched o → Contains after.objects o
  pub handles : Keeps before.handles after.handles
  pub given : (pair : List ℕ × ℕ) → Contains pairs pair → Contains after.handles pair.0 ⊎ IsSome (object_of binds pair.0)

-- ---- for the prover: how these are told apart

abbrev pub difference_code : Coded DifferenceView
difference_code = code_by ((Tree × Bindings) × (List ℕ × List (List ℕ))) (coded× (coded× tree_code bindings_code) (coded× (coded_list coded_ℕ) (coded_list (coded_list coded_ℕ))))
    (λ d. (d.origin, (d.objects, d.handles))) (λ p. record { origin = p.0; objects = p.1.0; handles = p.1.1 }) (λ _. refl)
