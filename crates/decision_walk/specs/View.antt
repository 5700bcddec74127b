-- For the prover, and for callers.
-- What a contract sees of a state of the walk (a form of this project's own).
use Rattle.std.specs.Prelude.{ℕ, Bool, List, Option, Some, refl}
use Rattle.std.specs.Coded.{Coded, code_by, coded×, coded_list, coded_option, coded_bool, coded_ℕ}
use Rattle.tree_nodes.specs.Tree.{Tree}
use Rattle.tree_handles.specs.Binding.{Bindings}
use Rattle.decision_core.specs.States.{ComeOf}
use Rattle.decision_core.specs.Layers.{Grows}
use Rattle.decision_steps.specs.Standing.{tree_code, bindings_code}
use Rattle.decision_walk.specs.declared.bars.Bar.{Bar}
use Rattle.decision_walk.specs.declared.open_writes.OpenWrite.{OpenWrite}

-- a tree, and the WRITEs of which it is open how many bytes they wrote: the tree is that without them; and the tree and the handles that it is
-- compared by
pub record KeptView : Type 0 where
  pub tree : Tree
  pub writes : List OpenWrite
  pub origin : Tree × Bindings

-- the tree, the WRITEs that are open in it, the handles that are bound, what the era's crash goes back to once a call is lost, the era,
-- from which era on the calls are listed that are placed (earlier ones count as placed), these calls, by which event each forgotten
-- call was answered, which objects handles that aren't bound don't name, and the tree and the handles that it is compared by
pub record WalkView : Type 0 where
  pub tree : Tree
  pub writes : List OpenWrite
  pub binds : Bindings
  pub base : Option KeptView
  pub era : ℕ
  pub past : ℕ
  pub placed : List ℕ
  pub answered_to : ℕ
  pub barred : List Bar
  pub origin : Tree × Bindings

-- all of these states are compared by this
abbrev pub AllOf : Tree × Bindings → List WalkView → Type 0
AllOf origin states = ComeOf (λ (s : WalkView). s.origin) (Some origin) states

-- the second list has all that the first has, and all of its states are compared by this if those of the first are
abbrev pub Adds : Tree × Bindings → List WalkView → List WalkView → Type 0
Adds origin old new = Grows old new × (AllOf origin old → AllOf origin new)

-- so it is by whatever all of these states are compared
abbrev pub AddsFrom : List WalkView → List WalkView → List WalkView → Type 0
AddsFrom from old new = Grows old new × ((origin : Tree × Bindings) → AllOf origin from → AllOf origin old → AllOf origin new)

-- ---- for the prover: how these are told apart

abbrev pub write_code : Coded OpenWrite
write_code = code_by (ℕ × (ℕ × (ℕ × ℕ))) (coded× coded_ℕ (coded× coded_ℕ (coded× coded_ℕ coded_ℕ))) (λ (w : OpenWrite). (w.call, (w.object, (w.least, w.most))))
    (λ p. record { call = p.0; object = p.1.0; least = p.1.1.0; most = p.1.1.1 }) (λ _. refl)

abbrev pub bar_code : Coded Bar
bar_code = code_by (ℕ × (Bool × ℕ)) (coded× coded_ℕ (coded× coded_bool coded_ℕ)) (λ (b : Bar). (b.call, (b.is_second, b.object))) (λ p. record { call = p.0; is_second = p.1.0; object = p.1.1 }) (λ _. refl)

abbrev pub origin_code : Coded (Tree × Bindings)
origin_code = coded× tree_code bindings_code

abbrev pub kept_code : Coded KeptView
kept_code = code_by (Tree × (List OpenWrite × (Tree × Bindings))) (coded× tree_code (coded× (coded_list write_code) origin_code)) (λ k. (k.tree, (k.writes, k.origin))) (λ p. record { tree = p.0; writes = p.1.0; origin = p.1.1 }) (λ _. refl)

abbrev pub view_code : Coded WalkView
view_code = code_by (Tree × (List OpenWrite × (Bindings × (Option KeptView × (ℕ × (ℕ × (List ℕ × (ℕ × (List Bar × (Tree × Bindings))))))))))
    (coded× tree_code (coded× (coded_list write_code) (coded× bindings_code (coded× (coded_option kept_code) (coded× coded_ℕ (coded× coded_ℕ (coded× (coded_list coded_ℕ) (coded× coded_ℕ (coded× (coded_list bar_code) origin_code)))))))))
    (λ v. (v.tree, (v.writes, (v.binds, (v.base, (v.era, (v.past, (v.placed, (v.answered_to, (v.barred, v.origin))))))))))
    (λ p. record { tree = p.0; writes = p.1.0; binds = p.1.1.0; base = p.1.1.1.0; era = p.1.1.1.1.0; past = p.1.1.1.1.1.0; placed = p.1.1.1.1.1.1.0; answered_to = p.1.1.1.1.1.1.1.0; barred = p.1.1.1.1.1.1.1.1.0; origin = p.1.1.1.1.1.1.1.1.1 }) (λ _. refl)
