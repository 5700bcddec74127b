use Rattle.std.proofs.Common.{◌≡◌, ◌∙◌, List, [], ◌∷◌, ◌++◌, sym, ap, subst}
use Rattle.tree_nodes.specs.declared.undo.Undo.{Undo}
use Rattle.tree_nodes.specs.Tree.{Tree}
use Rattle.tree_nodes.specs.Undo.{TakesBack}
use Rattle.replay_law.specs.Undone.{UndoesAll}
use Rattle.replay_law.proofs.Undos.{one_more_undone}
use Rattle.search_branches.proofs.trial.Trial.step.Goals as goal

-- the same tree behind the same steps
stays : (old new : List Undo) (before after : Tree) → ((base : Tree) × UndoesAll TakesBack old before base) → new ≡ old → after ≡ before
    → (base : Tree) × UndoesAll TakesBack new after base
stays old new before after has undos tree =
    (has.0, subst (λ us. UndoesAll TakesBack us after has.0) (sym undos) (subst (λ t. UndoesAll TakesBack old t has.0) (sym tree) has.1))

pub invariant_of-self : goal.invariant_of-self
invariant_of-self c =
    (c.self.invariant.0, subst (λ us. UndoesAll TakesBack us c.self.inside.tree c.self.invariant.0) (sym c.in_err-reserve.ensures.items) c.self.invariant.1)

pub invariant_of-self-in-Ok : goal.invariant_of-self-in-Ok
invariant_of-self-in-Ok c =
    let pushed = rw c.unwrap.ensures at c.push.ensures.items in
    let more : c.push.new.self.items ≡ c.self.inside.undos.items ++ c.in-Ok.undo ∷ [] = pushed ∙ ap (λ us. us ++ c.in-Ok.undo ∷ []) c.in_ok-reserve.ensures.items in (
      c.self.invariant.0,
      subst (λ us. UndoesAll TakesBack us c.step_under.new.self c.self.invariant.0) (sym more)
          (one_more_undone TakesBack c.self.inside.undos.items c.in-Ok.undo c.step_under.new.self c.self.inside.tree c.self.invariant.0 c.self.invariant.1 c.in-Ok.ensures.undo),
    )

pub invariant_of-self-in-Err-NotAllowed : goal.invariant_of-self-in-Err-NotAllowed
invariant_of-self-in-Err-NotAllowed c =
    stays c.self.inside.undos.items c.reserve.new.self.items c.self.inside.tree c.step_under.new.self c.self.invariant c.in_ok-reserve.ensures.items c.in-Err-NotAllowed.ensures.err

pub invariant_of-self-in-Err-NoMemory : goal.invariant_of-self-in-Err-NoMemory
invariant_of-self-in-Err-NoMemory c =
    stays c.self.inside.undos.items c.reserve.new.self.items c.self.inside.tree c.step_under.new.self c.self.invariant c.in_ok-reserve.ensures.items c.in-Err-NoMemory.ensures.err
