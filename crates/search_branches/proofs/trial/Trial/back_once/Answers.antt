use Rattle.std.proofs.Common.{◌∙◌, sym, subst, append-nil}
use Rattle.tree_nodes.specs.Undo.{TakesBack}
use Rattle.replay_law.specs.Undone.{UndoesAll}
use Rattle.replay_law.proofs.Undos.{last_undone}
use Rattle.search_branches.proofs.trial.Trial.back_once.Goals as goal

pub undo-requires : goal.undo-requires
undo-requires c =
    let all = subst (λ us. UndoesAll TakesBack us c.self.inside.tree c.self.invariant.0) c.in-Some.ensures.items c.self.invariant.1 in
    let last = last_undone TakesBack c.pop.new.self.items c.in-Some.undo c.self.inside.tree c.self.invariant.0 all in
    (last.0, last.1)

pub invariant_of-result : goal.invariant_of-result
invariant_of-result c =
    let all = subst (λ us. UndoesAll TakesBack us c.self.inside.tree c.self.invariant.0) c.in-Some.ensures.items c.self.invariant.1 in
    let last = last_undone TakesBack c.pop.new.self.items c.in-Some.undo c.self.inside.tree c.self.invariant.0 all in
    (c.self.invariant.0, subst (λ tree. UndoesAll TakesBack c.pop.new.self.items tree c.self.invariant.0) (sym (c.in_ok-undo-in-Some.ensures last.0 last.1)) last.2)

pub invariant_of-result-in-None : goal.invariant_of-result-in-None
invariant_of-result-in-None c =
    (c.self.invariant.0, subst (λ us. UndoesAll TakesBack us c.self.inside.tree c.self.invariant.0) (c.in-None.ensures.items ∙ append-nil c.pop.new.self.items) c.self.invariant.1)
