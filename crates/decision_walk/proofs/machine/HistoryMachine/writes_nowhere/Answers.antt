use Rattle.std.proofs.Common.{◌≡◌, Some, None, sym, ap, ◌∙◌, rules}
use Rattle.std.specs.Prelude.{IsSome, option_map}
use Rattle.tree_handles.specs.Binding.{object_of}
use Rattle.tree_handles.specs.Live.{file_of}
use Rattle.decision_walk.specs.Opening.{write_in}
use Rattle.decision_walk.proofs.CountingLaws.{none_is, unmapped, nowhere_taken}
use Rattle.decision_walk.proofs.machine.HistoryMachine.writes_nowhere.Goals as goal

pub returns : goal.returns
returns c = λ is states.
    let known = c.args.self.now.history.now.known in
    let marks = c.args.self.now.marks.items in
    let state = c.args.state.now in
    let write = c.in-Some.write.now in
    let written : write_in c.args.call.now ≡ Some write = search rules in
    let bound : IsSome (object_of state.binds write.file) = search rules in
    let here : file_of c.view_of-view.result.binds.now c.view_of-view.result.nodes.now write.file ≡ file_of state.binds state.tree write.file = search rules in
    let gone = none_is c.file_of.result (search rules) in
    let none : file_of state.binds state.tree write.file ≡ None = sym here ∙ unmapped _ _ (sym c.file_of.ensures.file ∙ ap (option_map _) gone) in
    nowhere_taken known marks states state c.args.n c.args.call.now write written bound none (c.makes_open.ensures (search rules)) (c.is_apart.ensures is)
