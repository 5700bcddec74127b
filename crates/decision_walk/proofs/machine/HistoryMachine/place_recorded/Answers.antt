use Rattle.std.proofs.Common.{◌≡◌, true, sym, ap, ◌∙◌, is_some, rules}
use Rattle.std.proofs.lemmas.Bool.{true≢false}
use Rattle.nfs_history.specs.declared.recorded.Meaning.TheVariants as meanings
use Rattle.decision_walk.specs.Placings.{HasTaken, HasAllOf}
use Rattle.decision_walk.proofs.StepLaws.{if_ok, placed_kept, all_parts}
use Rattle.decision_walk.specs.View.{Adds}
use Rattle.decision_walk.proofs.Origins.{adds_on}
use Rattle.decision_walk.proofs.machine.HistoryMachine.place_recorded.Goals as goal

pub returns-then-is_some : goal.returns-then-is_some
returns-then-is_some c =
    let recorded = c.args.recorded.now in
    let judged : recorded.meaning ≡ meanings.Judged c.in-Judged.call = search rules in
    let ended : is_some recorded.«end» ≡ true = search rules in (
      c.in_ok-place_answered.ensures.0,
      all_parts c.args.self.now.history.now.known c.args.self.now.marks.items c.place_answered.new.states.items c.args.state.now c.args.n recorded c.in-Judged.call judged c.in_ok-place_answered.ensures.1
          (λ none. absurd (true≢false (sym ended ∙ ap is_some none))),
    )

pub returns : goal.returns
returns c =
    let known = c.args.self.now.history.now.known in
    let marks = c.args.self.now.marks.items in
    let recorded = c.args.recorded.now in
    let call = c.in-Judged.call in
    let state = c.args.state.now in
    let middle = c.place_answered.new.states.items in
    let new = c.place_taken.new.states.items in
    let judged : recorded.meaning ≡ meanings.Judged call = search rules in
    if_ok c.place_taken.result (λ _. Adds state.origin middle new × HasTaken known marks new state c.args.n call) (λ _. Adds state.origin c.args.states.now.items new × HasAllOf known marks new state c.args.n recorded)
    (λ _ found. (
      adds_on state.origin c.args.states.now.items middle new c.in_ok-place_answered.ensures.0 found.0,
      all_parts known marks new state c.args.n recorded call judged
          (λ outcome is. placed_kept known marks middle new state c.args.n call outcome found.0.0 (c.in_ok-place_answered.ensures.1 outcome is)) (λ _. found.1),
    ))
    c.place_taken.ensures
