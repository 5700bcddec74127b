use Rattle.std.proofs.Common.{◌++◌, [], ◌∷◌, take, option_map, sym, ap, ◌∙◌}
use Rattle.std.specs.Option.{option_to_list}
use Rattle.std.proofs.lemmas.List.Elements.{filter_map-append}
use Rattle.witness_check.specs.Run.{step_at, steps_of}
use Rattle.witness_check.specs.Running.{found_step, found_steps}
use Rattle.witness_check.proofs.Steps.{alone, more}
use Rattle.witness_check.proofs.run.find_steps.Goals as goal

pub loop-place-preserved : goal.loop-place-preserved
loop-place-preserved c =
    let calls = c.args.history.now.calls in
    let places = c.args.places.now in
    let i = c.loop-place.place-index in
    let before = c.loop-place.steps.items in
    let found = c.in_ok-found.found in
    let f = option_map found_step in
    ap found_steps c.in_ok-push.ensures.items ∙ filter_map-append f before (found ∷ []) ∙ ap (λ xs. found_steps before ++ xs) (alone f (f found))
    ∙ ap (λ xs. xs ++ option_to_list (f found)) c.loop-place.invariant ∙ ap (λ o. steps_of calls (take i places) ++ option_to_list o) c.in_ok-found.ensures
    ∙ sym (more (step_at calls) places i _ c.loop-place-test.true)
