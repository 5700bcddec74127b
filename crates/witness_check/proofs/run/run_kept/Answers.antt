use Rattle.std.proofs.Common.{◌≡◌, ◌++◌, refl, take, Err, sym, subst, ap, ◌∙◌, append_assoc, [], List, arith}
use Rattle.std.proofs.lemmas.Bool.Decides.{nat_tests}
use Rattle.std.proofs.lemmas.List.{append-nil, nil_from_length, take-append-drop}
use Rattle.std.proofs.lemmas.List.Elements.{filter_map-append}
use Rattle.std.proofs.lemmas.Result.{err_from_is_err_and}
use Rattle.nfs3_types.specs.declared.calls.NfsCall.{NfsCall}
use Rattle.nfs3_types.specs.declared.replies.Outcome.{Outcome}
use Rattle.certificate.specs.declared.plan.Place.{Place}
use Rattle.replay_law.specs.declared.run.RunFault.TheVariants.{Illegal}
use Rattle.replay_law.specs.Run.{TakenStep}
use Rattle.replay_law.proofs.Crashes.{from_base}
use Rattle.witness_check.specs.Run.{step_at, steps_of}
use Rattle.witness_check.specs.Running.{next_by, first_tree, Stands}
use Rattle.witness_check.specs.Stop.{IsFirstStop}
use Rattle.witness_check.proofs.Stops.{stop_of_front, stop_behind}
use Rattle.witness_check.proofs.run.run_kept.Goals as goal

pub loop-rest-init : goal.loop-rest-init
loop-rest-init c = ([], refl, λ kept s. subst (λ (steps : List (TakenStep NfsCall Outcome)). Stands c.args.rule.now c.args.replay.now steps []) (sym (append-nil kept)) s)

pub loop-rest-preserved : goal.loop-rest-preserved
loop-rest-preserved c =
    let calls = c.args.history.now.calls in
    let done = c.loop-rest.invariant.0 in
    let rest = c.loop-rest.rest.now in
    let n = c.min.result in
    let next = c.split_at.result.0.now in
    let behind = c.split_at.result.1.now in
    let joined : next ++ behind ≡ rest = ap (λ xs. xs ++ behind) c.split_at.ensures.front ∙ ap (λ xs. take n rest ++ xs) c.split_at.ensures.back ∙ take-append-drop n rest in (
      done ++ next,
      append_assoc done next behind ∙ ap (λ xs. done ++ xs) joined ∙ c.loop-rest.invariant.1,
      λ kept s. subst (λ (steps : List (TakenStep NfsCall Outcome)). Stands c.args.rule.now c.run_kept_block.new.replay steps [])
          (append_assoc kept (steps_of calls done) (steps_of calls next) ∙ ap (λ xs. kept ++ xs) (sym (filter_map-append (step_at calls) done next)))
          (c.in_ok-run_kept_block.ensures.ok (kept ++ steps_of calls done) (c.loop-rest.invariant.2 kept s)),
    )

pub returns-in_err-run_kept_block-clause-illegal : goal.returns-in_err-run_kept_block-clause-illegal
returns-in_err-run_kept_block-clause-illegal c = λ number is kept s base reached.
    let next_of = next_by c.args.rule.now in
    let calls = c.args.history.now.calls in
    let f = step_at calls in
    let done = c.loop-rest.invariant.0 in
    let rest = c.loop-rest.rest.now in
    let n = c.min.result in
    let next = c.split_at.result.0.now in
    let behind = c.split_at.result.1.now in
    let joined : next ++ behind ≡ rest = ap (λ xs. xs ++ behind) c.split_at.ensures.front ∙ ap (λ xs. take n rest ++ xs) c.split_at.ensures.back ∙ take-append-drop n rest in
    let parts : steps_of calls c.args.places.now ≡ steps_of calls done ++ (steps_of calls next ++ steps_of calls behind) =
    ap (steps_of calls) (sym c.loop-rest.invariant.1 ∙ ap (λ xs. done ++ xs) (sym joined)) ∙ filter_map-append f done (next ++ behind)
    ∙ ap (λ xs. steps_of calls done ++ xs) (filter_map-append f next behind) in
    let fault = err_from_is_err_and c.from_residual.result c.from_residual.ensures.1 in
    let was : c.run_kept_block.result ≡ Err c.in_err-run_kept_block.field-0.0 = c.in_err-run_kept_block.was in
    let refused : c.run_kept_block.result ≡ Err (Illegal number) = cc (fault.1, fault.2, was, is) in
    let stands = c.loop-rest.invariant.2 kept s in
    let found = c.run_kept_block.ensures.illegal number refused (kept ++ steps_of calls done) stands stands.base stands.reached in
    let middle = sym (from_base next_of (first_tree c.args.rule.now) base kept (steps_of calls done) reached) ∙ stands.reached in
    let tree = c.run_kept_block.new.replay.state in
    subst (λ (steps : List (TakenStep NfsCall Outcome)). IsFirstStop next_of base steps number tree) (sym parts)
    (stop_behind next_of base stands.base (steps_of calls done) (steps_of calls next ++ steps_of calls behind) number tree middle
    (stop_of_front next_of stands.base (steps_of calls next) (steps_of calls behind) number tree found))

pub returns-clause-ok : goal.returns-clause-ok
returns-clause-ok c = λ kept s.
    let calls = c.args.history.now.calls in
    let done = c.loop-rest.invariant.0 in
    let none : c.loop-rest.rest.now ≡ [] = nil_from_length c.loop-rest.rest.now (grind (arith, nat_tests)) in
    let all : done ≡ c.args.places.now = sym (append-nil done) ∙ ap (λ xs. done ++ xs) (sym none) ∙ c.loop-rest.invariant.1 in
    subst (λ (ps : List Place). Stands c.args.rule.now c.loop-rest.replay (kept ++ steps_of calls ps) []) all (c.loop-rest.invariant.2 kept s)
