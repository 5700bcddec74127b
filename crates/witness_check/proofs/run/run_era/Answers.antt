use Rattle.std.proofs.Common.{◌++◌, take, drop, refl}
use Rattle.certificate.specs.Plan.{cut_of}
use Rattle.replay_law.proofs.Within.{era_runs}
use Rattle.tree_nodes.specs.Undo.{TakesBack}
use Rattle.witness_check.specs.Run.{step_at, steps_of}
use Rattle.witness_check.specs.Running.{next_by, first_tree}
use Rattle.witness_check.proofs.Ends.{handed_out}
use Rattle.witness_check.proofs.Steps.{both}
use Rattle.witness_check.proofs.run.run_era.Goals as goal

pub crash-requires : goal.crash-requires
crash-requires c =
    let stands = c.in-Ok.ensures.ok c.requires.0 c.requires.1 in
    (stands.base, stands.back)

pub returns-in_ok-crash-in-Ok-clause-runs : goal.returns-in_ok-crash-in-Ok-clause-runs
returns-in_ok-crash-in-Ok-clause-runs c = λ kept s.
    let calls = c.args.history.now.calls in
    let cut = cut_of c.args.era.now in
    let places = c.args.era.now.places in
    let front = steps_of calls (take cut places) in
    let back = steps_of calls (drop cut places) in
    let parts = both (step_at calls) cut places (take cut places) (drop cut places) refl refl in
    era_runs TakesBack (next_by c.args.rule.now) (first_tree c.args.rule.now) c.run_places.new.replay kept front back (steps_of calls places) parts (c.in-Ok.ensures.ok kept s)

pub returns-in_ok-crash-in-Ok-clause-crashed : goal.returns-in_ok-crash-in-Ok-clause-crashed
returns-in_ok-crash-in-Ok-clause-crashed c = λ kept s.
    let calls = c.args.history.now.calls in
    let cut = cut_of c.args.era.now in
    let places = c.args.era.now.places in
    c.in_ok-crash-in-Ok.ensures (next_by c.args.rule.now) (first_tree c.args.rule.now) (kept ++ steps_of calls (take cut places)) (steps_of calls (drop cut places)) (c.in-Ok.ensures.ok kept s)

pub returns-in-Err-Illegal-clause-stopped : goal.returns-in-Err-Illegal-clause-stopped
returns-in-Err-Illegal-clause-stopped c = λ kept s.
    handed_out c.args.rule.now kept (steps_of c.args.history.now.calls c.args.era.now.places) c.in-Err-Illegal.number c.run_places.new.replay.state c.into_state.result c.into_state.ensures
    (c.in-Err-Illegal.ensures.illegal c.in-Err-Illegal.number (cc) kept s)
