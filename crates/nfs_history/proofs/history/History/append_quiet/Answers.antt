use Rattle.std.proofs.lemmas.Bool.{false≢true}
use Rattle.std.proofs.lemmas.Result.{err_from_is_err_and}
use Rattle.nfs_history.proofs.AppendSteps.{wanting_so, appended_so}
use Rattle.nfs_history.proofs.history.History.append_quiet.Goals as goal

pub returns-in_err-take_quiet : goal.returns-in_err-take_quiet
returns-in_err-take_quiet c =
    let p = err_from_is_err_and c.from_residual.result c.from_residual.ensures.1 in
    rw (p.1, p.2) (wanting_so c.args.self.now c.take_quiet.new.self c.args.event c.in_err-take_quiet.ensures.kept
    (λ room crashed. false≢true (c.in_err-take_quiet.ensures.crashed room crashed)))

pub returns : goal.returns
returns c = appended_so c.args.self.now c.take_quiet.new.self c.args.event tt c.in_ok-take_quiet.ensures.taken
