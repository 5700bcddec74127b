use Rattle.std.proofs.Common.{sym, ap, ◌∙◌}
use Rattle.decision_core.specs.Register.{register_placed}
use Rattle.decision_core.proofs.register.RegisterMachineMachine.is_placed.Goals as goal

pub returns : goal.returns
returns c = λ plan gone point same kept. c.has.ensures ∙ ap (λ s. register_placed s c.args.n) (sym same)
