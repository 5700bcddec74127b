use Rattle.std.proofs.Common.{rules, not}
use Rattle.std.proofs.lemmas.Fn.{filter_same}
use Rattle.decision_walk.specs.Standing.{is_of_earlier}
use Rattle.decision_walk.proofs.machine.HistoryMachine.without_earlier.Goals as goal

pub returns : goal.returns
returns c = filter_same _ (λ n. not (is_of_earlier c.args.self.now.history.now.known c.args.era n)) _ (λ x b f' k. search rules) c.args.calls.items c.retain.new.self.items c.retain.ensures.filtered
