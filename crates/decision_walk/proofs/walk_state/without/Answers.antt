use Rattle.std.proofs.Common.{rules, not}
use Rattle.std.specs.Prelude.{◌==◌}
use Rattle.std.proofs.lemmas.Fn.{filter_same}
use Rattle.decision_walk.proofs.walk_state.without.Goals as goal

pub returns : goal.returns
returns c = filter_same _ (λ m. not (m == c.args.n)) _ (λ x b f' k. search rules) c.args.calls.items c.retain.new.self.items c.retain.ensures.filtered
