use Rattle.std.proofs.Common.{◌≡◌, rules, not, ◌∙◌, ap}
use Rattle.std.specs.Prelude.{◌==◌, filter}
use Rattle.std.proofs.lemmas.Fn.{filter_same}
use Rattle.decision_walk.specs.declared.open_writes.OpenWrite.{OpenWrite}
use Rattle.decision_walk.proofs.open_writes.without_writes.Goals as goal

pub returns : goal.returns
returns c =
    let left : c.retain.new.self.items ≡ filter (λ (one : OpenWrite). not (one.object == c.args.object)) c.in_ok-rest.rest.items =
    filter_same _ (λ (one : OpenWrite). not (one.object == c.args.object)) _ (λ x b f' k. search rules) c.in_ok-rest.rest.items c.retain.new.self.items c.retain.ensures.filtered in
    left ∙ ap (filter (λ (one : OpenWrite). not (one.object == c.args.object))) c.in_ok-rest.ensures.items
