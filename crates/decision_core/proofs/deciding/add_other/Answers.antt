use Rattle.std.proofs.Common.{rules, ◌≡◌, ◌∷◌, [], ◌++◌}
use Rattle.decision_core.proofs.Waiting.{added_push}
use Rattle.decision_core.proofs.deciding.add_other.Goals as goal

pub returns : goal.returns
returns g c =
    let items : c.push.new.self.items ≡ c.args.left.now.items ++ c.args.call ∷ [] = search rules in
    added_push c.args.call c.args.n c.args.left.now.items c.push.new.self.items items c.if-call-n.false
