use Rattle.std.proofs.Common.{◌≡◌, false, None, [], refl, sym, subst, rules}
use Rattle.witness_check.specs.Run.{base_of}
use Rattle.decision_law.specs.Laws.{binds_of}
use Rattle.decision_law.specs.Machine.{first_point}
use Rattle.decision_walk.specs.View.{WalkView}
use Rattle.decision_walk.specs.Standing.{IsAt}
use Rattle.decision_walk.proofs.MachineLaws.{opens}
use Rattle.decision_walk.proofs.machine.HistoryMachineMachine.opening.Goals as goal

pub returns : goal.returns
returns c =
    let known = c.args.self.now.history.now.known in
    let stands = c.in_ok-stands.stands in
    let first : WalkView = record { tree = stands.tree; writes = []; binds = stands.binds; base = None; era = 1; past = 0; placed = []; answered_to = 0; barred = []; origin = stands.origin } in
    let tree : stands.tree ≡ base_of known = search rules in
    λ plan. subst (IsAt known c.args.self.now.marks.items plan (λ _. false) (first_point known)) (sym c.opening-2.ensures)
    (opens known c.args.self.now.marks.items first tree refl refl refl refl refl refl plan (c.in_ok-stands.ensures.covers (binds_of known plan) (search rules)))
