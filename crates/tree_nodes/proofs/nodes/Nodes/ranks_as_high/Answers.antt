use Rattle.std.proofs.Common.{◌<◌, ◌≤◌, arith}
use Rattle.std.proofs.lemmas.Bool.{leb-true}
use Rattle.tree_nodes.specs.declared.ranks.TheConstants.{TOP}
use Rattle.tree_nodes.specs.Ranks.{rank_of}
use Rattle.tree_nodes.proofs.Methods.{good_at}
use Rattle.tree_nodes.proofs.Ranking.{outranked}
use Rattle.tree_nodes.proofs.nodes.Nodes.ranks_as_high.Goals as goal

pub returns-then-rank-lt-TOP : goal.returns-then-rank-lt-TOP
returns-then-rank-lt-TOP c = λ high apart e f is there.
    let good = good_at c.self.inside.entries c.self.inside.shown c.args.self.now c.self.view_is c.self.invariant.table in
    let r = rank_of c.self.inside.ranks in
    let own : r c.args.front < TOP = omega (arith, c.get-rank.ensures, c.if-rank-lt-TOP.true) in
    let more : r c.args.front ≤ r c.args.object = omega (arith, c.get-rank.ensures, c.get.ensures, leb-true c.get-rank.result c.get.result high) in
    outranked c.self.inside.entries c.args.self.now good r c.self.invariant.ranked c.args.object c.args.front own more apart e f is there
