use Rattle.std.proofs.Common.{◌≡◌, ℕ, sym, subst, rules}
use Rattle.decision_steps.specs.Known.{AgreesWith}
use Rattle.nfs_history.specs.declared.knowing.KnownCalls.{KnownCalls}
use Rattle.tree_handles.specs.Binding.{Bindings}
use Rattle.decision_walk.specs.Bars.{AreBarred}
use Rattle.decision_walk.specs.Standing.{has_call}
use Rattle.decision_walk.specs.Resolving.{Covers, HasBaseOf}
use Rattle.decision_walk.proofs.Sameness.{same_stands}
use Rattle.decision_walk.proofs.machine.HistoryMachine.is_covered.Goals as goal

pub returns : goal.returns
returns c = λ is.
    let known = c.args.self.now.history.now.known in
    let state = c.args.state.now in
    let other = c.args.other.now in
    let era : state.era ≡ other.era = search rules in
    let past : state.past ≡ other.past = search rules in
    let answered : state.answered_to ≡ other.answered_to = search rules in
    let calls : (n : ℕ) → has_call state.placed n ≡ has_call other.placed n = search rules in
    let writes : c.as_slice-5.result.now ≡ state.writes = search rules in
    let others : c.as_slice-6.result.now ≡ other.writes = search rules in
    let binds : c.other.inside.stands.binds ≡ other.binds = search rules in
    let covers = c.covers.ensures (search rules) in
    let covered : Covers known other.binds state state.writes other.writes =
    subst (λ b. Covers known b state state.writes other.writes) binds
    (subst (λ ws. Covers known c.other.inside.stands.binds state state.writes ws) others (subst (λ ws. Covers known c.other.inside.stands.binds state ws c.as_slice-6.result.now) writes covers)) in
    let base : HasBaseOf known other.binds state other.base = c.has_base_of.ensures (search rules) in
    let agrees : AgreesWith other.binds state.binds = search rules in
    let tree : state.tree ≡ other.tree = search rules in
    let bars_here : c.as_slice-3.result.now ≡ state.barred = search rules in
    let bars_there : c.as_slice-4.result.now ≡ other.barred = search rules in
    let bars : (known : KnownCalls) (binds : Bindings) → AreBarred known binds state.barred → AreBarred known binds other.barred =
    λ known binds met. subst (AreBarred known binds) bars_there (c.has_bars.ensures (search rules) known binds (subst (AreBarred known binds) (sym bars_here) met)) in
    same_stands known c.args.self.now.marks.items state other era past answered calls covered base agrees tree bars
