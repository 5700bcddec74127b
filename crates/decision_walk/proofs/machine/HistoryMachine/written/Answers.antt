use Rattle.std.proofs.Common.{rules, ◌≡◌, Some, ap, subst, ◌∙◌}
use Rattle.std.specs.Prelude.{option_and_then}
use Rattle.nfs3_types.specs.declared.calls.NfsCall.{NfsCall}
use Rattle.nfs3_types.specs.declared.replies.Outcome.TheVariants.{Taken}
use Rattle.tree_starts.specs.declared.profile.Profile.TheVariants.{Plain}
use Rattle.tree_nodes.specs.Tree.{Tree}
use Rattle.tree_nodes.specs.Numbered.{IsNumbered}
use Rattle.tree_nodes.proofs.Chains.{mapped}
use Rattle.tree_handles.specs.Binding.{object_of}
use Rattle.file_tree.specs.Success.{next_tree}
use Rattle.decision_steps.specs.Placing.{placed_in}
use Rattle.decision_steps.specs.Standing.{Standing}
use Rattle.decision_walk.specs.Opening.{write_in, call_of_history}
use Rattle.decision_walk.proofs.CountingLaws.{write_is}
use Rattle.decision_walk.proofs.machine.HistoryMachine.written.Goals as goal

pub returns-in-Ok-clause-wrote : goal.returns-in-Ok-clause-wrote
returns-in-Ok-clause-wrote c =
    let history : call_of_history c.args.self.now.history.now.known c.args.one.call ≡ Some c.in-Some-Some.call.now = search rules in
    let writes : write_in c.in-Some-Some.call.now ≡ Some c.in-Some.write.now = search rules in
    let named : object_of c.args.stands.now.binds c.in-Some.write.now.file ≡ Some c.args.one.object = search rules in
    let numbered : IsNumbered c.args.stands.now.tree = search rules in
    let placed : placed_in Plain c.args.stands.now c.in-Some-Some.object c.in-Some-Some.call.now (Taken (Some c.args.count)) ≡ Some c.in-Ok.next = search rules in
    let leads = mapped {B = Standing} (λ (t : Tree). record { tree = t; binds = c.args.stands.now.binds; origin = c.args.stands.now.origin })
    (next_tree c.args.stands.now.binds c.args.stands.now.tree c.in-Some-Some.object c.in-Some-Some.call.now (Taken (Some c.args.count))) c.in-Ok.next placed in
    record {
      write = c.in-Some.write.now;
      «is» = ap (option_and_then write_in) history ∙ writes;
      named = named;
      numbered = numbered;
      number = c.in-Some-Some.object;
      leads = subst (λ (call : NfsCall). next_tree c.args.stands.now.binds c.args.stands.now.tree c.in-Some-Some.object call (Taken (Some c.args.count)) ≡ Some c.in-Ok.next.tree)
          (write_is c.args.self.now.history.now.known c.args.self.now.marks.items c.in-Some-Some.call.now c.in-Some.write.now writes) (leads.1 ∙ ap (λ (s : Standing). Some s.tree) leads.2);
    }
