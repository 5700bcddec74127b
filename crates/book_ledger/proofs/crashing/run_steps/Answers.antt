use Rattle.std.proofs.Common.{◌≡◌, length, List, Some, subst}
use Rattle.std.proofs.lemmas.List.{take_all}
use Rattle.book_ledger.specs.declared.placed.PlacedCall.{PlacedCall}
use Rattle.book_ledger.specs.Inside.{IsAsked}
use Rattle.book_ledger.specs.Undoing.{tree_after}
use Rattle.book_ledger.proofs.Undoing.{all_at, run_further, runs_further}
use Rattle.book_ledger.proofs.crashing.run_steps.Goals as goal

pub run_step-requires-clause-asked : goal.run_step-requires-clause-asked
run_step-requires-clause-asked c =
    all_at (λ (call : PlacedCall). IsAsked c.args.history.now.known.calls call.number) c.args.placed.now c.loop-next.next-index c.next-item.result c.loop-next-test.true c.next-item.is c.requires.asked

pub run_step-requires-clause-next : goal.run_step-requires-clause-next
run_step-requires-clause-next c =
    runs_further (record { profile = c.args.history.now.known.head.profile; first = length c.args.history.now.known.head.start; binds = c.args.binds.now }) c.args.history.now.known.calls c.args.tree.now c.args.placed.now c.loop-next.next-index c.next-item.result c.loop-next.tree c.loop-next-test.true c.next-item.is
    c.loop-next.invariant c.requires.runs

pub loop-next-preserved : goal.loop-next-preserved
loop-next-preserved c =
    run_further (record { profile = c.args.history.now.known.head.profile; first = length c.args.history.now.known.head.start; binds = c.args.binds.now }) c.args.history.now.known.calls c.args.tree.now c.args.placed.now c.loop-next.next-index c.next-item.result c.loop-next.tree c.run_step.new.tree c.loop-next-test.true
    c.next-item.is c.loop-next.invariant c.in_ok-run_step.ensures

pub returns : goal.returns
returns c =
    let all = take_all c.loop-next.next-index c.args.placed.now c.loop-next-test.false in
    subst (λ (placed : List PlacedCall). tree_after (record { profile = c.args.history.now.known.head.profile; first = length c.args.history.now.known.head.start; binds = c.args.binds.now }) c.args.history.now.known.calls c.args.tree.now placed ≡ Some c.loop-next.tree) all c.loop-next.invariant
