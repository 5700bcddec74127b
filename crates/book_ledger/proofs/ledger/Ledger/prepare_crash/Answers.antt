use Rattle.std.proofs.Common.{◌≡◌, Some, refl, sym}
use Rattle.std.proofs.lemmas.Result.{IfOk-weaker}
use Rattle.replay_law.specs.Run.{state_after}
use Rattle.tree_nodes.specs.Tree.{Tree}
use Rattle.file_tree.specs.StartTree.{start_tree}
use Rattle.book_laws.specs.Book.{next_by}
use Rattle.book_ledger.specs.declared.placed.Condition.TheVariants as codes
use Rattle.book_ledger.specs.declared.ledger.Ledger.{Ledger}
use Rattle.book_ledger.specs.Inside.{Goes, setting_in}
use Rattle.book_ledger.specs.Undoing.{steps_kept, LeadBack, GoesDown, IsReady}
use Rattle.book_ledger.proofs.CrashSteps.{can_go_back, can_run_front, goes_downed, goes_treeless, ready_anew, ready_back}
use Rattle.book_ledger.proofs.ledger.Ledger.prepare_crash.Goals as goal

pub returns-in_err-reserve-clause-down : goal.returns-in_err-reserve-clause-down
returns-in_err-reserve-clause-down c =
    let old = c.args.self.now in
    goes_downed old (record old { history = c.reserve.new.self; condition = codes.Down }) c.requires.alive c.reserve.ensures.known c.reserve.ensures.events refl refl refl refl refl refl refl refl

pub returns-in_err-reserve-2-clause-down : goal.returns-in_err-reserve-2-clause-down
returns-in_err-reserve-2-clause-down c =
    let old = c.args.self.now in
    goes_downed old (record old { history = c.reserve.new.self; over = c.reserve-2.new.self; condition = codes.Down }) c.requires.alive c.reserve.ensures.known c.reserve.ensures.events
    c.reserve-2.ensures.items refl refl refl refl refl refl refl

pub take_back-requires-clause-back : goal.take_back-requires-clause-back
take_back-requires-clause-back c =
    let tied = c.requires.tied in
    let back = can_go_back c.args.self.now tied.0 c.args.keep c.args.lost c.in-Some.tree tied.1 (sym c.in-Some.ensures.value) tied.2 in
    (back.before, back.back)

pub tree_behind-requires : goal.tree_behind-requires
tree_behind-requires c =
    let old = c.args.self.now in
    let new : Ledger = record old { history = c.reserve.new.self; over = c.reserve-2.new.self; tree = c.take.new.self; condition = codes.Down } in
    let goes = goes_treeless old new c.requires.alive c.reserve.ensures.known c.reserve.ensures.events c.reserve-2.ensures.items refl refl refl c.take.ensures.after refl refl in
    let tied = c.requires.tied in
    can_run_front new tied.0 c.args.keep c.front_with.result (goes tied.0 tied.1).0 c.front_with.ensures

pub returns-in-Some-clause-down : goal.returns-in-Some-clause-down
returns-in-Some-clause-down c =
    let old = c.args.self.now in
    goes_treeless old (record old { history = c.reserve.new.self; over = c.reserve-2.new.self; tree = c.take.new.self; undos = c.take_back.new.undos; condition = codes.Down }) c.requires.alive
    c.reserve.ensures.known c.reserve.ensures.events c.reserve-2.ensures.items refl refl refl c.take.ensures.after refl refl

pub returns-in-Some-clause-ready : goal.returns-in-Some-clause-ready
returns-in-Some-clause-ready c =
    let old = c.args.self.now in
    IfOk-weaker c.take_back.result (λ (back : Tree). (before : Tree) → LeadBack old.undos.items c.args.lost c.in-Some.tree before → back ≡ before) (IsReady old c.args.keep c.args.lost)
    (λ back leads. ready_back old c.args.keep c.args.lost c.in-Some.tree back (sym c.in-Some.ensures.value) leads) c.take_back.ensures

pub returns-in-None-clause-down : goal.returns-in-None-clause-down
returns-in-None-clause-down c =
    let old = c.args.self.now in
    goes_treeless old (record old { history = c.reserve.new.self; over = c.reserve-2.new.self; tree = c.take.new.self; condition = codes.Down }) c.requires.alive c.reserve.ensures.known
    c.reserve.ensures.events c.reserve-2.ensures.items refl refl refl c.take.ensures.after refl refl

pub returns-in-None-clause-ready : goal.returns-in-None-clause-ready
returns-in-None-clause-ready c =
    let old = c.args.self.now in
    let new : Ledger = record old { history = c.reserve.new.self; over = c.reserve-2.new.self; tree = c.take.new.self; condition = codes.Down } in
    let goes : Goes GoesDown old new =
    goes_treeless old new c.requires.alive c.reserve.ensures.known c.reserve.ensures.events c.reserve-2.ensures.items refl refl refl c.take.ensures.after refl refl in
    IfOk-weaker c.tree_behind.result (λ (tree : Tree). state_after (next_by (setting_in new)) (start_tree new.history.known.head.start) (steps_kept new c.front_with.result) ≡ Some tree) (IsReady old c.args.keep c.args.lost)
    (λ tree runs. ready_anew old new c.args.keep c.args.lost c.front_with.result tree goes c.front_with.ensures runs) c.tree_behind.ensures
