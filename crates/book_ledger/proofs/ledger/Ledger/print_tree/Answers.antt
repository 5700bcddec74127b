use Rattle.std.proofs.Common.{◌≡◌, ◌≤◌, ℕ, ◌++◌, length, Some, sym, ap, ◌∙◌, arith}
use Rattle.std.proofs.lemmas.Result.{on_ok_weaker}
use Rattle.replay_law.specs.Run.{state_after}
use Rattle.tree_nodes.specs.Printed.{tree_text}
use Rattle.tree_nodes.specs.Tree.{Tree}
use Rattle.file_tree.specs.StartTree.{start_tree}
use Rattle.book_laws.specs.Book.{next_by}
use Rattle.book_ledger.specs.Inside.{setting_in}
use Rattle.book_ledger.specs.Undoing.{steps_kept}
use Rattle.book_ledger.proofs.CrashSteps.{can_run_again, all_behind_is}
use Rattle.book_ledger.proofs.ledger.Ledger.print_tree.Goals as goal

one : {a b : Tree} → Some a ≡ Some b → a ≡ b
one e = cc

pub tree_behind-requires : goal.tree_behind-requires
tree_behind-requires c =
    let self = c.args.self.now in
    let le : c.len.result ≤ length self.placed.items = omega (arith, self.placed.ok.0, c.len.ensures) in
    can_run_again self c.requires.0 c.len.result c.requires.1 le

pub returns-in_ok-tree_behind-in-None-clause-ok : goal.returns-in_ok-tree_behind-in-None-clause-ok
returns-in_ok-tree_behind-in-None-clause-ok c =
    let self = c.args.self.now in
    let count : length self.placed.items ≡ c.len.result = omega (arith, self.placed.ok.0, c.len.ensures) in
    on_ok_weaker c.print_state-in-None.result
    (λ printed device t tree is.
    let found = sym (ap (λ (n : ℕ). state_after (next_by (setting_in self)) (start_tree self.history.known.head.start) (steps_kept self n)) count ∙ c.in_ok-tree_behind-in-None.ensures) ∙ all_behind_is self device t ∙ is in
    printed ∙ ap (λ (x : Tree). c.args.out.now.items ++ tree_text x) (one found))
    c.print_state-in-None.ensures.ok
