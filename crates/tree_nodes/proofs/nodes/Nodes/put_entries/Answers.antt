use Rattle.std.proofs.Common.{rules, ◌≡◌, ℕ, List, [], ◌++◌, ap, ◌∙◌, subst}
use Rattle.std.specs.Prelude.{option_map}
use Rattle.tree_nodes.specs.declared.node.Node.{Node}
use Rattle.tree_nodes.specs.Tree.{Names}
use Rattle.tree_nodes.specs.Printed.{entry_text, EntryFits}
use Rattle.tree_nodes.proofs.Chains.{same_some}
use Rattle.tree_nodes.proofs.Prints.{Prints, print_none, print_first, print_all}
use Rattle.tree_nodes.proofs.nodes.Nodes.put_entries.Goals as goal

pub loop-path-init : goal.loop-path-init
loop-path-init c =
    let is : c.into_iter-path-iterator.result ≡ c.args.paths.now.entries = search rules in
    print_none c.args.self.now c.args.out.now.items c.into_iter-path-iterator.result c.requires.sound (is ∙ c.requires.paths)

pub unreachable-requires : goal.unreachable-requires
unreachable-requires c =
    let left = subst (λ (z : List (Names × ℕ)). Prints c.args.self.now c.args.out.now.items c.loop-path.out.items z) c.in-Some.ensures.steps c.loop-path.invariant in
    let first = print_first c.args.self.now c.args.out.now.items c.loop-path.out.items c.in-Some.path.now c.in-Some.object.now c.next.new.self c.requires.sound c.requires.numbered left in
    absurd (cc (c.in_default.ensures ∙ ap (option_map {T = Names × Node} (λ e. e.1)) first.stands))

pub put_entry-requires : goal.put_entry-requires
put_entry-requires c =
    let left = subst (λ (z : List (Names × ℕ)). Prints c.args.self.now c.args.out.now.items c.loop-path.out.items z) c.in-Some.ensures.steps c.loop-path.invariant in
    (print_first c.args.self.now c.args.out.now.items c.loop-path.out.items c.in-Some.path.now c.in-Some.object.now c.next.new.self c.requires.sound c.requires.numbered left).depth

pub loop-path-preserved : goal.loop-path-preserved
loop-path-preserved c =
    let left = subst (λ (z : List (Names × ℕ)). Prints c.args.self.now c.args.out.now.items c.loop-path.out.items z) c.in-Some.ensures.steps c.loop-path.invariant in
    let first = print_first c.args.self.now c.args.out.now.items c.loop-path.out.items c.in-Some.path.now c.in-Some.object.now c.next.new.self c.requires.sound c.requires.numbered left in
    let node : c.in-Some-node.node.now ≡ first.node = same_some _ _ (c.in-Some-node.ensures ∙ ap (option_map {T = Names × Node} (λ e. e.1)) first.stands) in
    first.more c.put_entry.new.out.items (c.in_ok-put_entry.ensures.ok ∙ ap (λ (n : Node). c.loop-path.out.items ++ entry_text (c.in-Some.path.now, n)) node)
    (subst (λ (n : Node). EntryFits (c.in-Some.path.now, n)) node c.in_ok-put_entry.ensures.fits)

pub returns-clause-ok : goal.returns-clause-ok
returns-clause-ok c =
    let none : c.loop-path.path-iterator ≡ [] = search rules in
    (print_all c.args.self.now c.args.out.now.items c.loop-path.out.items
    (subst (λ (z : List (Names × ℕ)). Prints c.args.self.now c.args.out.now.items c.loop-path.out.items z) none c.loop-path.invariant)).0

pub returns-clause-fits : goal.returns-clause-fits
returns-clause-fits c =
    let none : c.loop-path.path-iterator ≡ [] = search rules in
    (print_all c.args.self.now c.args.out.now.items c.loop-path.out.items
    (subst (λ (z : List (Names × ℕ)). Prints c.args.self.now c.args.out.now.items c.loop-path.out.items z) none c.loop-path.invariant)).1
