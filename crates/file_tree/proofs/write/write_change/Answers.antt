use Rattle.std.proofs.Common.{◌≡◌, true, sym, ap, ◌∙◌, subst, rules, take}
use Rattle.std.specs.Prelude.{nat_le, length}
use Rattle.file_tree.specs.Planning.{Plans}
use Rattle.file_tree.specs.Written.{reaches, write_at}
use Rattle.tree_answers.proofs.tree_handles_laws.Paths.{placed_file}
use Rattle.file_tree.proofs.Planned.{file_written}
use Rattle.file_tree.proofs.write.write_change.Goals as goal

pub returns-then-reaches : goal.returns-then-reaches
returns-then-reaches c =
    let tree = c.args.view.now.nodes.now in
    let call = c.args.call.now in
    let count = c.args.count in
    let f = placed_file tree c.in-Some.entry.object c.in-Some.entry.file.now _ c.in-Some.ensures.file c.in-Some.ensures.place in
    let asked : nat_le count call.count ≡ true = search rules in
    let there : nat_le count (length call.bytes) ≡ true = search rules in
    let reached : reaches call.level c.args.level ≡ true = search rules in
    let bytes : c.front.result.now ≡ take count call.bytes = search rules in
    let is = file_written c.args.view.now.binds.now tree call count c.args.level _ f.1 asked there reached in
    subst (Plans tree c.write_at.result) (ap (write_at _ call.offset) bytes ∙ sym is) (c.write_at.ensures f.0 f.2)
