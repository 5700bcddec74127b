use Rattle.std.proofs.Common.{length, subst, arith, rules}
use Rattle.std.proofs.lemmas.List.Elements.{All-more}
use Rattle.tree_nodes.specs.Printed.{word_text, opaque_text, IsShort}
use Rattle.tree_nodes.proofs.Printing.{texts_more}
use Rattle.tree_nodes.proofs.print.put_path.Goals as goal

pub loop-name-preserved : goal.loop-name-preserved
loop-name-preserved c =
    let names = c.names-name-items.result.now in
    let name = c.name-item.result in
    let fits : IsShort name = c.as_slice.ensures.bound in (
      texts_more opaque_text c.args.out.now.items c.loop-name.out.items c.put_opaque.new.out.items (word_text (length c.args.path.now)) names c.loop-name.name-index name
          (omega arith) c.name-item.is c.loop-name.invariant.0 (search rules),
      All-more IsShort names c.loop-name.name-index name (omega arith) c.loop-name.invariant.1 (subst IsShort c.name-item.is fits),
    )
