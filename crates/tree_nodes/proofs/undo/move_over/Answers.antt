use Rattle.std.proofs.Common.{refl}
use Rattle.tree_nodes.proofs.Renaming.{renamed_over}
use Rattle.tree_nodes.proofs.undo.move_over.Goals as goal

pub returns-clause-ok : goal.returns-clause-ok
returns-clause-ok c =
    let over = c.in_ok-place.ensures.ok in
    let known = c.requires.displaced in
    record {
      move = record { object = c.args.object; place = c.in_ok-place.place; displaced = c.in_ok-place.displaced };
      step = refl;
      renamed = renamed_over c.args.entries.now over.between c.shift_over.new.entries c.args.object c.args.place.parent c.args.other c.args.place.name c.in_ok-place.place c.in_ok-place.displaced
          over.lain over.shifts c.requires.there c.requires.bare known.0 known.1 known.2 over.taken over.value over.len;
    }
