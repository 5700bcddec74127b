use Rattle.std.proofs.Common.{arith}
use Rattle.tree_stores.proofs.Blocks.{no_values, no_value_counts}
use Rattle.tree_stores.proofs.slots.pages.Pages.new.Goals as goal

pub invariant_of-result : goal.invariant_of-result
invariant_of-result g c = rw c.new.ensures.items (record { few = omega arith; counted = no_value_counts g.row.V.Denot })

pub returns : goal.returns
returns g c = rw c.new.ensures.items no_values
