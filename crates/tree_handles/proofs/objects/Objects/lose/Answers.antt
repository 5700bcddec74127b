use Rattle.tree_handles.proofs.Losing.{both_lack}
use Rattle.tree_handles.proofs.objects.Objects.lose.Goals as goal

pub returns : goal.returns
returns c = λ pairs gives. both_lack c.args.self.now (record { own = c.lose.new.self; others = c.lose-2.new.self }) pairs c.args.handle.now gives c.lose.ensures c.lose-2.ensures
