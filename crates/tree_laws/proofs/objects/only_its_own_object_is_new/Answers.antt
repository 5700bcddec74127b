use Rattle.tree_laws.proofs.Newcomers.{only_its_own_is_new}
use Rattle.tree_laws.proofs.objects.only_its_own_object_is_new.Goals as goal

pub returns : goal.returns
returns c = only_its_own_is_new
