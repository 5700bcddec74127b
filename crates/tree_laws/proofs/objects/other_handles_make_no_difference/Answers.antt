use Rattle.tree_laws.proofs.Agreeing.{others_dont_matter}
use Rattle.tree_laws.proofs.objects.other_handles_make_no_difference.Goals as goal

pub returns : goal.returns
returns c = others_dont_matter
