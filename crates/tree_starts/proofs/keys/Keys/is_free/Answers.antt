use Rattle.std.proofs.Common.{not, ap, ◌∙◌}
use Rattle.tree_starts.specs.Start.{is_free}
use Rattle.tree_starts.proofs.KeySteps.{free-is}
use Rattle.tree_starts.proofs.keys.Keys.is_free.Goals as goal

pub returns : goal.returns
returns c = ap not c.contains_key.ensures ∙ free-is c.args.parent c.args.name c.self.inside.objects.entries ∙ ap (λ ks. is_free ks c.args.parent c.args.name.now) c.self.view_is
