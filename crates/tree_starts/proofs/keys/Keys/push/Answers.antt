use Rattle.std.proofs.Common.{◌≡◌, true, map, ◌∷◌, ◌++◌, [], ap, ◌∙◌}
use Rattle.std.proofs.lemmas.List.{map_push}
use Rattle.indexmap.proofs.CallerLemmas.{insert_entry-new}
use Rattle.tree_starts.specs.Start.{is_free}
use Rattle.tree_starts.proofs.KeySteps.{entry_key, free-is, none_of}
use Rattle.tree_starts.proofs.keys.Keys.push.Goals as goal

pub returns-clause-ok : goal.returns-clause-ok
returns-clause-ok c =
    let free : is_free (map entry_key c.self.inside.objects.entries) c.args.parent c.args.name.now ≡ true = ap (λ ks. is_free ks c.args.parent c.args.name.now) c.self.view_is ∙ c.requires in
    let absent = none_of _ (free-is c.args.parent c.args.name c.self.inside.objects.entries ∙ free) in
    ap (map entry_key) (c.in_ok-insert.ensures.entries ∙ insert_entry-new _ c.self.inside.objects (c.args.parent, c.args.name) c.args.is_directory absent)
    ∙ map_push entry_key c.self.inside.objects.entries ((c.args.parent, c.args.name), c.args.is_directory)
    ∙ ap (λ ks. ks ++ record { parent = c.args.parent; name = c.args.name.now; is_directory = c.args.is_directory } ∷ []) c.self.view_is
