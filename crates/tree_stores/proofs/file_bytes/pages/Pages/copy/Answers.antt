use Rattle.std.proofs.Common.{rules}
use Rattle.std.proofs.lemmas.Map.Entries.{entries_from_clone}
use Rattle.tree_stores.proofs.Paging.{same_parts}
use Rattle.tree_stores.proofs.file_bytes.pages.Pages.copy.Goals as goal

pub returns : goal.returns
returns c =
    same_parts c.args.self.now (record { first = c.in_ok-first.first; rest = c.in_ok-rest.rest }) (search rules)
    (entries_from_clone _ _ (λ x y h. search rules) (λ v w h. h) c.args.self.now.rest.entries c.in_ok-rest.rest.entries c.in_ok-rest.ensures.cases)
