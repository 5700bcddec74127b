use Rattle.std.proofs.Common.{◌≡◌, ℕ, List, ◌∙◌}
use Rattle.std.proofs.lemmas.List.Elements.{same_from_all_zip}
use Rattle.tree_handles.proofs.Positions.{bytes_of_clones}
use Rattle.tree_handles.proofs.places.PlacesClone.clone.Goals as goal

pub returns : goal.returns
returns c =
    let short = same_from_all_zip (λ (x : List ℕ) y. y ≡ x) c.self.inside.short.keys c.in_ok-clone.field-0.keys c.in_ok-clone.ensures.cases (λ x y e. e) in
    let long = bytes_of_clones c.self.inside.long.keys c.in_ok-clone-2.field-0.keys c.in_ok-clone-2.ensures.cases in
    record { cases = (λ i. record { short = short i; long = long i }) ∙ c.self.view_is }
