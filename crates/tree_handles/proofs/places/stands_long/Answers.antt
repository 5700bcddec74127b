use Rattle.std.proofs.Common.{◌≡◌, ℕ, List, Vec, Global, get_or, sym, ◌∙◌, rules}
use Rattle.tree_handles.proofs.Positions.{stands, same_is}
use Rattle.tree_handles.proofs.places.stands_long.Goals as goal

pub returns-in-Some : goal.returns-in-Some
returns-in-Some c = λ same.
    let bytes : Vec ℕ Global → List ℕ = λ k. k.items in
    let key = c.in-Some.key.now in
    let there : bytes (get_or c.args.long.now.keys c.args.place key) ≡ c.as_slice-in-Some.result.now = search rules in
    stands bytes c.args.long.now.keys c.args.place key c.args.handle.now c.as_slice.ensures.unique (search rules) (there ∙ same_is c.as_slice-in-Some.result.now c.args.handle.now (sym c.eq.ensures ∙ same))
