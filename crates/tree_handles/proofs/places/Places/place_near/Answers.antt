use Rattle.std.proofs.Common.{ℕ, Bool, List, Vec, Global, map, position, length, sym, ap, ◌∙◌, if◌then◌else◌}
use Rattle.std.proofs.lemmas.Bool.{lt-leb}
use Rattle.tree_handles.specs.Binding.{same_bytes}
use Rattle.tree_handles.specs.Places.{Handles, place_of}
use Rattle.tree_handles.proofs.Positions.{position_map}
use Rattle.tree_handles.proofs.places.Places.place_near.Goals as goal

pub returns-then-stands_long : goal.returns-then-stands_long
returns-then-stands_long c =
    let bytes : Vec ℕ Global → List ℕ = λ k. k.items in
    let handle = c.args.handle.now in
    let inside = c.self.inside in
    sym (c.stands_long.ensures c.if-stands_long.true)
    ∙ position_map bytes (same_bytes handle) inside.long.keys
    ∙ ap (λ (b : Bool). position (same_bytes handle) (if b then inside.short.keys else map bytes inside.long.keys)) (sym (lt-leb (length handle) 31 c.if-handle-le-SHORT_LIMIT.false))
    ∙ ap (λ (h : Handles). place_of h handle) c.self.view_is
