use Rattle.std.proofs.Common.{ℕ, List, Vec, Global, map, position, length, ap, ◌∙◌, sym, if◌then◌else◌, Bool}
use Rattle.std.proofs.lemmas.Bool.{lt-leb}
use Rattle.tree_handles.specs.Binding.{same_bytes}
use Rattle.tree_handles.specs.Places.{Handles, place_of}
use Rattle.tree_handles.proofs.Positions.{position_map}
use Rattle.tree_handles.proofs.places.Places.place.Goals as goal

pub returns-else-handle-le-SHORT_LIMIT : goal.returns-else-handle-le-SHORT_LIMIT
returns-else-handle-le-SHORT_LIMIT c =
    let bytes : Vec ℕ Global → List ℕ = λ k. k.items in
    let handle = c.args.handle.now in
    let inside = c.self.inside in
    c.get_index_of-else-handle-le-SHORT_LIMIT.ensures.index ∙ position_map bytes (same_bytes handle) inside.long.keys
    ∙ ap (λ (b : Bool). position (same_bytes handle) (if b then inside.short.keys else map bytes inside.long.keys)) (sym (lt-leb (length handle) 31 c.if-handle-le-SHORT_LIMIT.false))
    ∙ ap (λ (h : Handles). place_of h handle) c.self.view_is
