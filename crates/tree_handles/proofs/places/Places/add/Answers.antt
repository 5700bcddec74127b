use Rattle.std.proofs.Common.{◌≡◌, ℕ, List, [], ◌∷◌, ◌++◌, Vec, Global, None, map, position, length, Bool, sym, ap, ◌∙◌, subst, if◌then◌else◌}
use Rattle.std.proofs.lemmas.Bool.{le-leb, lt-leb}
use Rattle.tree_handles.specs.Binding.{same_bytes}
use Rattle.tree_handles.specs.Places.{Handles, place_of, TakesPlace}
use Rattle.tree_handles.proofs.Positions.{position_map, comes_last, one_more, takes_short, takes_long}
use Rattle.tree_handles.proofs.places.Places.add.Goals as goal

pub returns-in_ok-place-clause-ok : goal.returns-in_ok-place-clause-ok
returns-in_ok-place-clause-ok c =
    let bytes : Vec ℕ Global → List ℕ = λ k. k.items in
    let handle = c.args.handle.now in
    let inside = c.self.inside in
    let before : Handles = record { short = inside.short.keys; long = map bytes inside.long.keys } in
    let short = le-leb (length handle) 31 c.if-handle-le-SHORT_LIMIT.true in
    let key = c.from_slice.result in
    let none : position (same_bytes key) inside.short.keys ≡ None =
    ap (λ (h : List ℕ). position (same_bytes h) inside.short.keys) c.from_slice.ensures
    ∙ ap (λ (b : Bool). position (same_bytes handle) (if b then inside.short.keys else map bytes inside.long.keys)) (sym short) ∙ ap (λ (h : Handles). place_of h handle) c.self.view_is ∙ c.requires in
    let its = comes_last (λ (k : List ℕ). k) inside.short.keys c.insert_full.new.self.keys key c.in_ok-place.place none c.in_ok-place.ensures.keys c.in_ok-place.ensures.index in
    subst (λ (h : Handles). TakesPlace h (record { short = c.insert_full.new.self.keys; long = map bytes inside.long.keys }) handle c.in_ok-place.place) c.self.view_is
    (takes_short before handle c.in_ok-place.place short c.insert_full.new.self.keys (its.0 ∙ ap (λ (h : List ℕ). before.short ++ h ∷ []) c.from_slice.ensures, its.1))

pub returns-in_ok-place-2-clause-ok : goal.returns-in_ok-place-2-clause-ok
returns-in_ok-place-2-clause-ok c =
    let bytes : Vec ℕ Global → List ℕ = λ k. k.items in
    let handle = c.args.handle.now in
    let inside = c.self.inside in
    let before : Handles = record { short = inside.short.keys; long = map bytes inside.long.keys } in
    let long = lt-leb (length handle) 31 c.if-handle-le-SHORT_LIMIT.false in
    let key = c.in_ok-from_slice.field-0 in
    let new = c.insert_full-else-handle-le-SHORT_LIMIT.new.self.keys in
    let none : position (λ k. same_bytes (bytes key) (bytes k)) inside.long.keys ≡ None =
    ap (λ (h : List ℕ). position (λ k. same_bytes h (bytes k)) inside.long.keys) c.in_ok-from_slice.ensures.items
    ∙ position_map bytes (same_bytes handle) inside.long.keys
    ∙ ap (λ (b : Bool). position (same_bytes handle) (if b then inside.short.keys else map bytes inside.long.keys)) (sym long) ∙ ap (λ (h : Handles). place_of h handle) c.self.view_is ∙ c.requires in
    let last = comes_last bytes inside.long.keys new key c.in_ok-place-2.place none c.in_ok-place-2.ensures.keys c.in_ok-place-2.ensures.index in
    let its = one_more bytes inside.long.keys new key c.in_ok-place-2.place last in
    subst (λ (h : Handles). TakesPlace h (record { short = inside.short.keys; long = map bytes new }) handle c.in_ok-place-2.place) c.self.view_is
    (takes_long before handle c.in_ok-place-2.place long (map bytes new) (its.0 ∙ ap (λ (h : List ℕ). before.long ++ h ∷ []) c.in_ok-from_slice.ensures.items, its.1))
