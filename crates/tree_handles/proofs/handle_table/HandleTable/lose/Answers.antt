use Rattle.std.proofs.Common.{◌≡◌, length, None, Some, sym, ap, ◌∙◌}
use Rattle.std.specs.Arc.{arc_value}
use Rattle.std.proofs.lemmas.Bool.{le-leb, lt-leb}
use Rattle.tree_handles.specs.Places.{Handles, place_of}
use Rattle.tree_handles.proofs.Lookups.{short_write, long_write}
use Rattle.tree_handles.proofs.handle_table.HandleTable.lose.Goals as goal

pub returns-then-handle-le-SHORT_LIMIT : goal.returns-then-handle-le-SHORT_LIMIT
returns-then-handle-le-SHORT_LIMIT c =
    let table = c.args.self.now in
    let handle = c.args.handle.now in
    let here : place_of (arc_value table.places) handle ≡ Some c.in-Some.place = ap (λ (h : Handles). place_of h handle) (sym c.deref.ensures) ∙ sym c.place.ensures ∙ c.in-Some.is in
    short_write (arc_value table.places) handle c.in-Some.place None here table.short.items c.clear.new.items.items table.long.items
    (le-leb (length handle) 31 c.if-handle-le-SHORT_LIMIT.true) c.clear.ensures

pub returns-else-handle-le-SHORT_LIMIT : goal.returns-else-handle-le-SHORT_LIMIT
returns-else-handle-le-SHORT_LIMIT c =
    let table = c.args.self.now in
    let handle = c.args.handle.now in
    let here : place_of (arc_value table.places) handle ≡ Some c.in-Some.place = ap (λ (h : Handles). place_of h handle) (sym c.deref.ensures) ∙ sym c.place.ensures ∙ c.in-Some.is in
    long_write (arc_value table.places) handle c.in-Some.place None here table.short.items table.long.items c.clear-else-handle-le-SHORT_LIMIT.new.items.items
    (lt-leb (length handle) 31 c.if-handle-le-SHORT_LIMIT.false) c.clear-else-handle-le-SHORT_LIMIT.ensures
