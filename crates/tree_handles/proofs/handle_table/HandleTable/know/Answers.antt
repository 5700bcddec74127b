use Rattle.std.proofs.Common.{◌≡◌, ℕ, Bool, List, Option, length, take, ap, ◌∙◌, if◌then◌else◌, rules}
use Rattle.std.specs.Arc.{arc_value}
use Rattle.std.proofs.lemmas.Bool.{le-leb, lt-leb}
use Rattle.tree_handles.specs.Finding.{stored}
use Rattle.tree_handles.proofs.Lookups.{taken_place, short_known, long_known}
use Rattle.tree_handles.proofs.handle_table.HandleTable.know.Goals as goal

pub returns-then-handle-le-SHORT_LIMIT-clause-ok : goal.returns-then-handle-le-SHORT_LIMIT-clause-ok
returns-then-handle-le-SHORT_LIMIT-clause-ok c =
    taken_place (arc_value c.args.self.now.places) (arc_value c.add_place.new.places) c.args.handle.now c.in_ok-place.place (search rules) c.in_ok-place.ensures.ok.0 c.in_ok-place.ensures.ok.1

pub returns-else-handle-le-SHORT_LIMIT-clause-ok : goal.returns-else-handle-le-SHORT_LIMIT-clause-ok
returns-else-handle-le-SHORT_LIMIT-clause-ok c =
    taken_place (arc_value c.args.self.now.places) (arc_value c.add_place.new.places) c.args.handle.now c.in_ok-place.place (search rules) c.in_ok-place.ensures.ok.0 c.in_ok-place.ensures.ok.1

pub returns-then-handle-le-SHORT_LIMIT-clause-same : goal.returns-then-handle-le-SHORT_LIMIT-clause-same
returns-then-handle-le-SHORT_LIMIT-clause-same c = λ other.
    let table = c.args.self.now in
    let handle = c.args.handle.now in
    let handles = arc_value table.places in
    let after = arc_value c.add_place.new.places in
    let kind = le-leb (length handle) 31 c.if-handle-le-SHORT_LIMIT.true in
    let at : c.in_ok-place.place ≡ length handles.short = c.in_ok-place.ensures.ok.1 ∙ ap (λ (b : Bool). if b then length handles.short else length handles.long) kind in
    ap (λ (o : List (Option ℕ)). stored after o table.long.items other) (c.truncate.ensures.items ∙ ap (λ n. take n table.short.items) at)
    ∙ short_known handles table.short.items table.long.items handle after c.in_ok-place.ensures.ok.0 kind other

pub returns-else-handle-le-SHORT_LIMIT-clause-same : goal.returns-else-handle-le-SHORT_LIMIT-clause-same
returns-else-handle-le-SHORT_LIMIT-clause-same c = λ other.
    let table = c.args.self.now in
    let handle = c.args.handle.now in
    let handles = arc_value table.places in
    let after = arc_value c.add_place.new.places in
    let kind = lt-leb (length handle) 31 c.if-handle-le-SHORT_LIMIT.false in
    let at : c.in_ok-place.place ≡ length handles.long = c.in_ok-place.ensures.ok.1 ∙ ap (λ (b : Bool). if b then length handles.short else length handles.long) kind in
    ap (λ (o : List (Option ℕ)). stored after table.short.items o other) (c.truncate-else-handle-le-SHORT_LIMIT.ensures.items ∙ ap (λ n. take n table.long.items) at)
    ∙ long_known handles table.short.items table.long.items handle after c.in_ok-place.ensures.ok.0 kind other
