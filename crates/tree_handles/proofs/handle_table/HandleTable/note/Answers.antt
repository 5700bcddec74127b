use Rattle.std.proofs.Common.{length}
use Rattle.std.specs.Arc.{arc_value}
use Rattle.std.proofs.lemmas.Bool.{le-leb, lt-leb}
use Rattle.indexmap.proofs.MapLemmas.{OnOk-map}
use Rattle.tree_handles.specs.declared.handle_table.HandleTable.{HandleTable}
use Rattle.tree_handles.specs.Finding.{tabled}
use Rattle.tree_handles.proofs.Lookups.{short_gains, long_gains, kept_then_gained}
use Rattle.tree_handles.proofs.handle_table.HandleTable.note.Goals as goal

pub returns-then-handle-le-SHORT_LIMIT-clause-ok : goal.returns-then-handle-le-SHORT_LIMIT-clause-ok
returns-then-handle-le-SHORT_LIMIT-clause-ok c =
    let handle = c.args.handle.now in
    let known = c.know.new.self in
    let after : HandleTable = record { places = known.places; short = c.fill.new.objects; long = known.long } in
    OnOk-map c.fill.result _ _ (λ writes. kept_then_gained (tabled c.args.self.now) (tabled known) (tabled after) handle c.args.object c.know.ensures.same
    (short_gains (arc_value known.places) handle c.in_ok-place.place c.args.object c.in_ok-place.ensures.ok known.short.items c.fill.new.objects.items known.long.items
    (le-leb (length handle) 31 c.if-handle-le-SHORT_LIMIT.true) writes)) c.fill.ensures.ok

pub returns-else-handle-le-SHORT_LIMIT-clause-ok : goal.returns-else-handle-le-SHORT_LIMIT-clause-ok
returns-else-handle-le-SHORT_LIMIT-clause-ok c =
    let handle = c.args.handle.now in
    let known = c.know.new.self in
    let fill = c.fill-else-handle-le-SHORT_LIMIT in
    let after : HandleTable = record { places = known.places; short = known.short; long = fill.new.objects } in
    OnOk-map fill.result _ _ (λ writes. kept_then_gained (tabled c.args.self.now) (tabled known) (tabled after) handle c.args.object c.know.ensures.same
    (long_gains (arc_value known.places) handle c.in_ok-place.place c.args.object c.in_ok-place.ensures.ok known.short.items known.long.items fill.new.objects.items
    (lt-leb (length handle) 31 c.if-handle-le-SHORT_LIMIT.false) writes)) fill.ensures.ok
