use Rattle.std.proofs.Common.{◌≡◌, ◌-◌}
use Rattle.xdr_records.specs.Reading.{reading, items_at}
use Rattle.xdr_records.proofs.Loops.{with_front}
use Rattle.nfs3_values.specs.Told.{kind_of}
use Rattle.nfs3_values.proofs.entries.ItemListXdrValue.read.Given as goal

-- the entries so far, and those that are left
abbrev pub invariant-loop-index : goal.invariant-loop-index
invariant-loop-index g l =
    with_front l.listed.items (items_at kind_of (reading kind_of g.E.XdrValue.grammar) (l.count - l.index) l.reader) ≡ items_at kind_of (reading kind_of g.E.XdrValue.grammar) l.count l.fn.reader
