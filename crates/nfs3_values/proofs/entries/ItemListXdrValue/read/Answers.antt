use Rattle.std.proofs.Common.{◌≡◌, true, false, refl, rules}
use Rattle.xdr_records.specs.Reading.{reading, items_at}
use Rattle.xdr_records.proofs.Loops.{one_more}
use Rattle.nfs3_values.specs.Told.{kind_of}
use Rattle.nfs3_values.proofs.entries.ItemListXdrValue.read.Goals as goal

pub loop-index-preserved : goal.loop-index-preserved
loop-index-preserved g c =
    let item = reading kind_of g.E.XdrValue.grammar in
    let set : c.in_ok-read.field-0 ≡ true = search rules in
    rw c.in_ok-push.ensures.items
    (one_more kind_of item c.loop-index.listed.items (items_at kind_of item c.left-count.result c.args.reader.now) c.left-count.result c.loop-index.index c.loop-index.reader c.loop-index-test.true c.loop-index.invariant
    c.in_ok-read.field-0 c.read.new.reader c.read-in-loop-index.new.reader c.in_ok-read-2.field-0 set c.in_ok-read.ensures c.in_ok-read-2.ensures)
