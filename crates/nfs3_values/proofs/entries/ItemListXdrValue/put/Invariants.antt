use Rattle.std.proofs.Common.{◌≡◌, ◌++◌, drop}
use Rattle.std.specs.List.{AllByRecursion}
use Rattle.xdr_records.specs.Texts.{list_text}
use Rattle.nfs3_values.proofs.entries.ItemListXdrValue.put.Given as goal

-- the entries so far are put, and those that are left come behind
abbrev pub invariant-loop-entry : goal.invariant-loop-entry
invariant-loop-entry g l =
    (l.out.items ++ list_text g.E.XdrValue.text (drop l.entry-index l.entry-items) ≡ l.fn.out.items ++ list_text g.E.XdrValue.text l.self)
    × (AllByRecursion g.E.XdrValue.fits (drop l.entry-index l.entry-items) → AllByRecursion g.E.XdrValue.fits l.self)
