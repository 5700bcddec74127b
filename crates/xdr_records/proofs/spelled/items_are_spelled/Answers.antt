use Rattle.xdr_records.proofs.ItemLaws as items
use Rattle.xdr_records.proofs.spelled.items_are_spelled.Goals as goal

pub returns : goal.returns
returns c = record { words = items.words; longs = items.longs; flags = items.flags; fixed = items.fixeds; opaques = items.opaques }
