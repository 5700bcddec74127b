use Rattle.std.proofs.Common.{sym}
use Rattle.std.proofs.lemmas.List.Elements.{All-same}
use Rattle.tree_stores.specs.declared.file_bytes.changes.Change.{Change}
use Rattle.tree_stores.specs.Paged.{HasRoom}
use Rattle.tree_stores.proofs.file_bytes.changes.replace.Goals as goal

pub exchange-requires : goal.exchange-requires
exchange-requires c =
    All-same (λ (change : Change). HasRoom c.make_room.new.pages change.number) c.args.changes.items c.as_slice.result.now (sym c.as_slice.ensures.value) c.in_ok-make_room.ensures.room
