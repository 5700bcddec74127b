use Rattle.std.proofs.lemmas.Result.{on_ok_weaker}
use Rattle.tree_stores.specs.Files.{written}
use Rattle.tree_stores.specs.Paged.{byte_of}
use Rattle.tree_stores.proofs.Undoing.{write_restores}
use Rattle.tree_stores.proofs.file_bytes.file.FileBytes.write.Goals as goal

pub exchange-requires : goal.exchange-requires
exchange-requires c = (
  written c.args.self.now c.args.offset c.args.added.now,
  write_restores (byte_of c.self.inside.pages) c.self.inside.size c.args.self.now c.self.invariant c.self.view_is (record { size = c.max-size.result; changes = c.in_ok-changes.changes })
      c.args.offset c.args.added.now c.max-size.ensures c.requires c.in_ok-changes.ensures,
)

pub returns-clause-ok : goal.returns-clause-ok
returns-clause-ok c =
    on_ok_weaker c.exchange.result
    (λ all. all (written c.args.self.now c.args.offset c.args.added.now)
    (write_restores (byte_of c.self.inside.pages) c.self.inside.size c.args.self.now c.self.invariant c.self.view_is (record { size = c.max-size.result; changes = c.in_ok-changes.changes })
    c.args.offset c.args.added.now c.max-size.ensures c.requires c.in_ok-changes.ensures))
    c.exchange.ensures.ok
