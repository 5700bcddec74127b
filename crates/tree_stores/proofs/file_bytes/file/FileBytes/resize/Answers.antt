use Rattle.std.proofs.Common.{List, ap, ◌∙◌}
use Rattle.std.proofs.lemmas.Result.{on_ok_weaker}
use Rattle.tree_stores.specs.declared.file_bytes.changes.Change.{Change}
use Rattle.tree_stores.specs.Files.{resized}
use Rattle.tree_stores.specs.Paged.{byte_of, changed}
use Rattle.tree_stores.specs.Undo.{Restores}
use Rattle.tree_stores.proofs.Undoing.{cut_restores, grown}
use Rattle.tree_stores.proofs.file_bytes.file.FileBytes.resize.Goals as goal
use Rattle.tree_stores.proofs.file_bytes.file.FileBytes.resize.Goals.{then-size-self+in_ok-changes, else-size-self, After-exchange-arg-1}

-- the pages are those of the file at its new size
sized : (c : After-exchange-arg-1) → Restores (record { size = c.args.size; changes = c.if-size-self.changes }) c.args.self.now (resized c.args.self.now c.args.size)
sized c =
    cut_restores (byte_of c.self.inside.pages) c.self.inside.size c.args.self.now c.self.invariant c.self.view_is (record { size = c.args.size; changes = c.if-size-self.changes }) c.requires
    (elim c.if-size-self.branch [
      | then-size-self+in_ok-changes w ↦ ap (λ v. changed v.items (byte_of c.self.inside.pages)) w.changes-is ∙ w.in_ok-changes.ensures
      | else-size-self w ↦
          ap (λ v. changed v.items (byte_of c.self.inside.pages)) w.changes-is
          ∙ ap (λ (cs : List Change). changed cs (byte_of c.self.inside.pages)) w.new-changes.ensures.items
          ∙ grown (byte_of c.self.inside.pages) c.self.inside.size c.args.size c.self.invariant w.if-size-self.false
    ])

pub exchange-requires : goal.exchange-requires
exchange-requires c = (resized c.args.self.now c.args.size, sized c)

pub returns-clause-ok : goal.returns-clause-ok
returns-clause-ok c = on_ok_weaker c.exchange.result (λ all. all (resized c.args.self.now c.args.size) (sized (goal.at.returns-clause-ok c).After-exchange-arg-1)) c.exchange.ensures.ok
