use Rattle.std.proofs.Common.{◌∙◌, sym, subst, take, arith}
use Rattle.std.proofs.lemmas.List.{take_all}
use Rattle.std.proofs.lemmas.List.Elements.{All-more, All-same, All-weaker}
use Rattle.tree_stores.specs.declared.file_bytes.changes.Change.{Change}
use Rattle.tree_stores.specs.Paged.{HasRoom}
use Rattle.tree_stores.proofs.file_bytes.changes.make_room.Goals as goal

pub loop-change-preserved : goal.loop-change-preserved
loop-change-preserved c =
    let changes = c.args.changes.now in
    let i = c.loop-change.change-index in
    let change = c.change-item.result in
    let old = c.loop-change.pages in
    let new = c.set_up.new.pages in (
      c.set_up.ensures.same ∙ c.loop-change.invariant.0,
      All-more (λ (other : Change). HasRoom new other.number) changes i change (omega arith)
          (All-weaker (λ (other : Change). HasRoom old other.number) (λ (other : Change). HasRoom new other.number)
          (λ other here. c.set_up.ensures.kept other.number here) (take i changes) c.loop-change.invariant.1)
          (subst (λ (other : Change). HasRoom new other.number) c.change-item.is c.in_ok-set_up.ensures.room),
    )

pub returns-clause-room : goal.returns-clause-room
returns-clause-room c =
    let changes = c.args.changes.now in
    let i = c.loop-change.change-index in
    All-same (λ (change : Change). HasRoom c.loop-change.pages change.number) changes (take i changes) (sym (take_all i changes (omega arith))) c.loop-change.invariant.1
