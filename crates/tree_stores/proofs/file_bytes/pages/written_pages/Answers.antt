use Rattle.std.proofs.Common.{ℕ, ◌-◌, ◌*◌, ◌/◌, List, ◌++◌, ap, ◌∙◌, arith}
use Rattle.tree_stores.specs.declared.file_bytes.page.TheConstants.{PAGE}
use Rattle.tree_stores.specs.declared.file_bytes.changes.Change.{Change}
use Rattle.tree_stores.specs.Paged.{byte_of, changed, overwritten}
use Rattle.tree_stores.specs.Files.{written}
use Rattle.tree_stores.proofs.Paging.{at_number}
use Rattle.tree_stores.proofs.Windows.{written_none, written_more, written_all}
use Rattle.tree_stores.proofs.file_bytes.pages.written_pages.Goals as goal

pub loop-number-init : goal.loop-number-init
loop-number-init c = λ g.
    ap (λ (cs : List Change). changed cs g) c.in_ok-changes.ensures.items ∙ written_none (c.args.offset / PAGE * PAGE) (overwritten (byte_of c.args.pages.now) c.args.offset c.args.added.now) g

pub loop-number-preserved : goal.loop-number-preserved
loop-number-preserved c = λ g.
    let page =
    c.in_ok-page.ensures ∙ ap (λ (at : ℕ). written c.stored.result.now at c.piece.result.now) c.saturating_sub-at.ensures
    ∙ ap (λ (bytes : List ℕ). written c.stored.result.now (c.args.offset - c.loop-number.number * PAGE) bytes) c.piece.ensures in
    ap (λ (cs : List Change). changed cs g) c.in_ok-push.ensures.items
    ∙ ap (λ (p : List ℕ). changed (c.loop-number.changes.items ++ at_number c.loop-number.number p) g) page
    ∙ written_more c.args.pages.now c.args.offset c.args.added.now c.stored.result.now c.loop-number.number (c.args.offset / PAGE * PAGE) c.loop-number.changes.items
    c.stored.ensures.value (omega arith) c.loop-number.invariant g

pub returns : goal.returns
returns c =
    written_all c.args.pages.now c.args.offset c.args.added.now (c.args.offset / PAGE * PAGE) (c.loop-number.number * PAGE) c.loop-number.changes.items
    (omega arith) (omega (arith, c.div_ceil-number-end.ensures)) c.loop-number.invariant
