use Rattle.std.proofs.Common.{None, length, refl, sym, ◌∙◌}
use Rattle.std.proofs.lemmas.List.{nil_from_length}
use Rattle.std.proofs.lemmas.Bool.{eqb-true}
use Rattle.tree_stores.proofs.Paging.{byte_same}
use Rattle.tree_stores.proofs.file_bytes.pages.take_out_empty.Goals as goal

pub returns-then-is_empty : goal.returns-then-is_empty
returns-then-is_empty c =
    byte_same c.args.pages.now (record { first = c.args.pages.now.first; rest = c.remove.new.self }) c.args.number None refl c.remove.ensures.updates refl
    (sym c.stored.ensures.value ∙ nil_from_length c.stored.result.now (eqb-true (length c.stored.result.now) 0 (sym c.is_empty.ensures ∙ c.if-is_empty.true)))
