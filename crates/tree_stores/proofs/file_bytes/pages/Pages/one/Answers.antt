use Rattle.std.proofs.Common.{◌∙◌}
use Rattle.std.proofs.lemmas.List.{take_all}
use Rattle.tree_stores.specs.declared.file_bytes.page.TheConstants.{PAGE}
use Rattle.tree_stores.proofs.Paging.{one_page}
use Rattle.tree_stores.proofs.file_bytes.pages.Pages.one.Goals as goal

pub returns : goal.returns
returns c =
    one_page (record { first = c.in_ok-front.field-0; rest = c.new.result }) c.args.bytes.now
    (c.in_ok-front.ensures ∙ take_all PAGE c.args.bytes.now c.requires) c.new.ensures.empty c.requires
