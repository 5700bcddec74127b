use Rattle.tree_stores.proofs.Paging.{no_pages}
use Rattle.tree_stores.proofs.file_bytes.pages.Pages.new.Goals as goal

pub returns : goal.returns
returns c = no_pages (record { first = c.new.result; rest = c.new-2.result }) c.new.ensures c.new-2.ensures.empty
