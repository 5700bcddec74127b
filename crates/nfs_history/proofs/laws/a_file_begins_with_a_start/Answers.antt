use Rattle.std.proofs.Common.{sym, subst}
use Rattle.history_file.proofs.FileStart.{file_start}
use Rattle.history_file.specs.tree_starts_specs.Head.{Head}
use Rattle.history_file.specs.tree_starts_specs.Start.{IsStart}
use Rattle.nfs_history.proofs.laws.a_file_begins_with_a_start.Goals as goal

pub returns : goal.returns
returns c = λ bytes known is. subst (λ (h : Head). IsStart h.start) (sym is.2.head) (file_start bytes is.0 is.1)
