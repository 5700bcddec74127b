use Rattle.std.proofs.Common.{sym, ap, ◌∙◌, length}
use Rattle.tree_stores.specs.Paged.{byte_of}
use Rattle.tree_stores.proofs.Places.{length-listed}
use Rattle.tree_stores.proofs.file_bytes.file.FileBytes.len.Goals as goal

pub returns-clause-value : goal.returns-clause-value
returns-clause-value c = sym (length-listed (byte_of c.self.inside.pages) c.self.inside.size) ∙ ap length c.self.view_is
