use Rattle.std.proofs.Common.{replicate}
use Rattle.std.proofs.lemmas.List.{length-replicate}
use Rattle.tree_stores.specs.Paged.{byte_of}
use Rattle.tree_stores.proofs.Places.{file_of, list_of}
use Rattle.tree_stores.proofs.Paging.{zeros_read}
use Rattle.tree_stores.proofs.file_bytes.file.FileBytes.zeros.Goals as goal

pub invariant_of-result : goal.invariant_of-result
invariant_of-result c = file_of (byte_of c.new.result) c.args.size (replicate c.args.size 0) (length-replicate c.args.size 0) c.requires (zeros_read c.new.result c.args.size c.new.ensures)

pub returns : goal.returns
returns c = list_of (byte_of c.new.result) c.args.size (replicate c.args.size 0) (length-replicate c.args.size 0) (zeros_read c.new.result c.args.size c.new.ensures)
