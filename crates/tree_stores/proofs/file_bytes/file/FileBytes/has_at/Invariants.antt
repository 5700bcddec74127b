use Rattle.std.proofs.Common.{◌*◌}
use Rattle.tree_stores.specs.declared.file_bytes.page.TheConstants.{PAGE}
use Rattle.tree_stores.specs.Paged.{byte_of}
use Rattle.tree_stores.proofs.Reading.{AgreesTo}
use Rattle.tree_stores.proofs.file_bytes.file.FileBytes.has_at.Given as goal

-- the bytes agree up to the page at hand
abbrev pub invariant-loop-number : goal.invariant-loop-number
invariant-loop-number l = AgreesTo (byte_of l.self-inside.pages) l.offset l.bytes (l.number * PAGE)
