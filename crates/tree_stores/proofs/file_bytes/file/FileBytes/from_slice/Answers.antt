use Rattle.std.proofs.Common.{ℕ, List, length, refl, ap, ◌∙◌}
use Rattle.tree_stores.specs.Files.{written}
use Rattle.tree_stores.specs.Paged.{byte_of}
use Rattle.tree_stores.proofs.Places.{file_of, list_of, written_alone}
use Rattle.tree_stores.proofs.file_bytes.file.FileBytes.from_slice.Goals as goal

pub invariant_of-result : goal.invariant_of-result
invariant_of-result c = file_of (byte_of c.in_ok-pages.pages) (length c.args.bytes.now) c.args.bytes.now refl c.requires c.in_ok-pages.ensures

pub returns-then-size-le-PAGE : goal.returns-then-size-le-PAGE
returns-then-size-le-PAGE c = list_of (byte_of c.in_ok-pages.pages) (length c.args.bytes.now) c.args.bytes.now refl c.in_ok-pages.ensures

pub returns : goal.returns
returns c = c.in_ok-write.ensures.ok ∙ ap (λ (xs : List ℕ). written xs 0 c.args.bytes.now) c.new-file.ensures ∙ written_alone c.args.bytes.now
