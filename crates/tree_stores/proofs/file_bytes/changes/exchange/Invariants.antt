use Rattle.std.proofs.Common.{◌≡◌, ◌≤◌, length, take, drop, reverse}
use Rattle.std.specs.Prelude.{All}
use Rattle.tree_stores.specs.Paged.{byte_of, HasRoom, changed}
use Rattle.tree_stores.proofs.file_bytes.changes.exchange.Given as goal

-- the pages left make of what stands there what all were to make, and those kept make of it what stood there at first
abbrev pub invariant-loop-left : goal.invariant-loop-left
invariant-loop-left l = record {
  within : l.left ≤ length l.changes.items;
  target : changed (take l.left l.changes.items) (byte_of l.pages) ≡ changed l.fn.changes.items (byte_of l.fn.pages);
  source : changed (reverse (drop l.left l.changes.items)) (byte_of l.pages) ≡ byte_of l.fn.pages;
  all : All (λ change. HasRoom l.pages change.number) (take l.left l.changes.items);
}

abbrev pub decreases-loop-left : goal.decreases-loop-left
decreases-loop-left l = l.left
