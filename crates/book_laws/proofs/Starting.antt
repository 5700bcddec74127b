-- the objects that stood at first, and the numbers of those that calls make
use Rattle.std.proofs.Common.{◌≡◌, ◌≢◌, ℕ, zero, suc, ◌+◌, ◌<◌, ◌≤◌, length, List, None, arith}
use Rattle.std.specs.List.{range_with_len}
use Rattle.std.specs.List.{AllByRecursion}
use Rattle.tree_starts.specs.Start.{IsStart, object_made}
use Rattle.tree_starts.specs.declared.object.StartObject.{StartObject}
use Rattle.tree_nodes.specs.Tree.{entry_of}
use Rattle.file_tree.specs.StartTree.{start_tree}
use Rattle.tree_laws.proofs.Numbered.{one_number, past}
use Rattle.tree_laws.proofs.Starting.{none_further}

pub other_object : (first n m : ℕ) → n ≢ m → object_made first n ≢ object_made first m
other_object first n m apart same = apart (one_number first n m same)

-- what is so of each number among so many from one on is so of all of them
pub all_numbers : (P : ℕ → Type 0) (a n : ℕ) → ((k : ℕ) → a ≤ k → k < a + n → P k) → AllByRecursion P (range_with_len a n)
all_numbers P a zero so = tt
all_numbers P a (suc n) so = (so a (omega arith) (omega arith), all_numbers P (a + 1) n (λ k from below. so k (omega (arith, from)) (omega (arith, below))))

-- what a call makes doesn't stand there at first
pub call_alone : (start : List StartObject) → IsStart start → (number : ℕ) → number ≢ 0 → entry_of (start_tree start) (object_made (length start) number) ≡ None
call_alone start is number apart = none_further start (object_made (length start) number) is (past (length start) number apart)
