-- every book is explained
use Rattle.std.proofs.Common.{◌≡◌, ◌<◌, ◌≤◌, ◌+◌, ◌^◌, inl, length, ℕ, zero, suc, List, [], ◌∷◌, ◌++◌, Some, None, refl, arith}
use Rattle.std.specs.List.{AllByRecursion}
use Rattle.nfs_history.specs.declared.recorded.RecordedCall.{RecordedCall}
use Rattle.nfs_history.specs.Precedence.{call_at}
use Rattle.cut_check.specs.Places.{bindings_of}
use Rattle.book_laws.specs.Placing.{Placed}
use Rattle.tree_starts.specs.Start.{IsStart}
use Rattle.tree_starts.specs.declared.object.StartObject.{StartObject}
use Rattle.tree_starts.specs.declared.profile.Profile.{Profile}
use Rattle.file_tree.proofs.Starts.{few}
use Rattle.book_laws.proofs.Starting.{all_numbers}
use Rattle.book_laws.specs.Book.{Book, setting, tree_at_first}
use Rattle.book_laws.specs.Plan.{plan_of}
use Rattle.book_laws.specs.Steps.{opening_book, IsRun}
use Rattle.book_laws.specs.Explained.{IsExplained, EveryBookIsExplained}
use Rattle.book_laws.proofs.Invariant.{IsInvariant}
use Rattle.book_laws.proofs.Shaped.{has_shape}
use Rattle.book_laws.proofs.Ordered.{respects_order}
use Rattle.book_laws.proofs.Running.{plan_runs}
use Rattle.book_laws.proofs.Stable.{cuts_keep_stable}
use Rattle.book_laws.proofs.Verified.{verifiers_show}
use Rattle.book_laws.proofs.Bound.{tree_stands}
use Rattle.book_laws.proofs.Kept.{kept}

pub explained : (book : Book) → IsInvariant book → IsExplained book
explained book i = record {
  history = i.genuine.is_history;
  witness = record {
    shape = has_shape book i;
    order = respects_order book i;
    runs = plan_runs book i;
    cuts = cuts_keep_stable book (bindings_of book.history.known.head.root (plan_of book).binds) i;
    verifiers = verifiers_show book i;
  };
  tree = tree_stands (setting book) book.over book.placed (tree_at_first book) i.runs;
}

pub opening_holds : (profile : Profile) (start : List StartObject) (faults : ℕ) → IsStart start → IsInvariant (opening_book profile start faults)
opening_holds profile start faults is = record {
  genuine = record { is_history = record { known = record { follow = tt; head = refl; eras = refl; calls = tt }; events = refl }; waiting = λ lane xid. record { place = None; waits = tt; within = λ p e. absurd (nothing_waits p e) } };
  root = refl;
  start = is;
  eras = refl;
  known = tt;
  distinct = tt;
  complete = λ n call at came. absurd (none n at);
  paired = tt;
  begun = tt;
  ordered = tt;
  runs = refl;
  made = all_numbers _ 1 (length start) (λ k from below. (inl ((λ same. zero_past k same from), omega (arith, below)), small k below));
  cuts = tt;
  durable = λ ahead step behind parts ended. absurd (nothing ahead step behind parts);
  records = refl;
  mark = (omega arith, omega arith);
} where
  zero_past : (k : ℕ) → k ≡ 0 → 1 ≤ k → ⊥
  zero_past k e lt = omega (arith, e, lt)

  small : (k : ℕ) → k < 1 + length start → k < 2 ^ 64
  small k below = let few = few start is in omega (arith, below, few)

  none : (n : ℕ) {call : RecordedCall} → call_at [] n ≡ Some call → ⊥
  none zero e = cc
  none (suc n) e = cc

  nothing_waits : (p : ℕ) → None ≡ Some p → ⊥
  nothing_waits p e = cc

  nothing : (ahead : List Placed) (step : Placed) (behind : List Placed) → [] ≡ ahead ++ step ∷ behind → ⊥
  nothing [] step behind f = cc
  nothing (x ∷ ahead) step behind f = cc

run_explained : (book : Book) (books : List Book) → IsInvariant book → IsRun book books → AllByRecursion IsExplained books
run_explained book [] i run = tt
run_explained book (next ∷ books) i run = let after = kept book next i run.0 in (explained next after, run_explained next books after run.1)

pub every_book : EveryBookIsExplained
every_book profile start faults books is run =
    (explained (opening_book profile start faults) (opening_holds profile start faults is), run_explained (opening_book profile start faults) books (opening_holds profile start faults is) run)
