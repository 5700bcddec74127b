-- the trees behind the records of a book, with one call more
use Rattle.std.proofs.Common.{◌≡◌, ℕ, zero, suc, ◌+◌, ◌-◌, ◌≤◌, Bool, true, false, List, [], ◌∷◌, ◌++◌, length, take, drop, Some, refl, sym, ap, ◌∙◌, subst, arith}
use Rattle.std.specs.Prelude.{◌&&◌, not, if◌then◌else◌}
use Rattle.std.proofs.lemmas.List.{append_assoc, take-append-drop}
use Rattle.nfs3_types.specs.declared.replies.Outcome.{Outcome}
use Rattle.nfs_history.specs.Success.{succeeded}
use Rattle.nfs_history.specs.declared.recorded.RecordedCall.{RecordedCall}
use Rattle.replay_law.specs.Run.{state_after, kept_steps}
use Rattle.replay_law.proofs.Runs.{state_after-append}
use Rattle.tree_nodes.specs.Tree.{Tree}
use Rattle.tree_nodes.proofs.Chains.{chained}
use Rattle.tree_laws.specs.Leaving.{only_looks}
use Rattle.book_laws.specs.Placing.{Placed, is_recorded, records_in, front_with}
use Rattle.book_laws.specs.Book.{Book, tree_of, records_kept, Setting, next_by, setting, tree_at_first}
use Rattle.book_laws.proofs.Invariant.{Over, IsKnown, AreKnown, AllKnown, IsInvariant}
use Rattle.book_laws.proofs.Lists.{all_behind}
use Rattle.book_laws.proofs.Stable.{records_append}
use Rattle.book_laws.proofs.Moving.{records_front}
use Rattle.book_laws.proofs.Running.{unrecorded_leaves_by}
use Rattle.book_ledger.specs.Inside.{tree_behind}

-- a front with so many records is one of a longer list too
pub front_same : (c : ℕ) (steps : List Placed) (last : Placed) → c ≤ records_in steps → take (front_with c (steps ++ last ∷ [])) (steps ++ last ∷ []) ≡ take (front_with c steps) steps
front_same zero steps last le = refl
front_same (suc c) [] last le = absurd (omega (arith, le))
front_same (suc c) (s ∷ steps) last le = go (is_recorded s) le (λ n h. front_same n steps last h) where
  go : (r : Bool) → suc c ≤ (if r then suc (records_in steps) else records_in steps)
      → ((n : ℕ) → n ≤ records_in steps → take (front_with n (steps ++ last ∷ [])) (steps ++ last ∷ []) ≡ take (front_with n steps) steps)
      → s ∷ take (front_with (if r then c else suc c) (steps ++ last ∷ [])) (steps ++ last ∷ []) ≡ s ∷ take (front_with (if r then c else suc c) steps) steps
  go true le rest = ap (λ (xs : List Placed). s ∷ xs) (rest c (omega (arith, le)))
  go false le rest = ap (λ (xs : List Placed). s ∷ xs) (rest (suc c) le)

-- calls with no record leave the tree
none_recorded : (s : Setting) (calls : List RecordedCall) (e : ℕ) (steps : List Placed) (tree after : Tree) → AreKnown calls e steps → records_in steps ≡ 0
    → state_after (next_by s) tree steps ≡ Some after → after ≡ tree
none_recorded s calls e [] tree after known none runs = sym (same runs) where
  same : Some tree ≡ Some after → tree ≡ after
  same f = cc
none_recorded s calls e (step ∷ steps) tree after known none runs =
    let first = chained (λ t. state_after (next_by s) t steps) (next_by s tree step.number step.call step.outcome) after runs in
    let left = leaves (is_recorded step) refl none in
    none_recorded s calls e steps first.0 after known.1 left.1 first.2
    ∙ unrecorded_leaves_by s tree first.0 step.number step.call known.0.reply (ap (next_by s tree step.number step.call) (sym known.0.received) ∙ first.1)
    (ap (λ (o : Outcome). not (only_looks step.call) && succeeded step.call o) (sym known.0.received) ∙ left.0) where
      leaves : (r : Bool) → is_recorded step ≡ r → (if r then suc (records_in steps) else records_in steps) ≡ 0 → (is_recorded step ≡ false) × (records_in steps ≡ 0)
      leaves true is zero_records = absurd (omega (arith, zero_records))
      leaves false is zero_records = (is, zero_records)

front_base : (s : Setting) (tree after : Tree) (xs ys : List Placed) → state_after (next_by s) tree (xs ++ ys) ≡ Some after
    → (middle : Tree) × (state_after (next_by s) tree xs ≡ Some middle) × (state_after (next_by s) middle ys ≡ Some after)
front_base s tree after xs ys e =
    chained (λ t. state_after (next_by s) t ys) (state_after (next_by s) tree xs) after (sym (state_after-append (next_by s) tree xs ys) ∙ e)

now_known : (calls : List RecordedCall) (e : ℕ) (over : List Over) (placed : List Placed) → AllKnown calls e over placed → (now : ℕ) × AreKnown calls now placed
now_known calls e [] placed known = (e, known)
now_known calls e (first ∷ over) placed known = now_known calls (e + 1) over placed known.1

-- all records lead to the tree of all calls
pub behind_all : (book : Book) (after : Tree) → IsInvariant book → tree_of book ≡ Some after → tree_behind book (length book.device.records) ≡ Some after
behind_all book after i stood =
    let next = next_by (setting book) in
    let count : length book.device.records - records_kept book ≡ records_in book.placed = omega (arith, i.records) in
    let k = front_with (records_in book.placed) book.placed in
    let front = take k book.placed in
    let rest = drop k book.placed in
    let parts : front ++ rest ≡ book.placed = take-append-drop k book.placed in
    let whole : state_after next (tree_at_first book) ((kept_steps book.over ++ front) ++ rest) ≡ Some after =
    ap (state_after next (tree_at_first book)) (append_assoc (kept_steps book.over) front rest ∙ ap (λ (xs : List Placed). kept_steps book.over ++ xs) parts) ∙ stood in
    let split = front_base (setting book) (tree_at_first book) after (kept_steps book.over ++ front) rest whole in
    let has : records_in front ≡ records_in book.placed = records_front (records_in book.placed) book.placed (itself (records_in book.placed)) in
    let all : records_in book.placed ≡ records_in front + records_in rest = sym (ap records_in parts) ∙ records_append front rest in
    let known = now_known book.history.known.calls 1 book.over book.placed i.known in
    let known_rest = all_behind (IsKnown book.history.known.calls known.0) front rest (subst (AreKnown book.history.known.calls known.0) (sym parts) known.1) in
    let same = none_recorded (setting book) book.history.known.calls known.0 rest split.0 after known_rest (left (records_in book.placed) (records_in front) (records_in rest) has all) split.2 in
    ap (λ (n : ℕ). state_after next (tree_at_first book) (kept_steps book.over ++ take (front_with n book.placed) book.placed)) count ∙ split.1 ∙ ap Some (sym same) where
      itself : (n : ℕ) → n ≤ n
      itself n = omega arith

      left : (a b c : ℕ) → b ≡ a → a ≡ b + c → c ≡ 0
      left a b c f g = omega (arith, f, g)
