-- calls that are run again, and steps that are taken back
use Rattle.file_tree.specs.StartTree.{start_tree}
use Rattle.book_laws.specs.Book.{Setting, next_by}
use Rattle.std.proofs.Common.{◌≡◌, ℕ, zero, suc, ◌+◌, ◌<◌, ◌≤◌, List, [], ◌∷◌, ◌++◌, length, map, take, drop, get_or, Option, Some, None, refl, sym, ap, ◌∙◌, subst, arith}
use Rattle.std.specs.Prelude.{IsSome, option_and_then}
use Rattle.std.specs.List.{AllByRecursion}
use Rattle.std.proofs.lemmas.List.{drop-append-le, drop_all, take_all, take-map}
use Rattle.std.proofs.lemmas.Grind.{flat_map-append}
use Rattle.nfs_history.specs.declared.recorded.RecordedCall.{RecordedCall}
use Rattle.nfs3_types.specs.declared.calls.NfsCall.{NfsCall}
use Rattle.nfs3_types.specs.declared.replies.Outcome.{Outcome}
use Rattle.replay_law.specs.Run.{TakenStep, Era, state_after, kept_steps}
use Rattle.replay_law.proofs.Crashes.{kept_one_more}
use Rattle.replay_law.specs.Undone.{UndoesAll}
use Rattle.replay_law.proofs.Runs.{state_after-append, one_more, map_more, map_parts}
use Rattle.replay_law.proofs.Undos.{last_undone}
use Rattle.tree_nodes.specs.declared.undo.Undo.{Undo}
use Rattle.tree_nodes.specs.Tree.{Tree}
use Rattle.tree_nodes.specs.Undo.{TakesBack}
use Rattle.book_laws.specs.Placing.{Placed}
use Rattle.book_ledger.specs.declared.placed.PlacedCall.{PlacedCall}
use Rattle.book_ledger.specs.declared.placed.EraOver.{EraOver}
use Rattle.book_ledger.specs.declared.ledger.Ledger.{Ledger}
use Rattle.book_ledger.specs.Inside.{setting_in, IsAsked, asked_by, placed_in, era_in}
use Rattle.book_ledger.specs.Undoing.{IsSoundEra, tree_after, steps_kept, CanRun, CanRunAgain}

-- what holds of all holds of each
pub all_at : {X : Type 0} (P : X → Type 0) (xs : List X) (i : ℕ) (x : X) → i < length xs → x ≡ get_or xs i x → AllByRecursion P xs → P x
all_at P [] i x lt is all = absurd (omega (arith, lt))
all_at P (y ∷ xs) zero x lt is all = subst P (sym is) all.0
all_at P (y ∷ xs) (suc i) x lt is all = all_at P xs i x (omega (arith, lt)) is all.1

pub all_front : {X : Type 0} (P : X → Type 0) (n : ℕ) (xs : List X) → AllByRecursion P xs → AllByRecursion P (take n xs)
all_front P zero xs all = tt
all_front P (suc n) [] all = tt
all_front P (suc n) (x ∷ xs) all = (all.0, all_front P n xs all.1)

front_some : {A B : Type 0} (f : A → Option B) (o : Option A) → IsSome (option_and_then f o) → IsSome o
front_some f None s = s
front_some f (Some x) s = refl

module _ (s : Setting) (recorded : List RecordedCall) (tree : Tree) (placed : List PlacedCall) where
  -- the calls as far as one more
  pub run_further : (i : ℕ) (x : PlacedCall) (middle after : Tree) → i < length placed → x ≡ get_or placed i x → tree_after s recorded tree (take i placed) ≡ Some middle
      → next_by s middle x.number (asked_by recorded x.number) x.outcome ≡ Some after → tree_after s recorded tree (take (i + 1) placed) ≡ Some after
  run_further i x middle after lt is before step =
      ap (state_after (next_by s) tree) (map_more (placed_in recorded) placed i x lt is)
      ∙ one_more (next_by s) tree middle after (map (placed_in recorded) (take i placed)) (placed_in recorded x) before step

  -- and the next one has a tree
  pub runs_further : (i : ℕ) (x : PlacedCall) (middle : Tree) → i < length placed → x ≡ get_or placed i x → tree_after s recorded tree (take i placed) ≡ Some middle
      → IsSome (tree_after s recorded tree placed) → IsSome (next_by s middle x.number (asked_by recorded x.number) x.outcome)
  runs_further i x middle lt is before all =
      let parts = map_parts (placed_in recorded) placed i x lt is in
      let behind : List Placed = placed_in recorded x ∷ map (placed_in recorded) (drop (i + 1) placed) in
      let whole : state_after (next_by s) tree (map (placed_in recorded) placed) ≡ state_after (next_by s) middle behind =
      ap (state_after (next_by s) tree) parts ∙ state_after-append (next_by s) tree (map (placed_in recorded) (take i placed)) behind
      ∙ ap (option_and_then (λ t. state_after (next_by s) t behind)) before in
      front_some (λ t. state_after (next_by s) t (map (placed_in recorded) (drop (i + 1) placed))) (next_by s middle x.number (asked_by recorded x.number) x.outcome) (subst IsSome whole all)

-- ---- steps that are taken back

drop_last : {X : Type 0} (m : ℕ) (xs ys : List X) (x : X) → ys ≡ xs ++ x ∷ [] → m ≤ length xs → drop m ys ≡ drop m xs ++ x ∷ []
drop_last m xs ys x e le = ap (drop m) e ∙ drop-append-le m xs (x ∷ []) le

-- the last value takes the last step back, and those ahead of it the others
pub one_back : (m : ℕ) (undos left : List Undo) (undo : Undo) (after before : Tree) → undos ≡ left ++ undo ∷ [] → m ≤ length left → UndoesAll TakesBack (drop m undos) after before
    → (middle : Tree) × TakesBack undo after middle × UndoesAll TakesBack (drop m left) middle before
one_back m undos left undo after before parts le back =
    last_undone TakesBack (drop m left) undo after before (subst (λ (us : List Undo). UndoesAll TakesBack us after before) (drop_last m left undos undo parts le) back)

pub none_back : (m : ℕ) (undos : List Undo) (after before : Tree) → length undos ≤ m → UndoesAll TakesBack (drop m undos) after before → after ≡ before
none_back m undos after before le back = subst (λ (us : List Undo). UndoesAll TakesBack us after before) (drop_all m undos le) back

-- ---- eras that are run again

module _ {State Call Outcome : Type 0} (next : State → ℕ → Call → Outcome → Option State) where
  pub front_runs_on : (s : State) (xs ys : List (TakenStep Call Outcome)) → IsSome (state_after next s (xs ++ ys)) → IsSome (state_after next s xs)
  front_runs_on s xs ys all = front_some (λ t. state_after next t ys) (state_after next s xs) (subst IsSome (state_after-append next s xs ys) all)

  pub from_there : (s middle : State) (xs ys : List (TakenStep Call Outcome)) → state_after next s xs ≡ Some middle → state_after next s (xs ++ ys) ≡ state_after next middle ys
  from_there s middle xs ys reached = state_after-append next s xs ys ∙ ap (option_and_then (λ t. state_after next t ys)) reached

module _ (ledger : Ledger) (count : ℕ) (can : CanRunAgain ledger count) where
  abbrev calls : List RecordedCall
  calls = ledger.history.known.calls

  abbrev next : Tree → ℕ → NfsCall → Outcome → Option Tree
  next = next_by (setting_in ledger)

  abbrev pub kept_until : ℕ → List Placed
  kept_until i = kept_steps (map (era_in calls) (take i ledger.over.items))

  front_is_kept : (x : EraOver) → take (era_in calls x).kept (era_in calls x).steps ≡ map (placed_in calls) (take x.kept x.placed.items)
  front_is_kept x = take-map (placed_in calls) x.kept x.placed.items

  pub era_can : (i : ℕ) (x : EraOver) (tree : Tree) → i < length ledger.over.items → x ≡ get_or ledger.over.items i x → state_after next (start_tree ledger.history.known.head.start) (kept_until i) ≡ Some tree
      → CanRun (setting_in ledger) calls tree (take x.kept x.placed.items)
  era_can i x tree lt is reached =
      let behind = map (era_in calls) (drop (i + 1) ledger.over.items) in
      let rest = map (placed_in calls) (take count ledger.placed.items) in
      let front = take (era_in calls x).kept (era_in calls x).steps in
      let parts : kept_steps (map (era_in calls) ledger.over.items) ≡ kept_until i ++ (front ++ kept_steps behind) =
      ap kept_steps (map_parts (era_in calls) ledger.over.items i x lt is) ∙ flat_map-append (λ (e : Era NfsCall Outcome). take e.kept e.steps) (map (era_in calls) (take i ledger.over.items)) (era_in calls x ∷ behind) in
      let whole : IsSome (state_after next (start_tree ledger.history.known.head.start) ((kept_until i ++ (front ++ kept_steps behind)) ++ rest)) =
      subst (λ (xs : List Placed). IsSome (state_after next (start_tree ledger.history.known.head.start) (xs ++ rest))) parts can.runs in
      let so_far = front_runs_on next (start_tree ledger.history.known.head.start) (kept_until i ++ (front ++ kept_steps behind)) rest whole in
      let here = subst IsSome (from_there next (start_tree ledger.history.known.head.start) tree (kept_until i) (front ++ kept_steps behind) reached) so_far in
      record {
        asked = all_front (λ (call : PlacedCall). IsAsked calls call.number) x.kept x.placed.items (all_at (IsSoundEra calls) ledger.over.items i x lt is can.over).1;
        runs = subst (λ (xs : List Placed). IsSome (state_after next tree xs)) (front_is_kept x) (front_runs_on next tree front (kept_steps behind) here);
      }

  pub era_further : (i : ℕ) (x : EraOver) (tree after : Tree) → i < length ledger.over.items → x ≡ get_or ledger.over.items i x → state_after next (start_tree ledger.history.known.head.start) (kept_until i) ≡ Some tree
      → tree_after (setting_in ledger) calls tree (take x.kept x.placed.items) ≡ Some after → state_after next (start_tree ledger.history.known.head.start) (kept_until (i + 1)) ≡ Some after
  era_further i x tree after lt is reached runs =
      let front = take (era_in calls x).kept (era_in calls x).steps in
      ap (λ (es : List (Era NfsCall Outcome)). state_after next (start_tree ledger.history.known.head.start) (kept_steps es)) (map_more (era_in calls) ledger.over.items i x lt is)
      ∙ ap (state_after next (start_tree ledger.history.known.head.start)) (kept_one_more (map (era_in calls) (take i ledger.over.items)) (era_in calls x))
      ∙ from_there next (start_tree ledger.history.known.head.start) tree (kept_until i) front reached ∙ ap (state_after next tree) (front_is_kept x) ∙ runs

  pub last_can : (i : ℕ) (tree : Tree) → length ledger.over.items ≤ i → state_after next (start_tree ledger.history.known.head.start) (kept_until i) ≡ Some tree → CanRun (setting_in ledger) calls tree (take count ledger.placed.items)
  last_can i tree le reached =
      let all = take_all i ledger.over.items le in
      let rest = map (placed_in calls) (take count ledger.placed.items) in
      let whole : IsSome (state_after next (start_tree ledger.history.known.head.start) (kept_until i ++ rest)) =
      subst (λ (es : List EraOver). IsSome (state_after next (start_tree ledger.history.known.head.start) (kept_steps (map (era_in calls) es) ++ rest))) (sym all) can.runs in
      record {
        asked = all_front (λ (call : PlacedCall). IsAsked calls call.number) count ledger.placed.items can.placed;
        runs = subst IsSome (from_there next (start_tree ledger.history.known.head.start) tree (kept_until i) rest reached) whole;
      }

  pub last_done : (i : ℕ) (tree after : Tree) → length ledger.over.items ≤ i → state_after next (start_tree ledger.history.known.head.start) (kept_until i) ≡ Some tree → tree_after (setting_in ledger) calls tree (take count ledger.placed.items) ≡ Some after
      → state_after next (start_tree ledger.history.known.head.start) (steps_kept ledger count) ≡ Some after
  last_done i tree after le reached runs =
      let all = take_all i ledger.over.items le in
      let rest = map (placed_in calls) (take count ledger.placed.items) in
      ap (λ (es : List EraOver). state_after next (start_tree ledger.history.known.head.start) (kept_steps (map (era_in calls) es) ++ rest)) (sym all) ∙ from_there next (start_tree ledger.history.known.head.start) tree (kept_until i) rest reached ∙ runs
