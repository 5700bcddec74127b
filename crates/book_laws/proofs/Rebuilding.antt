-- a book's records lead to its tree
use Rattle.std.proofs.Common.{◌≡◌, ◌⊎◌, inl, inr, ℕ, zero, suc, ◌+◌, ◌<◌, ◌≤◌, ◌^◌, Bool, true, false, cond, List, [], ◌∷◌, ◌++◌, length, map, take, refl, sym, ap, ◌∙◌, subst, arith}
use Rattle.std.specs.Prelude.{filter, IsSome, is_some, if◌then◌else◌}
use Rattle.std.specs.List.{range_with_len}
use Rattle.std.specs.List.{AllByRecursion}
use Rattle.nfs_history.specs.declared.recorded.RecordedCall.{RecordedCall}
use Rattle.replay_law.specs.Run.{state_after, kept_steps}
use Rattle.tree_starts.specs.Start.{object_made}
use Rattle.tree_nodes.specs.Tree.{entry_of}
use Rattle.file_tree.proofs.Starts.{few}
use Rattle.book_laws.specs.Placing.{Placed, is_recorded}
use Rattle.book_laws.specs.Book.{Book, setting_made, object_in, next_by, tree_at_first}
use Rattle.book_laws.specs.Steps.{Steps, with_object}
use Rattle.book_laws.specs.Steps.Steps.{begins, places, flushes, answers, closes, crashes, refuses}
use Rattle.book_laws.proofs.Starting.{all_numbers}
use Rattle.book_laws.proofs.Invariant.{Over, AreKnown, AllKnown, IsInvariant}
use Rattle.book_laws.proofs.Lists.{all_append, all_each}
use Rattle.journal.specs.Rebuilding.{step_in}
use Rattle.journal.proofs.Numbers.{Among, among_more}
use Rattle.journal.proofs.Growing.{known_start}
use Rattle.book_laws.specs.Recorded.{changes_of}
use Rattle.book_laws.specs.Alone.{GivesTheTree, AJournalAloneGivesTheTree}
use Rattle.book_laws.proofs.Walks.{from_opening}
use Rattle.book_laws.proofs.Recording.{KeepsRecords, AreKept, records_on, keeps_at_first}
use Rattle.book_laws.proofs.Standing.{RunStands, stands_on, among_with}
use Rattle.book_laws.proofs.Renaming.{AreSmall}
use Rattle.book_laws.proofs.Replaying.{IsReceived, replayed}
use Rattle.book_laws.proofs.Saying.{are_said}

-- ---- every placed call got its reply

received_in : (calls : List RecordedCall) (e : ℕ) (steps : List Placed) → AreKnown calls e steps → AllByRecursion IsReceived steps
received_in calls e [] known = tt
received_in calls e (step ∷ steps) known = ((known.0.reply, known.0.received), received_in calls e steps known.1)

received_front : (n : ℕ) (steps : List Placed) → AllByRecursion IsReceived steps → AllByRecursion IsReceived (take n steps)
received_front zero steps r = tt
received_front (suc n) [] r = tt
received_front (suc n) (step ∷ steps) r = (r.0, received_front n steps r.1)

received : (calls : List RecordedCall) (e : ℕ) (over : List Over) (placed : List Placed) → AllKnown calls e over placed → AllByRecursion IsReceived (kept_steps over) × AllByRecursion IsReceived placed
received calls e [] placed known = (tt, received_in calls e placed known)
received calls e (first ∷ over) placed known =
    let rest = received calls (e + 1) over placed known.1 in
    (all_append IsReceived (take first.kept first.steps) (kept_steps over) (received_front first.kept first.steps (received_in calls e first.steps known.0)) rest.0, rest.1)

-- ---- steps that are recorded

recorded_all : (steps : List Placed) → AllByRecursion (λ step. is_recorded step ≡ true) (filter is_recorded steps)
recorded_all [] = tt
recorded_all (step ∷ steps) = go (is_recorded step) refl (recorded_all steps) where
  go : (b : Bool) → is_recorded step ≡ b → AllByRecursion (λ s. is_recorded s ≡ true) (filter is_recorded steps) → AllByRecursion (λ s. is_recorded s ≡ true) (cond b (step ∷ filter is_recorded steps) (filter is_recorded steps))
  go true is rest = (is, rest)
  go false is rest = rest

abbrev number_of : ℕ → Placed → ℕ
number_of first step = object_made first step.number

among_all : (first : ℕ) (steps : List Placed) → AllByRecursion (λ step. Among (map (number_of first) steps) (number_of first step)) steps
among_all first [] = tt
among_all first (step ∷ steps) =
    (inl refl, all_each (λ s. Among (map (number_of first) steps) (number_of first s)) (λ s. Among (number_of first step ∷ map (number_of first) steps) (number_of first s)) steps (λ s a. inr a) (among_all first steps))

behind_these : (xs ys : List ℕ) (object : ℕ) → Among ys object → Among (xs ++ ys) object
behind_these [] ys object a = a
behind_these (x ∷ xs) ys object a = inr (behind_these xs ys object a)

small_all : (book : Book) (records : List (List ℕ)) (steps : List Placed) → AreKept book records steps → AreSmall (map (number_of (length book.history.known.head.start)) steps)
small_all book [] [] k = tt
small_all book [] (step ∷ steps) k = absurd k
small_all book (bytes ∷ records) [] k = absurd k
small_all book (bytes ∷ records) (step ∷ steps) k = (k.0.numbered, small_all book records steps k.1)

-- ---- the tree

known_with : (n : ℕ) (b : Bool) (made : List ℕ) (object : ℕ) → (object ≡ 0) ⊎ Among made object → (object ≡ 0) ⊎ Among (if b then with_object n made else made) object
known_with n true made object (inl root) = inl root
known_with n true made object (inr a) = inr (among_with n made object a)
known_with n false made object k = k

abbrev KnownAt : Book → Type 0
KnownAt book = (object : ℕ) → IsSome (entry_of (tree_at_first book) object) → (object ≡ 0) ⊎ Among book.made object

known_on : (book new : Book) → KnownAt book → Steps book new → KnownAt new
known_on book new k (begins lane message b) = subst KnownAt (sym b.done) k
known_on book new k (places number reply p) =
    subst KnownAt (sym p.done) (λ object stands. known_with (object_in book number) (is_some (entry_of p.after (object_in book number))) book.made object (k object stands))
known_on book new k (flushes f) = subst KnownAt (sym f.done) k
known_on book new k (answers number t) = subst KnownAt (sym t.done) k
known_on book new k (closes lane c) = subst KnownAt (sym c.done) k
known_on book new k (crashes keep c) = subst KnownAt (sym c.done) k
known_on book new k (refuses r) = subst KnownAt (sym r.done) k

record Remembers (book : Book) : Type 0 where
  records : KeepsRecords book
  stands : RunStands book
  -- each object at first is among the made
  known : KnownAt book

remembers_on : (book new : Book) → IsInvariant book → Remembers book → Steps book new → Remembers new
remembers_on book new i r step = record { records = records_on book new i r.records step; stands = stands_on book new i r.stands step; known = known_on book new r.known step }

gives_the_tree : (book : Book) → IsInvariant book → Remembers book → GivesTheTree book
gives_the_tree book i r tree is =
    let head = book.history.known.head in
    let first = length head.start in
    let steps = kept_steps book.over ++ book.placed in
    let said = are_said book book.device.records (changes_of book) r.records.kept (recorded_all steps) in
    let came = received book.history.known.calls 1 book.over book.placed i.known in
    let firsts = range_with_len 1 first in
    let own = map (number_of first) (changes_of book) in
    let journal = firsts ++ own in
    let run = replayed head book.made journal (all_each _ (λ object. object < 2 ^ 64) book.made (λ object has. has.1) i.made)
    (all_append (λ n. n < 2 ^ 64) firsts own (all_numbers (λ n. n < 2 ^ 64) 1 first (λ k from below. small k first below (few head.start i.start)))
    (small_all book book.device.records (changes_of book) r.records.kept))
    (tree_at_first book) tree steps r.known (λ object stands. first_known own object stands) r.stands
    (all_append IsReceived (kept_steps book.over) book.placed came.0 came.1)
    (all_each _ (λ s. Among journal (number_of first s)) (changes_of book) (λ s a. behind_these firsts own (number_of first s) a) (among_all first (changes_of book))) is in
    record {
      changes = said.changes;
      are = said.are;
      numbered = said.numbered;
      leads = ap (λ numbers. state_after (next_by (setting_made head (firsts ++ numbers))) (tree_at_first book) (map step_in said.changes)) said.numbers_are
          ∙ ap (state_after (next_by (setting_made head journal)) (tree_at_first book)) said.steps_are ∙ run;
    } where
      small : (k n : ℕ) → k < 1 + n → n ≤ 1000000 → k < 2 ^ 64
      small k n below le = omega (arith, below, le)

      first_known : (own : List ℕ) (object : ℕ) → IsSome (entry_of (tree_at_first book) object) → (object ≡ 0) ⊎ Among (range_with_len 1 (length book.history.known.head.start) ++ own) object
      first_known own object stands = go (known_start book.history.known.head.start i.start object stands) where
        firsts : List ℕ
        firsts = range_with_len 1 (length book.history.known.head.start)

        go : (object ≡ 0) ⊎ Among (range_with_len 1 (length book.history.known.head.start)) object → (object ≡ 0) ⊎ Among (range_with_len 1 (length book.history.known.head.start) ++ own) object
        go (inl root) = inl root
        go (inr among) = inr (among_more firsts own object among)

pub alone : AJournalAloneGivesTheTree
alone = from_opening Remembers GivesTheTree remembers_on gives_the_tree
    (λ profile start faults is. record { records = keeps_at_first profile start faults is; stands = tt; known = known_start start is })
