-- For the prover, and for callers.
-- A table of seen states: its words, and what its claimers know of them. A word is 0 while it is free. A claim takes a free word for
-- its fingerprint, and it then stays: open addressing with linear probing (Knuth, The Art of Computer Programming, volume 3, section
-- 6.4), shared by threads (Laarman, van de Pol and Weber, Boosting Multi-Core Reachability Performance with Shared Hash Tables, 2010).
use Rattle.std.specs.Prelude.{◌≡◌, ◌≢◌, ℕ, ◌+◌, ◌%◌, ◌<◌, ◌≤◌, ◌==◌, List, [], ◌++◌, length, slice_index, count_by}
use Rattle.std.specs.List.{sum_by}
use mathlib.Core.Option.{some}
use lib.ListN.{get_elem?}
use Rattle.seen_states.specs.declared.view.View.{View}

-- which of n words stands at place k, from 0, of a fingerprint's order, which goes round all of them
abbrev pub word_at : ℕ → ℕ → ℕ → ℕ
word_at n fingerprint k = (fingerprint + k) % n

-- how often x stands in a list
abbrev pub times : ℕ → List ℕ → ℕ
times x xs = count_by (λ y. y == x) xs

-- how often claimers were told New of x, all together
abbrev pub times_new : ℕ → List View → ℕ
times_new x views = sum_by (λ v. times x v.new_answers) views

-- the claimer was told New or Seen of x
abbrev pub IsTold : ℕ → View → Type 0
IsTold x v = 0 < times x v.new_answers + times x v.seen_answers

abbrev pub view : ℕ → ℕ → List ℕ → List ℕ → View
view fingerprint probed new_answers seen_answers = record { fingerprint = fingerprint; probed = probed; new_answers = new_answers; seen_answers = seen_answers }

-- a claimer that was told nothing
abbrev pub fresh : View
fresh = view 0 0 [] []

-- a claimer with the answers of two
abbrev pub together : View → View → View
together v w = view v.fingerprint v.probed (v.new_answers ++ w.new_answers) (v.seen_answers ++ w.seen_answers)

-- what a claimer knows is so in n words
pub record IsSo (n : ℕ) (words : List ℕ) (v : View) : Type 0 where
  -- what it was told Seen of stands in a word
  pub seen : (x : ℕ) → 0 < times x v.seen_answers → (x ≢ 0) × (0 < times x words)
  -- the words that it probed are neither free nor its fingerprint
  pub probed : (k : ℕ) → k < v.probed → (slice_index words (word_at n v.fingerprint k) ≢ 0) × (slice_index words (word_at n v.fingerprint k) ≢ v.fingerprint)

-- the rule of a table
pub record IsSeenTable (n : ℕ) (words : List ℕ) (views : List View) : Type 0 where
  pub count : length words ≡ n
  -- no two words that aren't free are the same
  pub apart : (x : ℕ) → x ≢ 0 → times x words ≤ 1
  -- what stands in a word was New to one claimer, once, and what was New stands in a word
  pub new : (x : ℕ) → x ≢ 0 → times_new x views ≡ times x words
  -- nobody was told New of 0, which is no fingerprint
  pub never_free : times_new 0 views ≡ 0
  -- what each claimer knows is so
  pub each : (seat : ℕ) (v : View) → get_elem? views seat ≡ some v → IsSo n words v
  -- where a fingerprint stands, no word ahead in its order is free
  pub ahead : (x k j : ℕ) → x ≢ 0 → k < n → slice_index words (word_at n x k) ≡ x → j < k → slice_index words (word_at n x j) ≢ 0
