-- For the prover, and for callers.
-- What any number of claimers do to a table, step by step, each at any time. A claim takes several steps, others may step between
-- any two of them, and what it answers was so at one of its own (Herlihy and Wing, Linearizability: A Correctness Condition for
-- Concurrent Objects, 1990).
use Rattle.std.specs.Prelude.{◌≡◌, ◌≢◌, ℕ, ◌==◌, if◌then◌else◌, List, [], ◌∷◌, ◌++◌, replicate, slice_index, slice_set, ⊤}
use Rattle.std.specs.List.{AllByRecursion}
use mathlib.Core.Option.{some}
use lib.ListN.{get_elem?, set}
use Rattle.seen_states.specs.declared.view.View.{View}
use Rattle.seen_states.specs.Seen.{word_at, fresh, together, IsSeenTable}
use Rattle.seen_states.specs.Steps.{MayLook, MayTake, looked, took}

-- the words, and what the claimers know, the first of them first
pub record Moment : Type 0 where
  pub words : List ℕ
  pub views : List View

-- n free words, and the first claimer
abbrev pub opening : ℕ → Moment
opening n = record { words = replicate n 0; views = fresh ∷ [] }

-- one step, from one moment to the next, of the claimer of this number
pub data Step (n : ℕ) (s t : Moment) : Type 0 where
  -- a load of the word at place k of its fingerprint's order
  looks : (seat fingerprint k : ℕ) (v : View) → get_elem? s.views seat ≡ some v → MayLook n fingerprint k v
      → t ≡ record { words = s.words; views = set s.views seat (looked fingerprint k v (slice_index s.words (word_at n fingerprint k))) } → Step n s t
  -- an exchange there: a free word becomes the fingerprint, and another one stays
  takes : (seat fingerprint k : ℕ) (v : View) → get_elem? s.views seat ≡ some v → MayTake n fingerprint k v
      → t ≡ (let i = word_at n fingerprint k in let found = slice_index s.words i in
      record { words = slice_set s.words i (if found == 0 then fingerprint else found); views = set s.views seat (took fingerprint k v found) }) → Step n s t
  -- one claimer more
  splits : t ≡ record { words = s.words; views = s.views ++ fresh ∷ [] } → Step n s t
  -- one takes another's answers in
  joins : (seat other : ℕ) (v w : View) → other ≢ seat → get_elem? s.views seat ≡ some v → get_elem? s.views other ≡ some w
      → t ≡ record { words = s.words; views = set (set s.views seat (together v w)) other fresh } → Step n s t

-- the moments that follow one another from a moment on
abbrev pub IsRun : ℕ → Moment → List Moment → Type 0
IsRun n s [] = ⊤
IsRun n s (t ∷ ts) = Step n s t × IsRun n t ts

-- the rule holds at each of these moments
abbrev pub AreRuled : ℕ → List Moment → Type 0
AreRuled n = AllByRecursion (λ t. IsSeenTable n t.words t.views)
