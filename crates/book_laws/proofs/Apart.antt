-- a call of the era now that isn't placed
use Rattle.std.proofs.Common.{◌≡◌, ◌≢◌, inl, inr, ℕ, suc, ◌+◌, ◌<◌, ◌^◌, List, [], ◌∷◌, ◌++◌, length, Some, None, sym, ap, ◌∙◌, subst, arith}
use Rattle.std.specs.List.{AllByRecursion}
use Rattle.nfs_history.specs.declared.recorded.RecordedCall.{RecordedCall}
use Rattle.nfs_history.specs.Precedence.{call_at}
use Rattle.replay_law.specs.Run.{kept_steps}
use Rattle.tree_nodes.specs.Tree.{Tree, entry_of}
use Rattle.tree_laws.proofs.Numbered.{one_number, past}
use Rattle.book_laws.specs.Placing.{Placed}
use Rattle.book_laws.specs.Book.{Book, setting, object_in, tree_at_first, tree_of}
use Rattle.book_laws.specs.Steps.{IsUnplaced}
use Rattle.book_laws.proofs.Invariant.{Over, IsKnown, AreKnown, AllKnown, IsPlacedIn, IsPlaced, IsMade, IsInvariant}
use Rattle.book_laws.proofs.Lists.{all_append, all_each}
use Rattle.book_laws.proofs.Starting.{call_alone}
use Rattle.book_laws.proofs.Bound.{AreApart, AllApart, kept_apart, run_absent}

module _ (book : Book) (i : IsInvariant book) (number : ℕ) (recorded : RecordedCall) (at : call_at book.history.known.calls number ≡ Some recorded)
    (now : recorded.era ≡ book.history.known.eras) (unplaced : IsUnplaced book.placed number) where
  abbrev calls : List RecordedCall
  calls = book.history.known.calls

  -- no era that is over has the call
  apart_over : (e : ℕ) (over : List Over) (placed : List Placed) → AllKnown calls e over placed → e + length over ≡ book.history.known.eras → AllApart number over
  apart_over e [] placed known eras = tt
  apart_over e (first ∷ over) placed known eras = (steps first.steps known.0, apart_over (e + 1) over placed known.1 (further e (length over) book.history.known.eras eras)) where
    further : (a b c : ℕ) → a + suc b ≡ c → a + 1 + b ≡ c
    further a b c f = omega (arith, f)

    clash : (a b c d : ℕ) → a + suc b ≡ c → d ≡ c → d ≡ a → ⊥
    clash a b c d f g h = omega (arith, f, g, h)

    other : (s : Placed) → IsKnown calls e s → s.number ≢ number
    other s k same = clash e (length over) book.history.known.eras recorded.era eras now (ap (λ (c : RecordedCall). c.era) (one (sym at ∙ ap (call_at calls) (sym same) ∙ k.recorded)) ∙ k.now) where
      one : {a b : RecordedCall} → Some a ≡ Some b → a ≡ b
      one f = cc

    steps : (xs : List Placed) → AreKnown calls e xs → AreApart number xs
    steps [] k = tt
    steps (x ∷ xs) k = (other x k.0, steps xs k.1)

  pub apart_eras : AllApart number book.over
  apart_eras = apart_over 1 book.over book.placed i.known (omega (arith, i.eras))

  pub not_placed : IsPlaced book.over book.placed number → ⊥
  not_placed = eras book.over apart_eras where
    among : (xs : List Placed) → AreApart number xs → IsPlacedIn xs number → ⊥
    among [] c found = found
    among (x ∷ xs) c (inl same) = c.0 same
    among (x ∷ xs) c (inr found) = among xs c.1 found

    eras : (over : List Over) → AllApart number over → IsPlaced over book.placed number → ⊥
    eras [] c found = among book.placed unplaced found
    eras (first ∷ over) c (inl found) = among first.steps c.0 found
    eras (first ∷ over) c (inr found) = eras over c.1 found

  pub isnt_zero : number ≢ 0
  isnt_zero same = none (ap (call_at calls) (sym same) ∙ at) where
    none : None ≡ Some recorded → ⊥
    none f = cc

  abbrev first : ℕ
  first = length book.history.known.head.start

  abbrev own : ℕ
  own = object_in book number

  pub past_first : first < own
  past_first = past first number isnt_zero

  -- no object was made with its number
  pub others : AllByRecursion (λ other. (other ≢ own) × (other < 2 ^ 64)) book.made
  others = all_each _ _ book.made (λ other has. (differs other has.0, has.1)) i.made where
    differs : (other : ℕ) → IsMade first book.over book.placed other → other ≢ own
    differs other (inl stood) same = let lt = past_first in omega (arith, lt, stood.1, same)
    differs other (inr call) same = not_placed (subst (IsPlaced book.over book.placed) (one_number first call.0 number (call.2 ∙ same)) call.1)

  pub apart_all : AreApart number (kept_steps book.over ++ book.placed)
  apart_all = all_append _ (kept_steps book.over) book.placed (kept_apart number book.over apart_eras) unplaced

  -- and none stands in the tree
  pub absent : (before : Tree) → tree_of book ≡ Some before → entry_of before own ≡ None
  absent before stood = run_absent (setting book) number (kept_steps book.over ++ book.placed) apart_all (tree_at_first book) before (call_alone book.history.known.head.start i.start number isnt_zero) stood
