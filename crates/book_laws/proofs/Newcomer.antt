-- a call that is placed was placed never before
use Rattle.std.proofs.Common.{◌≡◌, ◌≢◌, ℕ, ◌<◌, ◌^◌, ◌++◌, length, None}
use Rattle.std.specs.List.{AllByRecursion}
use Rattle.nfs3_types.specs.declared.replies.NfsReply.{NfsReply}
use Rattle.replay_law.specs.Run.{kept_steps}
use Rattle.tree_nodes.specs.Tree.{entry_of}
use Rattle.book_laws.specs.Book.{Book, object_in}
use Rattle.book_laws.specs.Steps.{Places}
use Rattle.book_laws.proofs.Invariant.{IsPlaced, IsInvariant}
use Rattle.book_laws.proofs.Bound.{AreApart, AllApart}
use Rattle.book_laws.proofs.Apart as unplaced

module _ (book : Book) (i : IsInvariant book) (number : ℕ) (reply : NfsReply) (new : Book) (p : Places book number reply new) where
  pub apart_eras : AllApart number book.over
  apart_eras = unplaced.apart_eras book i number p.recorded p.of_now.recorded p.of_now.era p.unplaced

  pub not_placed : IsPlaced book.over book.placed number → ⊥
  not_placed = unplaced.not_placed book i number p.recorded p.of_now.recorded p.of_now.era p.unplaced

  pub isnt_zero : number ≢ 0
  isnt_zero = unplaced.isnt_zero book i number p.recorded p.of_now.recorded p.of_now.era p.unplaced

  -- so that it has made no object
  pub others : AllByRecursion (λ other. (other ≢ object_in book number) × (other < 2 ^ 64)) book.made
  others = unplaced.others book i number p.recorded p.of_now.recorded p.of_now.era p.unplaced

  pub apart_kept : AreApart number (kept_steps book.over ++ book.placed)
  apart_kept = unplaced.apart_all book i number p.recorded p.of_now.recorded p.of_now.era p.unplaced

  -- and its object isn't there
  pub own_absent : entry_of p.before (object_in book number) ≡ None
  own_absent = unplaced.absent book i number p.recorded p.of_now.recorded p.of_now.era p.unplaced p.before p.stood
