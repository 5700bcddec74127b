-- For the prover, and for callers.
-- what becomes of slots where their pages are lent
use Rattle.std.specs.Ordering.{nat_cmp}
use Rattle.std.specs.Borrow.{Lends, Fml, RattleType, MutBor}
use Rattle.std.specs.FinMap as map
use Rattle.tree_stores.specs.Books.{Book}
use Rattle.tree_stores.specs.contracts.slots.Slots.{the_row}
use Rattle.tree_stores.specs.contracts.slots.pages.Pages as pages

-- once the borrow ends, the slots have the values that the pages have
abbrev pub lends_pages : (V : RattleType) → MutBor (map.FinMap nat_cmp V.Denot) → MutBor (Book V.Denot) → Fml
lends_pages V slots book = Lends (the_row V) (pages.the_row V) slots book (λ (b : Book V.Denot). b.map)
