use Rattle.std.proofs.Common.{◌≡◌, ◌++◌, List, ℕ, drop, map}
use Rattle.walk_accounts.specs.Accounts.{place_of, all_places}
use Rattle.walk_accounts.proofs.places.is_complete.Given as goal

-- if what is left are the places of the accounts that are left, then all are all
abbrev pub invariant-loop-index : goal.invariant-loop-index
invariant-loop-index l =
    (behind : List (ℕ × List ℕ)) → map place_of l.left ≡ all_places l.exchanges l.index (drop l.index l.accounts) ++ behind → map place_of l.found ≡ all_places l.exchanges 0 l.accounts ++ behind
