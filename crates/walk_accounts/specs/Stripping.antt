-- For the prover.
-- Accounts whose places stand in front of others: what the code says to the prover.
use Rattle.std.specs.Prelude.{◌≡◌, ℕ, List, ◌++◌, map}
use Rattle.walk_accounts.specs.declared.account.Account.{Account}
use Rattle.walk_accounts.specs.Accounts.{place_of}

-- behind the accounts of these places, these are left
abbrev pub IsStripped : List (ℕ × List ℕ) → List Account → List Account → Type 0
IsStripped told rest left = map place_of rest ≡ told ++ map place_of left
