-- What the tests of accounts say together.
use Rattle.std.proofs.Common.{◌≡◌, ℕ, List, ◌∷◌, map, IsTrue, subst}
use Rattle.std.specs.List.{list_all}
use Rattle.walk_accounts.specs.declared.account.Account.{Account}
use Rattle.walk_accounts.specs.declared.exchange.Exchange.{Exchange}
use Rattle.walk_accounts.specs.Accounts.{is_root, is_accounted, is_named, place_of, all_places, IsExplained}

pub explained : (root : List ℕ) (exchanges : List Exchange) (accounts : List Account) (first : Account) (found : List Account)
    → accounts ≡ first ∷ found → IsTrue (is_root root first) → IsTrue (list_all (is_accounted exchanges) accounts)
    → IsTrue (list_all (is_named exchanges accounts) found) → map place_of found ≡ all_places exchanges 0 accounts
    → IsExplained root exchanges first found
explained root exchanges accounts first found are begins seen named complete =
    record {
      begins = begins;
      seen = subst (λ (xs : List Account). IsTrue (list_all (is_accounted exchanges) xs)) are seen;
      named = subst (λ (xs : List Account). IsTrue (list_all (is_named exchanges xs) found)) are named;
      complete = subst (λ (xs : List Account). map place_of found ≡ all_places exchanges 0 xs) are complete;
    }
