-- For the prover, and for callers.
-- What it means that an item is read exactly where its grammar has it.
use Rattle.std.specs.Prelude.{◌≡◌, List, ℕ, Result, Ok, Err}
use Rattle.xdr_records.specs.declared.fault.XdrFault.{XdrFault}
use Rattle.xdr_records.specs.Unread.{Unread}
use Rattle.xdr_records.specs.Faults.{Stands}

-- The item at the front is read, with no byte more, and where none stands there the fault is the item's.
pub record IsItem {A : Type 0} (Item : List ℕ → A → Type 0) (ItemFails : Unread → XdrFault → Type 0) (item_at : Unread → Result (A × Unread) XdrFault) : Type 0 where
  pub found : (x : A) (old new : Unread) → item_at old ≡ Ok (x, new) → Stands (λ front. Item front x) old new
  pub again : (x : A) (old new : Unread) → Stands (λ front. Item front x) old new → item_at old ≡ Ok (x, new)
  pub fault : (unread : Unread) (name : XdrFault) → item_at unread ≡ Err name → ItemFails unread name
  pub fails : (unread : Unread) (name : XdrFault) → ItemFails unread name → item_at unread ≡ Err name
