-- Believed.
-- Which item of RFC 4506 is at fault: it stands behind items that are right, and is wrong itself.
use Rattle.std.specs.Prelude.{◌≡◌, ◌≢◌, ◌<◌, ◌≤◌, ℕ, ◌+◌, ◌⊎◌, true, List, [], ◌∷◌, ◌++◌, length, Err}
use Rattle.xdr_records.specs.declared.fault.XdrFault.{XdrFault}
use Rattle.xdr_records.specs.declared.fault.XdrFault.TheVariants.{Short, BadFlag, TooLong, Trailing}
use Rattle.xdr_records.specs.Unread.{Unread, At, whole}
use Rattle.xdr_records.specs.Grammar.{Grammar}
use Rattle.xdr_records.specs.Grammar.Grammar.{one_word, one_long, one_flag, one_fixed, one_opaque, named, nothing, refused, many, both}
use Rattle.xdr_records.specs.Items.{padded}
use Rattle.xdr_records.specs.Spelling.{IsWord, IsFlag, Spells}

-- what stands at the front, and what is left behind it
pub record Stands (Item : List ℕ → Type 0) (old new : Unread) : Type 0 where
  pub front : List ℕ
  pub parts : old.rest ≡ front ++ new.rest
  pub at : new.at ≡ old.at + length front
  pub item : Item front

-- fewer bytes are left than the item takes
abbrev pub IsShort : ℕ → Unread → XdrFault → Type 0
IsShort n unread fault = (length unread.rest < n) × (fault ≡ Short)

-- a word is missing or is neither 0 nor 1
abbrev pub FlagFails : Unread → XdrFault → Type 0
FlagFails unread fault = IsShort 4 unread fault ⊎ (n : ℕ) × (after : Unread) × Stands (λ word. IsWord word n) unread after × (2 ≤ n) × (fault ≡ BadFlag)

-- the length is missing, or is over the limit, or bytes are missing behind it
abbrev pub OpaqueFails : ℕ → Unread → XdrFault → Type 0
OpaqueFails max unread fault = IsShort 4 unread fault ⊎ (n : ℕ) × (after : Unread) × Stands (λ word. IsWord word n) unread after × (((max < n) × (fault ≡ TooLong)) ⊎ ((n ≤ max) × IsShort (padded n) after fault))

-- a fault of the item that begins here
pub record FailsHere {K : Type 0} (kind_of : XdrFault → K) (Item : Unread → XdrFault → Type 0) (unread : Unread) (fault : At K) : Type 0 where
  pub name : XdrFault
  pub item : Item unread name
  pub is : fault ≡ record { at = unread.at; kind = kind_of name }

-- behind some items of a list a flag is at fault, or the item behind a true flag
abbrev pub ListFails : {K A : Type 0} → (XdrFault → K) → (List ℕ → A → Type 0) → (Unread → At K → Type 0) → List A → Unread → At K → Type 0
ListFails kind_of Item ItemFails [] unread fault =
    FailsHere kind_of FlagFails unread fault ⊎ (after : Unread) × Stands (λ flag. IsFlag flag true) unread after × ItemFails after fault
ListFails kind_of Item ItemFails (x ∷ xs) unread fault =
    (between : Unread) × (after : Unread) × Stands (λ flag. IsFlag flag true) unread between × Stands (λ item. Item item x) between after × ListFails kind_of Item ItemFails xs after fault

-- the first item that is at fault, from the front
abbrev pub Fails : {K A : Type 0} → (XdrFault → K) → Grammar K A → Unread → At K → Type 0
Fails kind_of one_word unread fault = FailsHere kind_of (IsShort 4) unread fault
Fails kind_of one_long unread fault = FailsHere kind_of (IsShort 8) unread fault
Fails kind_of one_flag unread fault = FailsHere kind_of FlagFails unread fault
Fails kind_of (one_fixed n) unread fault = FailsHere kind_of (IsShort (padded n)) unread fault
Fails kind_of (one_opaque max) unread fault = FailsHere kind_of (OpaqueFails max) unread fault
Fails {K = K} kind_of (named name) unread fault =
    FailsHere kind_of (IsShort 4) unread fault ⊎ (n : ℕ) × (after : Unread) × (kind : K) × Stands (λ word. IsWord word n) unread after × (name n ≡ Err kind) × (fault ≡ record { at = unread.at; kind = kind })
Fails kind_of (nothing x) unread fault = ⊥
Fails kind_of (refused kind) unread fault = fault ≡ record { at = unread.at; kind = kind }
Fails kind_of (many {A = A} g) unread fault = (before : List A) × ListFails kind_of (Spells g) (Fails kind_of g) before unread fault
Fails kind_of (both {A = A} g f) unread fault =
    Fails kind_of g unread fault ⊎ (x : A) × (after : Unread) × Stands (λ front. Spells g front x) unread after × Fails kind_of (f x) after fault

-- an item is at fault, or bytes stand behind the last one
abbrev pub AllFails : {K A : Type 0} → (XdrFault → K) → Grammar K A → List ℕ → At K → Type 0
AllFails {A = A} kind_of g bytes fault =
    Fails kind_of g (whole bytes) fault ⊎ (x : A) × (after : Unread) × Stands (λ front. Spells g front x) (whole bytes) after × (after.rest ≢ []) × (fault ≡ record { at = after.at; kind = kind_of Trailing })
