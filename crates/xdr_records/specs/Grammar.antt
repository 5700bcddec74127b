-- Believed.
-- The layout of a message as data: items of RFC 4506, one behind the other.
use Rattle.std.specs.Prelude.{ℕ, Bool, true, false, List, Option, Some, None, Result}

-- K is the type of what can be wrong, the second argument the type of what is read
pub data Grammar (K : Type 0) : Type 0 → Type 1 where
  -- RFC 4506, section 4.2: an unsigned integer
  one_word : Grammar K ℕ
  -- RFC 4506, section 4.5: an unsigned hyper integer
  one_long : Grammar K ℕ
  -- RFC 4506, section 4.4: a boolean
  one_flag : Grammar K Bool
  -- RFC 4506, section 4.9: fixed-length opaque data of so many bytes
  one_fixed : ℕ → Grammar K (List ℕ)
  -- RFC 4506, section 4.10: variable-length opaque data of at most so many bytes
  one_opaque : ℕ → Grammar K (List ℕ)
  -- RFC 4506, section 4.3: a word with a list of names, or what is wrong with a word outside the list
  named : {A : Type 0} → (ℕ → Result A K) → Grammar K A
  -- no bytes
  nothing : {A : Type 0} → A → Grammar K A
  -- no bytes are right here
  refused : {A : Type 0} → K → Grammar K A
  -- a linked list, RFC 4506, section 4.19: a true flag before each item and a false one behind the last
  many : {A : Type 0} → Grammar K A → Grammar K (List A)
  -- an item, and behind it what depends on its value
  both : {A B : Type 0} → Grammar K A → (A → Grammar K B) → Grammar K B

infixl 10 ◌>>=◌
abbrev pub ◌>>=◌ : {K A B : Type 0} → Grammar K A → (A → Grammar K B) → Grammar K B
g >>= f = both g f

-- the first where the flag is true, else the second
abbrev pub either : {K A : Type 0} → Bool → Grammar K A → Grammar K A → Grammar K A
either true g h = g
either false g h = h

-- RFC 4506, section 4.19: optional data
abbrev pub optional : {K A : Type 0} → Grammar K A → Grammar K (Option A)
optional g = do
  present ← one_flag
  either present (g >>= λ x. nothing (Some x)) (nothing None)
