-- Believed.
-- Which bytes spell a value, by RFC 4506: a relation between whole lists of bytes and values.
use Rattle.std.specs.Prelude.{◌≡◌, ◌≤◌, ℕ, Bool, true, false, List, [], ◌∷◌, ◌++◌, length, Ok}
use Rattle.xdr_records.specs.Grammar.{Grammar}
use Rattle.xdr_records.specs.Grammar.Grammar.{one_word, one_long, one_flag, one_fixed, one_opaque, named, nothing, refused, many, both}
use Rattle.xdr_records.specs.Items.{word_of, long_of, padded}

-- RFC 4506, section 4.2: four bytes, the highest first
pub record IsWord (bytes : List ℕ) (n : ℕ) : Type 0 where
  pub four : length bytes ≡ 4
  pub value : word_of bytes ≡ n

-- RFC 4506, section 4.5: eight bytes, the highest first
pub record IsLong (bytes : List ℕ) (n : ℕ) : Type 0 where
  pub eight : length bytes ≡ 8
  pub value : long_of bytes ≡ n

-- RFC 4506, section 4.4: 0 for false, 1 for true
abbrev pub IsFlag : List ℕ → Bool → Type 0
IsFlag bytes false = IsWord bytes 0
IsFlag bytes true = IsWord bytes 1

-- RFC 4506, section 4.9: n bytes, then as few bytes as make the whole a multiple of 4. They are written
-- as zero and read as any.
pub record IsFixed (n : ℕ) (bytes value : List ℕ) : Type 0 where
  pub padding : List ℕ
  pub parts : bytes ≡ value ++ padding
  pub size : length value ≡ n
  pub all : length bytes ≡ padded n

-- RFC 4506, section 4.10: the length as a word, then the bytes as above
pub record IsOpaque (max : ℕ) (bytes value : List ℕ) : Type 0 where
  pub word : List ℕ
  pub body : List ℕ
  pub parts : bytes ≡ word ++ body
  pub counted : IsWord word (length value)
  pub within : length value ≤ max
  pub padded : IsFixed (length value) body value

-- one item, and others behind it
pub record Joined (First Others : List ℕ → Type 0) (bytes : List ℕ) : Type 0 where
  pub front : List ℕ
  pub back : List ℕ
  pub parts : bytes ≡ front ++ back
  pub first : First front
  pub others : Others back

-- RFC 4506, section 4.19: each item stands behind a true flag, and a false one ends them
abbrev pub IsList : {A : Type 0} → (List ℕ → A → Type 0) → List A → List ℕ → Type 0
IsList Item [] bytes = IsFlag bytes false
IsList Item (x ∷ xs) bytes = Joined (λ flag. IsFlag flag true) (Joined (λ item. Item item x) (IsList Item xs)) bytes

-- the bytes spell the value, all of them
abbrev pub Spells : {K A : Type 0} → Grammar K A → List ℕ → A → Type 0
Spells one_word bytes n = IsWord bytes n
Spells one_long bytes n = IsLong bytes n
Spells one_flag bytes flag = IsFlag bytes flag
Spells (one_fixed n) bytes value = IsFixed n bytes value
Spells (one_opaque max) bytes value = IsOpaque max bytes value
Spells (named name) bytes value = (n : ℕ) × IsWord bytes n × (name n ≡ Ok value)
Spells (nothing value) bytes other = (bytes ≡ []) × (value ≡ other)
Spells (refused kind) bytes value = ⊥
Spells (many g) bytes values = IsList (Spells g) values bytes
Spells (both {A = A} g f) bytes value = (x : A) × Joined (λ front. Spells g front x) (λ back. Spells (f x) back value) bytes
