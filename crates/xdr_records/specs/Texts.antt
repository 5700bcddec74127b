-- Believed.
-- The one spelling that is written of each item of RFC 4506.
use Rattle.std.specs.Prelude.{ℕ, ◌-◌, Bool, true, false, List, [], ◌∷◌, ◌++◌, length, replicate, Option, Some, None}
use Rattle.byteorder.specs.Endian.{big_bytes}
use Rattle.xdr_records.specs.Items.{padded}

-- RFC 4506, section 4.2
unfoldable pub word_text : ℕ → List ℕ
word_text n = big_bytes 4 n

-- RFC 4506, section 4.5
unfoldable pub long_text : ℕ → List ℕ
long_text n = big_bytes 8 n

-- RFC 4506, section 4.4
unfoldable pub flag_text : Bool → List ℕ
flag_text false = word_text 0
flag_text true = word_text 1

-- as few zeros as fill n bytes up to a multiple of 4
abbrev pub padding_text : ℕ → List ℕ
padding_text n = replicate (padded n - n) 0

-- RFC 4506, section 4.9: the padding is written as zero
unfoldable pub fixed_text : List ℕ → List ℕ
fixed_text bytes = bytes ++ padding_text (length bytes)

-- RFC 4506, section 4.10
unfoldable pub opaque_text : List ℕ → List ℕ
opaque_text bytes = word_text (length bytes) ++ fixed_text bytes

-- RFC 4506, section 4.19
unfoldable pub optional_text : {A : Type 0} → (A → List ℕ) → Option A → List ℕ
optional_text text None = flag_text false
optional_text text (Some x) = flag_text true ++ text x

-- RFC 4506, section 4.19
unfoldable pub list_text : {A : Type 0} → (A → List ℕ) → List A → List ℕ
list_text text [] = flag_text false
list_text text (x ∷ xs) = flag_text true ++ (text x ++ list_text text xs)
