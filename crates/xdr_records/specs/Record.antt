-- Believed.
-- Record marking, RFC 5531, section 11: which bytes of a stream are which records.
use Rattle.std.specs.Prelude.{◌≡◌, ◌<◌, ◌≤◌, ◌⊎◌, ℕ, ◌+◌, Bool, true, false, List, [], ◌∷◌, ◌++◌, length}
use Rattle.std.specs.List.{concat}
use Rattle.xdr_records.specs.Spelling.{IsWord, Joined}
use Rattle.xdr_records.specs.Texts.{word_text}

-- a record has at most so many bytes
abbrev pub record_limit : ℕ
record_limit = 2097152

-- ---- for the prover, and for callers

-- the top bit of a header is set where its fragment is the record's last
abbrev pub mark : Bool → ℕ
mark false = 0
mark true = 2147483648

-- a header says whether its fragment is the record's last, and in the low 31 bits how long it is
pub record IsHeader (last : Bool) (n : ℕ) (bytes : List ℕ) : Type 0 where
  pub word : IsWord bytes (mark last + n)
  pub small : n < 2147483648

-- a fragment is a header, and behind it as many bytes as the header says
pub record IsFragment (last : Bool) (bytes content : List ℕ) : Type 0 where
  pub header : List ℕ
  pub parts : bytes ≡ header ++ content
  pub says : IsHeader last (length content) header

-- fragments of such contents, one behind the other, none of them a record's last
abbrev pub AreFragments : List (List ℕ) → List ℕ → Type 0
AreFragments [] bytes = bytes ≡ []
AreFragments (x ∷ xs) bytes = Joined (λ front. IsFragment false front x) (AreFragments xs) bytes

-- A whole record: fragments, and then its last one. The record is what their contents join to.
pub record IsRecord (bytes content : List ℕ) : Type 0 where
  pub contents : List (List ℕ)
  pub last : List ℕ
  pub spelled : Joined (AreFragments contents) (λ back. IsFragment true back last) bytes
  pub joined : content ≡ concat contents ++ last
  pub limit : length content ≤ record_limit

-- whole records, one behind the other
abbrev pub AreRecords : List (List ℕ) → List ℕ → Type 0
AreRecords [] bytes = bytes ≡ []
AreRecords (x ∷ xs) bytes = Joined (λ front. IsRecord front x) (AreRecords xs) bytes

-- A record is begun: fragments stand first, none of them its last. They take `at` bytes of the stream and
-- bring the record `size` bytes. Behind them stands Next.
pub record Begun (Next : ℕ → List ℕ → Type 0) (at size : ℕ) (bytes : List ℕ) : Type 0 where
  pub contents : List (List ℕ)
  pub front : List ℕ
  pub back : List ℕ
  pub parts : bytes ≡ front ++ back
  pub fragments : AreFragments contents front
  pub at_is : length front ≡ at
  pub size_is : length (concat contents) ≡ size
  pub within : size ≤ record_limit
  pub next : Next size back

-- a header that keeps the record within its limit, and fewer bytes behind it than it says
pub record LacksBytes (size : ℕ) (bytes : List ℕ) : Type 0 where
  pub last : Bool
  pub n : ℕ
  pub header : List ℕ
  pub body : List ℕ
  pub parts : bytes ≡ header ++ body
  pub says : IsHeader last n header
  pub lacks : length body < n
  pub within : size + n ≤ record_limit

-- fewer bytes than a header has, or than a fragment has
abbrev pub IsPart : ℕ → List ℕ → Type 0
IsPart size bytes = (length bytes < 4) ⊎ LacksBytes size bytes

-- a header that takes a record, which has `size` bytes so far, past the limit
pub record PassesLimit (size : ℕ) (bytes : List ℕ) : Type 0 where
  pub last : Bool
  pub n : ℕ
  pub header : List ℕ
  pub behind : List ℕ
  pub parts : bytes ≡ header ++ behind
  pub says : IsHeader last n header
  pub past : record_limit < size + n

-- a record that is begun and not whole yet, or nothing
abbrev pub IsUnfinished : List ℕ → Type 0
IsUnfinished bytes = (at : ℕ) × (size : ℕ) × Begun IsPart at size bytes

-- a record that is begun, and in it a header that takes it past the limit
abbrev pub IsTooLong : List ℕ → Type 0
IsTooLong bytes = (at : ℕ) × (size : ℕ) × Begun PassesLimit at size bytes

-- the bytes are whole records, and behind them a rest
pub record IsSplit (Rest : List ℕ → Type 0) (bytes : List ℕ) (records : List (List ℕ)) (rest : List ℕ) : Type 0 where
  pub front : List ℕ
  pub parts : bytes ≡ front ++ rest
  pub whole : AreRecords records front
  pub left : Rest rest

-- a record written as one fragment
abbrev pub record_text : List ℕ → List ℕ
record_text content = word_text (2147483648 + length content) ++ content
