-- For the prover, and for callers.
-- Reading items of RFC 4506 from the front, with the first fault that is met and where it stands.
use Rattle.std.specs.Prelude.{◌≡◌, ℕ, zero, suc, Bool, true, false, List, [], ◌∷◌, length, Option, Some, None, Result, Ok, Err}
use Rattle.xdr_records.specs.declared.fault.XdrFault.{XdrFault}
use Rattle.xdr_records.specs.declared.fault.XdrFault.TheVariants.{Short}
use Rattle.xdr_records.specs.Unread.{Unread, At, whole}
use Rattle.xdr_records.specs.Grammar.{Grammar}
use Rattle.xdr_records.specs.Grammar.Grammar.{one_word, one_long, one_flag, one_fixed, one_opaque, named, nothing, refused, many, both}
use Rattle.xdr_records.specs.Items.{word_at, long_at, flag_at, fixed_at, opaque_at, end_at}

-- what comes next, where nothing was wrong yet
abbrev pub bound : {A B F : Type 0} → Result A F → (A → Result B F) → Result B F
bound (Ok x) f = f x
bound (Err fault) f = Err fault

-- an item that begins here, where its fault stands
abbrev pub item_here : {A K : Type 0} → (XdrFault → K) → ℕ → Result A XdrFault → Result A (At K)
item_here kind_of here (Ok x) = Ok x
item_here kind_of here (Err fault) = Err (record { at = here; kind = kind_of fault })

-- a word's name, where the fault of a word outside the list stands
abbrev pub name_here : {A K : Type 0} → ℕ → Result A K → Unread → Result (A × Unread) (At K)
name_here here (Ok x) after = Ok (x, after)
name_here here (Err kind) after = Err (record { at = here; kind = kind })

abbrev pub with_first : {A F : Type 0} → A → Result (List A × Unread) F → Result (List A × Unread) F
with_first x (Ok others) = Ok (x ∷ others.0, others.1)
with_first x (Err fault) = Err fault

-- behind a true flag an item and the others, behind a false one none
abbrev pub flagged : {A F : Type 0} → (Unread → Result (A × Unread) F) → (Unread → Result (List A × Unread) F) → Bool → Unread → Result (List A × Unread) F
flagged item others false after = Ok ([], after)
flagged item others true after = bound (item after) (λ x. with_first x.0 (others x.1))

-- the items of a list, at most so many, with their flags
abbrev pub items_at : {A K : Type 0} → (XdrFault → K) → (Unread → Result (A × Unread) (At K)) → ℕ → Unread → Result (List A × Unread) (At K)
items_at kind_of item zero unread = Err (record { at = unread.at; kind = kind_of Short })
items_at kind_of item (suc n) unread = bound (item_here kind_of unread.at (flag_at unread)) (λ flag. flagged item (λ after. items_at kind_of item n after) flag.0 flag.1)

-- what a grammar reads from the front, or the first item at fault
abbrev pub reading : {K A : Type 0} → (XdrFault → K) → Grammar K A → Unread → Result (A × Unread) (At K)
reading kind_of one_word unread = item_here kind_of unread.at (word_at unread)
reading kind_of one_long unread = item_here kind_of unread.at (long_at unread)
reading kind_of one_flag unread = item_here kind_of unread.at (flag_at unread)
reading kind_of (one_fixed n) unread = item_here kind_of unread.at (fixed_at n unread)
reading kind_of (one_opaque max) unread = item_here kind_of unread.at (opaque_at max unread)
reading kind_of (named name) unread = bound (item_here kind_of unread.at (word_at unread)) (λ word. name_here unread.at (name word.0) word.1)
reading kind_of (nothing x) unread = Ok (x, unread)
reading kind_of (refused kind) unread = Err (record { at = unread.at; kind = kind })
reading kind_of (many g) unread = items_at kind_of (reading kind_of g) (length unread.rest) unread
reading kind_of (both g f) unread = bound (reading kind_of g unread) (λ x. reading kind_of (f x.0) x.1)

-- the value that was read, where nothing stands behind it
abbrev pub ended : {A K : Type 0} → (XdrFault → K) → A × Unread → Result A (At K)
ended kind_of x = bound (item_here kind_of x.1.at (end_at x.1)) (λ _. Ok x.0)

-- what a grammar reads of all of the bytes
abbrev pub all_of : {K A : Type 0} → (XdrFault → K) → Grammar K A → List ℕ → Result A (At K)
all_of kind_of g bytes = bound (reading kind_of g (whole bytes)) (ended kind_of)

-- an item is taken from the front, and at an error the reader stands where it stood
abbrev pub Gives : {X Y F : Type 0} → (X → Y) → Unread → Unread → Result X F → Result (Y × Unread) F → Type 0
Gives view old new (Ok x) answer = answer ≡ Ok (view x, new)
Gives view old new (Err fault) answer = (answer ≡ Err fault) × (new ≡ old)

-- an error that names a fault of the bytes is the fault that is read; one that doesn't is want of memory
abbrev pub Told : {Y F : Type 0} → Option F → Result Y F → Type 0
Told (Some fault) answer = answer ≡ Err fault
Told None answer = Unit {0}

-- a value is what is read from the front, and the reader stands behind it; told says which fault an error names
abbrev pub Answers : {E F X Y : Type 0} → (E → Option F) → (X → Y) → Unread → Result X E → Result (Y × Unread) F → Type 0
Answers told view new (Ok x) answer = answer ≡ Ok (view x, new)
Answers told view new (Err e) answer = Told (told e) answer

-- the same where all of the bytes are read
abbrev pub AnswersAll : {E F X Y : Type 0} → (E → Option F) → (X → Y) → Result X E → Result Y F → Type 0
AnswersAll told view (Ok x) answer = answer ≡ Ok (view x)
AnswersAll told view (Err e) answer = Told (told e) answer

-- what is wrong, without where
abbrev pub kinds : {A K : Type 0} → Result A (At K) → Result A K
kinds (Ok x) = Ok x
kinds (Err fault) = Err fault.kind
