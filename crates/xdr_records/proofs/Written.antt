-- What is written of an item spells it.
use Rattle.std.proofs.Common.{◌≡◌, ℕ, ◌+◌, ◌-◌, ◌^◌, ◌<◌, ◌≤◌, Bool, true, false, List, [], ◌∷◌, ◌++◌, length, Option, Some, None, refl, sym, ap, ◌∙◌, arith}
use Rattle.std.specs.Prelude.{IfSome, All}
use Rattle.std.specs.List.{AllByRecursion}
use Rattle.std.proofs.lemmas.List.{append-nil, length-append, length-replicate}
use Rattle.std.proofs.lemmas.List.Elements.{recursion_from_All}
use Rattle.byteorder.specs.Endian.{big_bytes, big_number}
use Rattle.byteorder.specs.Numbers.{big_number-reads_back, length-bytes_high_first}
use Rattle.xdr_records.specs.Grammar.{Grammar, optional}
use Rattle.xdr_records.specs.Grammar.Grammar.{nothing, many, both}
use Rattle.xdr_records.specs.Items.{word_of, long_of, padded}
use Rattle.xdr_records.specs.Spelling.{IsWord, IsLong, IsFlag, IsFixed, IsOpaque, IsList, Spells}
use Rattle.xdr_records.specs.Texts.{word_text, long_text, flag_text, padding_text, fixed_text, opaque_text, optional_text, list_text}

pub length-word_text : (n : ℕ) → length (word_text n) ≡ 4
unfolding word_text
length-word_text n = length-bytes_high_first 4 n

pub length-fixed_text : (bytes : List ℕ) → length (fixed_text bytes) ≡ padded (length bytes)
unfolding fixed_text
length-fixed_text bytes =
    let all = length-append bytes (padding_text (length bytes)) in
    let zeros : length (padding_text (length bytes)) ≡ padded (length bytes) - length bytes = length-replicate (padded (length bytes) - length bytes) 0 in
    omega arith

pub length-opaque_text : (bytes : List ℕ) → length (opaque_text bytes) ≡ 4 + padded (length bytes)
unfolding opaque_text
length-opaque_text bytes =
    let all = length-append (word_text (length bytes)) (fixed_text bytes) in
    let word = length-word_text (length bytes) in
    let body = length-fixed_text bytes in
    omega arith

pub word_spelled : (n : ℕ) → n < 2 ^ 32 → IsWord (word_text n) n
unfolding word_of word_text
word_spelled n fits =
    record { four = length-bytes_high_first 4 n; value = ap (λ (xs : List ℕ). big_number 4 xs) (sym (append-nil (big_bytes 4 n))) ∙ big_number-reads_back 4 n [] (omega arith) }

pub long_spelled : (n : ℕ) → n < 2 ^ 64 → IsLong (long_text n) n
unfolding long_of long_text
long_spelled n fits =
    record { eight = length-bytes_high_first 8 n; value = ap (λ (xs : List ℕ). big_number 8 xs) (sym (append-nil (big_bytes 8 n))) ∙ big_number-reads_back 8 n [] (omega arith) }

pub flag_spelled : (flag : Bool) → IsFlag (flag_text flag) flag
unfolding flag_text
flag_spelled false = word_spelled 0 (omega arith)
flag_spelled true = word_spelled 1 (omega arith)

pub fixed_spelled : (bytes : List ℕ) → IsFixed (length bytes) (fixed_text bytes) bytes
unfolding fixed_text
fixed_spelled bytes =
    record { padding = padding_text (length bytes); parts = refl; size = refl; all = length-fixed_text bytes }

pub opaque_spelled : (max : ℕ) (bytes : List ℕ) → length bytes < 2 ^ 32 → length bytes ≤ max → IsOpaque max (opaque_text bytes) bytes
unfolding opaque_text
opaque_spelled max bytes fits within =
    record { word = word_text (length bytes); body = fixed_text bytes; parts = refl; counted = word_spelled (length bytes) fits; within = within; padded = fixed_spelled bytes }

-- an item, and behind it what depends on its value
pub both_spelled : {K A B : Type 0} (g : Grammar K A) (f : A → Grammar K B) (x : A) (y : B) (front back : List ℕ) → Spells g front x → Spells (f x) back y → Spells (both g f) (front ++ back) y
both_spelled g f x y front back first others =
    (x, record { front = front; back = back; parts = refl; first = first; others = others })

-- the last item
pub nothing_behind : {K A B : Type 0} (g : Grammar K A) (f : A → B) (x : A) (text : List ℕ) → Spells g text x → Spells (both g (λ a. nothing (f a))) text (f x)
nothing_behind g f x text spelled =
    (x, record { front = text; back = []; parts = sym (append-nil text); first = spelled; others = (refl, refl) })

pub optional_spelled : {K A : Type 0} (g : Grammar K A) (text : A → List ℕ) (o : Option A) → IfSome o (λ x. Spells g (text x) x) → Spells (optional g) (optional_text text o) o
unfolding optional_text
optional_spelled g text None h =
    (false, record { front = flag_text false; back = []; parts = sym (append-nil (flag_text false)); first = flag_spelled false; others = (refl, refl) })
optional_spelled g text (Some x) h =
    (true, record { front = flag_text true; back = text x; parts = refl; first = flag_spelled true; others = nothing_behind g (λ y. Some y) x (text x) h })

-- every item is spelled
items_spelled : {A : Type 0} (Item : List ℕ → A → Type 0) (text : A → List ℕ) (xs : List A) → AllByRecursion (λ x. Item (text x) x) xs → IsList Item xs (list_text text xs)
unfolding list_text
items_spelled Item text [] h = flag_spelled false
items_spelled Item text (x ∷ xs) h =
    record {
      front = flag_text true;
      back = text x ++ list_text text xs;
      parts = refl;
      first = flag_spelled true;
      others = record { front = text x; back = list_text text xs; parts = refl; first = h.0; others = items_spelled Item text xs h.1 };
    }

pub list_spelled : {K A : Type 0} (g : Grammar K A) (text : A → List ℕ) (xs : List A) → All (λ x. Spells g (text x) x) xs → Spells (many g) (list_text text xs) xs
list_spelled g text xs h = items_spelled (Spells g) text xs (recursion_from_All (λ x. Spells g (text x) x) xs h)
