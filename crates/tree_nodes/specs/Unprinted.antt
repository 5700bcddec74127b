-- For the prover.
-- equal texts mean equal trees: each text says where it ends. For the prover: a law of the trait of states asks for it
use Rattle.std.specs.Prelude.{◌≡◌, ℕ, ◌-◌, ◌%◌, ◌^◌, ◌<◌, List, [], ◌∷◌, ◌++◌, length, replicate, Some, None, All, refl}
use Rattle.std.proofs.Common.{sym, ap, ◌∙◌, append_assoc, append-nil, arith, lit<}
use Rattle.std.proofs.lemmas.List.Elements.{All-head, All-tail}
use Rattle.std.proofs.lemmas.Nat.{from_be_bytes-to_be_bytes_4, from_be_bytes-to_be_bytes_8}
use Rattle.std.specs.Int.{w32, w64, from_be_bytes}
use Rattle.std.specs.List.{flat_map}
use Rattle.std.specs.FinMap as map
use Rattle.tree_stores.specs.nfs3_types_specs.declared.attributes.Verifier.{Verifier}
use Rattle.tree_stores.specs.nfs3_types_specs.declared.attributes.FileType.TheVariants as types
use Rattle.tree_stores.specs.nfs3_types_specs.Numbers.{type_number}
use Rattle.tree_nodes.specs.declared.node.Node.{Node}
use Rattle.tree_nodes.specs.declared.node.File.{File}
use Rattle.tree_nodes.specs.declared.node.Content.{Content}
use Rattle.tree_nodes.specs.declared.node.Content.TheVariants as contents
use Rattle.tree_nodes.specs.Tree.{Names, Tree}
use Rattle.tree_nodes.specs.Printed.{word_text, long_text, opaque_text, verifier_text, content_text, path_text, entry_text, tree_text, IsShort, VerifierFits, ContentFits, EntryFits, IsPrintable}

zero_isnt_one : (e : ◌≡◌ {A = ℕ} 0 1) → ⊥
zero_isnt_one e = omega arith

two_isnt_one : (e : ◌≡◌ {A = ℕ} 2 1) → ⊥
two_isnt_one e = omega arith

two_isnt_five : (e : ◌≡◌ {A = ℕ} 2 5) → ⊥
two_isnt_five e = omega arith

one_isnt_five : (e : ◌≡◌ {A = ℕ} 1 5) → ⊥
one_isnt_five e = omega arith

-- two texts, each before a rest, are alike only at the same value and the same rest
abbrev pub TellsApart : {A : Type 0} → (A → List ℕ) → (A → Type 0) → Type 0
TellsApart {A} text Fits = (x y : A) (r s : List ℕ) → Fits x → Fits y → text x ++ r ≡ text y ++ s → (x ≡ y) × (r ≡ s)

-- fronts of one length
fronts : (a b r s : List ℕ) → length a ≡ length b → a ++ r ≡ b ++ s → (a ≡ b) × (r ≡ s)
fronts [] [] r s n e = (refl, e)
fronts [] (y ∷ b) r s n e = absurd (cc)
fronts (x ∷ a) [] r s n e = absurd (cc)
fronts (x ∷ a) (y ∷ b) r s n e =
    let head : x ≡ y = cc in
    let tail : a ++ r ≡ b ++ s = cc in
    let lengths : length a ≡ length b = cc in
    let rest = fronts a b r s lengths tail in
    ((λ i. head i ∷ rest.0 i), rest.1)

words : TellsApart word_text (λ n. n < 2 ^ 32)
unfolding word_text
words m n r s fm fn e =
    let parts = fronts (word_text m) (word_text n) r s refl e in
    (sym (from_be_bytes-to_be_bytes_4 m fm) ∙ ap (from_be_bytes w32) parts.0 ∙ from_be_bytes-to_be_bytes_4 n fn, parts.1)

longs : TellsApart long_text (λ n. n < 2 ^ 64)
unfolding long_text
longs m n r s fm fn e =
    let parts = fronts (long_text m) (long_text n) r s refl e in
    (sym (from_be_bytes-to_be_bytes_8 m fm) ∙ ap (from_be_bytes w64) parts.0 ∙ from_be_bytes-to_be_bytes_8 n fn, parts.1)

two_splits : (a b r c d s : List ℕ) → (a ++ b) ++ r ≡ (c ++ d) ++ s → a ++ (b ++ r) ≡ c ++ (d ++ s)
two_splits a b r c d s e = sym (append_assoc a b r) ∙ e ∙ append_assoc c d s

abbrev padding : List ℕ → List ℕ
padding bytes = replicate ((4 - length bytes % 4) % 4) 0

same_padding : (a b : List ℕ) → length a ≡ length b → length (padding a) ≡ length (padding b)
same_padding a b e = ap (λ (n : ℕ). length (replicate {A = ℕ} ((4 - n % 4) % 4) 0)) e

opaques : TellsApart opaque_text IsShort
unfolding opaque_text
opaques x y r s fx fy e =
    let counts = words (length x) (length y) _ _ fx fy (two_splits (word_text (length x)) (x ++ padding x) r (word_text (length y)) (y ++ padding y) s e) in
    let bytes = fronts x y _ _ counts.0 (two_splits x (padding x) r y (padding y) s counts.1) in
    let rest = fronts (padding x) (padding y) r s (same_padding x y counts.0) bytes.1 in
    (bytes.0, rest.1)

-- as many texts in a row
rows : {A : Type 0} (text : A → List ℕ) (Fits : A → Type 0) → TellsApart text Fits → (xs ys : List A) (r s : List ℕ) → length xs ≡ length ys
    → All Fits xs → All Fits ys → flat_map text xs ++ r ≡ flat_map text ys ++ s → (xs ≡ ys) × (r ≡ s)
rows text Fits apart [] [] r s n fx fy e = (refl, e)
rows text Fits apart [] (y ∷ ys) r s n fx fy e = absurd (cc)
rows text Fits apart (x ∷ xs) [] r s n fx fy e = absurd (cc)
rows text Fits apart (x ∷ xs) (y ∷ ys) r s n fx fy e =
    let first = apart x y _ _ (All-head Fits x xs fx) (All-head Fits y ys fy) (two_splits (text x) (flat_map text xs) r (text y) (flat_map text ys) s e) in
    let lengths : length xs ≡ length ys = cc in
    let rest = rows text Fits apart xs ys r s lengths (All-tail Fits x xs fx) (All-tail Fits y ys fy) first.1 in
    ((λ i. first.0 i ∷ rest.0 i), rest.1)

paths_apart : (x y : Names) (r s : List ℕ) → length x < 2 ^ 32 → length y < 2 ^ 32 → All IsShort x → All IsShort y → path_text x ++ r ≡ path_text y ++ s → (x ≡ y) × (r ≡ s)
unfolding path_text
paths_apart x y r s nx ny fx fy e =
    let counts = words (length x) (length y) _ _ nx ny (two_splits (word_text (length x)) (flat_map opaque_text x) r (word_text (length y)) (flat_map opaque_text y) s e) in
    rows opaque_text IsShort opaques x y r s counts.0 fx fy counts.1

small : (m n : ℕ) (r s : List ℕ) → m < 2 ^ 32 → n < 2 ^ 32 → word_text m ++ r ≡ word_text n ++ s → m ≡ n
small m n r s fm fn e = (words m n r s fm fn e).0

zero_one : (r s : List ℕ) → word_text 0 ++ r ≡ word_text 1 ++ s → ⊥
zero_one r s e = zero_isnt_one (small 0 1 r s (lit< tt) (lit< tt) e)

same_verifier : (x y : Verifier) → x.value ≡ y.value → x ≡ y
same_verifier x y e = λ i. record { value = e i }

verifiers : TellsApart verifier_text VerifierFits
unfolding verifier_text
verifiers None None r s fx fy e = (refl, (words 0 0 r s (lit< tt) (lit< tt) e).1)
verifiers None (Some y) r s fx fy e = absurd (zero_one r (long_text y.value ++ s) (e ∙ append_assoc (word_text 1) (long_text y.value) s))
verifiers (Some x) None r s fx fy e = absurd (zero_one s (long_text x.value ++ r) (sym e ∙ append_assoc (word_text 1) (long_text x.value) r))
verifiers (Some x) (Some y) r s fx fy e =
    let flag = words 1 1 _ _ (lit< tt) (lit< tt) (two_splits (word_text 1) (long_text x.value) r (word_text 1) (long_text y.value) s e) in
    let value = longs x.value y.value r s fx fy flag.1 in
    (ap Some (same_verifier x y value.0), value.1)

same_file : (x y : File) → x.bytes ≡ y.bytes → x.verifier ≡ y.verifier → x ≡ y
same_file x y b v = λ i. record { bytes = b i; verifier = v i }

files : (x y : File) (r s : List ℕ) → ContentFits (contents.File x) → ContentFits (contents.File y)
    → (opaque_text x.bytes ++ verifier_text x.verifier) ++ r ≡ (opaque_text y.bytes ++ verifier_text y.verifier) ++ s → (x ≡ y) × (r ≡ s)
files x y r s fx fy e =
    let bytes = opaques x.bytes y.bytes _ _ fx.0 fy.0 (two_splits (opaque_text x.bytes) (verifier_text x.verifier) r (opaque_text y.bytes) (verifier_text y.verifier) s e) in
    let made = verifiers x.verifier y.verifier r s fx.1 fy.1 bytes.1 in
    (same_file x y bytes.0 made.0, made.1)

-- the type's number, and what stands behind it
abbrev kind : Content → ℕ
kind contents.Directory = type_number types.Directory
kind (contents.File _) = type_number types.Regular
kind (contents.Link _) = type_number types.SymbolicLink

abbrev held : Content → List ℕ
held contents.Directory = []
held (contents.File file) = opaque_text file.bytes ++ verifier_text file.verifier
held (contents.Link text) = opaque_text text

kind_first : (x : Content) (r : List ℕ) → content_text x ++ r ≡ word_text (kind x) ++ (held x ++ r)
unfolding content_text
kind_first contents.Directory r = refl
kind_first (contents.File file) r = append_assoc (word_text (type_number types.Regular)) (opaque_text file.bytes ++ verifier_text file.verifier) r
kind_first (contents.Link text) r = append_assoc (word_text (type_number types.SymbolicLink)) (opaque_text text) r

kind_fits : (x : Content) → kind x < 2 ^ 32
kind_fits contents.Directory = lit< tt
kind_fits (contents.File _) = lit< tt
kind_fits (contents.Link _) = lit< tt

same_kind : (x y : Content) (r s : List ℕ) → ContentFits x → ContentFits y → kind x ≡ kind y → held x ++ r ≡ held y ++ s → (x ≡ y) × (r ≡ s)
same_kind contents.Directory contents.Directory r s fx fy k e = (refl, e)
same_kind contents.Directory (contents.File _) r s fx fy k e = absurd (two_isnt_one k)
same_kind contents.Directory (contents.Link _) r s fx fy k e = absurd (two_isnt_five k)
same_kind (contents.File _) contents.Directory r s fx fy k e = absurd (two_isnt_one (sym k))
same_kind (contents.File x) (contents.File y) r s fx fy k e = let h = files x y r s fx fy e in (ap contents.File h.0, h.1)
same_kind (contents.File _) (contents.Link _) r s fx fy k e = absurd (one_isnt_five k)
same_kind (contents.Link _) contents.Directory r s fx fy k e = absurd (two_isnt_five (sym k))
same_kind (contents.Link _) (contents.File _) r s fx fy k e = absurd (one_isnt_five (sym k))
same_kind (contents.Link x) (contents.Link y) r s fx fy k e = let h = opaques x y r s fx fy e in (ap contents.Link h.0, h.1)

holdings : TellsApart content_text ContentFits
holdings x y r s fx fy e =
    let kinds = words (kind x) (kind y) _ _ (kind_fits x) (kind_fits y) (sym (kind_first x r) ∙ e ∙ kind_first y s) in
    same_kind x y r s fx fy kinds.0 kinds.1

same_node : (x y : Node) → x.object ≡ y.object → x.content ≡ y.content → x ≡ y
same_node x y o c = λ i. record { object = o i; content = c i }

entries_apart : TellsApart entry_text EntryFits
unfolding entry_text
entries_apart x y r s fx fy e =
    let path = paths_apart x.0 y.0 _ _ fx.depth fy.depth fx.names fy.names (two_splits (path_text x.0) _ r (path_text y.0) _ s e) in
    let object = longs x.1.object y.1.object _ _ fx.object fy.object (two_splits (long_text x.1.object) _ r (long_text y.1.object) _ s path.1) in
    let content = holdings x.1.content y.1.content r s fx.content fy.content object.1 in
    ((λ i. (path.0 i, same_node x.1 y.1 object.0 content.0 i)), content.1)

-- equal texts mean equal trees
pub same_text : (x y : Tree) → IsPrintable x → IsPrintable y → tree_text x ≡ tree_text y → x ≡ y
unfolding tree_text
same_text x y fx fy e =
    let counts = words (map.len x) (map.len y) _ _ fx.count fy.count e in
    let lengths = sym (map.len-entries x) ∙ counts.0 ∙ map.len-entries y in
    let entries = rows entry_text EntryFits entries_apart (map.entries x) (map.entries y) [] [] lengths fx.entries fy.entries
    (append-nil (flat_map entry_text (map.entries x)) ∙ counts.1 ∙ sym (append-nil (flat_map entry_text (map.entries y)))) in
    map.same_entries_map x y entries.0
