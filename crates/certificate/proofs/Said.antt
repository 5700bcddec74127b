-- A line says one thing.
use Rattle.std.proofs.Common.{◌≡◌, ◌≢◌, ℕ, ◌&&◌, not, Bool, true, cond, List, [], ◌∷◌, ◌++◌, get_or, Some, None, eqb, false, refl, sym, ap, ◌∙◌, arith, decimal, codes}
use Rattle.std.specs.List.{list_all}
use Rattle.std.proofs.lemmas.Bool.{eq-eqb}
use Rattle.std.proofs.lemmas.Fmt.{decimal_injective}
use Rattle.hex.specs.Hex.{encode_lower}
use Rattle.hex.proofs.HexLemmas.{decode_of-encode_lower}
use Rattle.certificate.specs.declared.plan.Bind.{Bind}
use Rattle.certificate.specs.declared.plan.Place.TheVariants.{Answered, Taken}
use Rattle.certificate.specs.declared.line.Line.{Line}
use Rattle.certificate.specs.declared.line.Line.TheVariants as lines
use Rattle.text_words.specs.Words.{Lacks}
use Rattle.certificate.specs.Line.{IsLine}
use Rattle.text_words.proofs.Cuts.{split_same, no_split, Lacks-decimal, Lacks-append}
use Rattle.certificate.proofs.Hex.{Lacks-hex, decoded_is}
use Rattle.certificate.proofs.LineParts.{parts_of_bind, other_first}

-- what a line begins with tells its kind
abbrev kind : Line → ℕ
kind lines.Witness = 0
kind (lines.Bind bind) = 1
kind (lines.Place place) = 2
kind (lines.Cut kept) = 3
kind lines.End = 4

abbrev kind_at : ℕ → ℕ
kind_at letter = cond (eqb letter 119) 0 (cond (eqb letter 98) 1 (cond (eqb letter 99) 3 (cond (eqb letter 101) 4 2)))

tells_kind : (words : List ℕ) (l : Line) → IsLine words l → kind_at (get_or words 0 0) ≡ kind l
tells_kind words lines.Witness h = ap (λ w. kind_at (get_or w 0 0)) h
tells_kind words (lines.Bind bind) h = ap (λ w. kind_at (get_or w 0 0)) h.0
tells_kind words (lines.Place (Answered n)) h = ap (λ w. kind_at (get_or w 0 0)) h.0
tells_kind words (lines.Place (Taken n None)) h = ap (λ w. kind_at (get_or w 0 0)) h.0
tells_kind words (lines.Place (Taken n (Some count))) h = ap (λ w. kind_at (get_or w 0 0)) h.0
tells_kind words (lines.Cut kept) h = ap (λ w. kind_at (get_or w 0 0)) h.0
tells_kind words lines.End h = ap (λ w. kind_at (get_or w 0 0)) h

other_kind : (words : List ℕ) (l m : Line) → eqb (kind l) (kind m) ≡ false → IsLine words l → IsLine words m → ⊥
other_kind words l m not hl hm = cc (sym not ∙ eq-eqb (kind l) (kind m) (sym (tells_kind words l hl) ∙ tells_kind words m hm))

same_bind : (words : List ℕ) (b d : Bind) → IsLine words (lines.Bind b) → IsLine words (lines.Bind d) → b ≡ d
same_bind words b d hb hd =
    let rest = encode_lower b.handle ++ 32 ∷ decimal b.object in
    let parts = parts_of_bind rest (encode_lower b.handle) (decimal b.object) d refl (Lacks-hex 32 b.handle refl hb.1.2) (sym hb.0 ∙ hd.0, hd.1) in
    let handles = decoded_is (encode_lower b.handle) d.handle b.handle parts.0 (decode_of-encode_lower b.handle hb.1.2) in
    let objects = decimal_injective b.object d.object hb.1.3 parts.2 parts.1 in
    let same : record { handle = b.handle; object = b.object } ≡ record { handle = d.handle; object = d.object } = cc (handles, objects) in same

-- words say one thing
pub words_same : (words : List ℕ) (l m : Line) → IsLine words l → IsLine words m → l ≡ m
words_same words lines.Witness lines.Witness hl hm = refl
words_same words (lines.Bind b) (lines.Bind d) hl hm = ap (λ x. lines.Bind x) (same_bind words b d hl hm)
words_same words (lines.Place (Answered n)) (lines.Place (Answered k)) hl hm =
    let tails : decimal n ≡ decimal k = cc (hl.0, hm.0) in
    ap (λ x. lines.Place (Answered x)) (decimal_injective n k hl.1 hm.1 tails)
words_same words (lines.Place (Answered n)) (lines.Place (Taken k None)) hl hm = absurd (other_first 112 116 _ _ refl (sym hl.0 ∙ hm.0))
words_same words (lines.Place (Answered n)) (lines.Place (Taken k (Some c))) hl hm = absurd (other_first 112 116 _ _ refl (sym hl.0 ∙ hm.0))
words_same words (lines.Place (Taken k None)) (lines.Place (Answered n)) hl hm = absurd (other_first 116 112 _ _ refl (sym hl.0 ∙ hm.0))
words_same words (lines.Place (Taken k (Some c))) (lines.Place (Answered n)) hl hm = absurd (other_first 116 112 _ _ refl (sym hl.0 ∙ hm.0))
words_same words (lines.Place (Taken n None)) (lines.Place (Taken k None)) hl hm =
    let tails : decimal n ≡ decimal k = cc (hl.0, hm.0) in
    ap (λ x. lines.Place (Taken x None)) (decimal_injective n k hl.1.0 hm.1.0 tails)
words_same words (lines.Place (Taken n None)) (lines.Place (Taken k (Some c))) hl hm =
    let tails : decimal n ≡ decimal k ++ 32 ∷ decimal c = cc (hl.0, hm.0) in
    absurd (no_split 32 (decimal n) (decimal k) (decimal c) (Lacks-decimal 32 n (omega arith) hl.1.0) tails)
words_same words (lines.Place (Taken k (Some c))) (lines.Place (Taken n None)) hl hm =
    let tails : decimal n ≡ decimal k ++ 32 ∷ decimal c = cc (hl.0, hm.0) in
    absurd (no_split 32 (decimal n) (decimal k) (decimal c) (Lacks-decimal 32 n (omega arith) hm.1.0) tails)
words_same words (lines.Place (Taken n (Some c))) (lines.Place (Taken k (Some d))) hl hm =
    let tails : decimal n ++ 32 ∷ decimal c ≡ decimal k ++ 32 ∷ decimal d = cc (hl.0, hm.0) in
    let parts = split_same 32 (decimal n) (decimal k) (decimal c) (decimal d) (Lacks-decimal 32 n (omega arith) hl.1.0) (Lacks-decimal 32 k (omega arith) hm.1.0) tails in
    let numbers = decimal_injective n k hl.1.0 hm.1.0 parts.0 in
    let counts = decimal_injective c d (omega (arith, hl.1.1)) (omega (arith, hm.1.1)) parts.1 in
    cc (numbers, counts)
words_same words (lines.Cut n) (lines.Cut k) hl hm =
    let tails : decimal n ≡ decimal k = cc (hl.0, hm.0) in
    ap (λ x. lines.Cut x) (decimal_injective n k hl.1 hm.1 tails)
words_same words lines.End lines.End hl hm = refl
words_same words l m hl hm = absurd (other_kind words l m refl hl hm)

other_byte : (x byte : ℕ) (t : Bool) → (not (eqb x byte) && t) ≡ true → (x ≢ byte) × (t ≡ true)
other_byte x byte t h = go (eqb x byte) refl h
  where
    go : (e : Bool) → eqb x byte ≡ e → (not e && t) ≡ true → (x ≢ byte) × (t ≡ true)
    go true is h = absurd cc
    go false is h = (λ same. cc (sym is ∙ eq-eqb x byte same), h)

lacks_all : (byte : ℕ) (xs : List ℕ) → list_all (λ b. not (eqb b byte)) xs ≡ true → Lacks byte xs
lacks_all byte [] h = tt
lacks_all byte (x ∷ xs) h =
    let parts = other_byte x byte (list_all (λ b. not (eqb b byte)) xs) h in (parts.0, lacks_all byte xs parts.1)

after_word : (word rest : List ℕ) → list_all (λ b. not (eqb b 10)) word ≡ true → Lacks 10 rest → Lacks 10 (word ++ rest)
after_word word rest h lacks = Lacks-append 10 word rest (lacks_all 10 word h) lacks

-- no line has a line feed
pub no_feed : (words : List ℕ) (l : Line) → IsLine words l → Lacks 10 words
no_feed words lines.Witness h = rw h (lacks_all 10 (codes "witness 1") refl)
no_feed words (lines.Bind bind) h =
    rw h.0 (after_word (codes "bind ") (encode_lower bind.handle ++ 32 ∷ decimal bind.object) refl (Lacks-append 10 (encode_lower bind.handle) (32 ∷ decimal bind.object) (Lacks-hex 10 bind.handle refl h.1.2) (after_word (codes " ") (decimal bind.object) refl (Lacks-decimal 10 bind.object (omega arith) h.1.3))))
no_feed words (lines.Place (Answered n)) h = rw h.0 (after_word (codes "place ") (decimal n) refl (Lacks-decimal 10 n (omega arith) h.1))
no_feed words (lines.Place (Taken n None)) h = rw h.0 (after_word (codes "take ") (decimal n) refl (Lacks-decimal 10 n (omega arith) h.1.0))
no_feed words (lines.Place (Taken n (Some count))) h =
    rw h.0 (after_word (codes "take ") (decimal n ++ 32 ∷ decimal count) refl (Lacks-append 10 (decimal n) (32 ∷ decimal count) (Lacks-decimal 10 n (omega arith) h.1.0) (after_word (codes " ") (decimal count) refl (Lacks-decimal 10 count (omega arith) (omega (arith, h.1.1))))))
no_feed words (lines.Cut kept) h = rw h.0 (after_word (codes "cut ") (decimal kept) refl (Lacks-decimal 10 kept (omega arith) h.1))
no_feed words lines.End h = rw h (lacks_all 10 (codes "end") refl)
