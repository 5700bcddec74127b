-- A text has at most one bad line.
use Rattle.std.proofs.Common.{◌≡◌, ℕ, ◌<◌, inl, inr, List, [], ◌∷◌, ◌++◌, length, refl, sym, ap, ◌∙◌, arith, append_assoc, subst}
use Rattle.std.specs.List.{AllByRecursion, flat_map}
use Rattle.std.proofs.lemmas.Bool.{cases_lt}
use Rattle.certificate.specs.CertificateText.{CertificateText, line}
use Rattle.text_words.specs.Words.{Lacks}
use Rattle.certificate.specs.BadLine.{Begins, IsBadLine}
use Rattle.certificate.proofs.Listed.{cut_line}

one_more : (x y xs ys word rest : List ℕ) → x ≡ y → ys ≡ (xs ++ word) ++ rest → line y ++ ys ≡ ((line x ++ xs) ++ word) ++ rest
one_more x y xs ys word rest same e =
    ap (λ w. line w ++ ys) (sym same) ∙ ap (λ t. line x ++ t) e ∙ simp append_assoc

shorter : (xs ys : List (List ℕ)) (r s : List ℕ) → AllByRecursion (Lacks 10) xs → AllByRecursion (Lacks 10) ys → flat_map line xs ++ r ≡ flat_map line ys ++ s → length xs < length ys → (words more rest : List ℕ) × Lacks 10 words × (r ≡ line words ++ more) × (flat_map line ys ≡ (flat_map line xs ++ line words) ++ rest)
shorter [] [] r s hx hy e less = absurd (omega arith)
shorter [] (y ∷ ys) r s hx hy e less = (y, flat_map line ys ++ s, flat_map line ys, hy.0, e ∙ append_assoc (line y) (flat_map line ys) s, refl)
shorter (x ∷ xs) [] r s hx hy e less = absurd (omega arith)
shorter (x ∷ xs) (y ∷ ys) r s hx hy e less =
    let first = cut_line x y (flat_map line xs ++ r) (flat_map line ys ++ s) hx.0 hy.0 (sym (append_assoc (line x) (flat_map line xs) r) ∙ e ∙ append_assoc (line y) (flat_map line ys) s) in
    let found = shorter xs ys r s hx.1 hy.1 first.1 (omega arith) in
    (found.0, found.1, found.2, found.3, found.4, one_more x y (flat_map line xs) (flat_map line ys) (line found.0) found.2 first.0 found.5)

Begins-front : (front rest : List ℕ) → Begins (front ++ rest) → Begins front
Begins-front front rest b = record {
  certificate = b.certificate;
  rest = rest ++ b.rest;
  whole = subst (λ (t : List ℕ). CertificateText t b.certificate) (append_assoc front rest b.rest) b.whole;
}

no_earlier : (text : List ℕ) (j k : ℕ) → IsBadLine text j → IsBadLine text k → j < k → ⊥
no_earlier text j k first later less =
    let found = shorter first.ahead later.ahead first.rest later.rest first.each_a_line later.each_a_line (sym first.split ∙ later.split) (omega (arith, first.counted, later.counted)) in
    first.stops found.0 found.1 found.4 found.3 (Begins-front (flat_map line first.ahead ++ line found.0) found.2 (subst Begins found.5 later.begins))

pub IsBadLine-same : (text : List ℕ) (j k : ℕ) → IsBadLine text j → IsBadLine text k → j ≡ k
IsBadLine-same text j k first later =
    elim (cases_lt j k) [
      | inl less ↦ absurd (no_earlier text j k first later less)
      | inr up ↦ elim (cases_lt k j) [
        | inl more ↦ absurd (no_earlier text k j later first more)
        | inr down ↦ omega arith
      ]
    ]
