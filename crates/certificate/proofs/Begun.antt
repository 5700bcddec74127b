-- Texts that begin a certificate's text, and the line at which they stop.
use Rattle.std.proofs.Common.{◌≡◌, ℕ, ◌+◌, List, [], ◌∷◌, ◌++◌, length, map, refl, sym, ap, ◌∙◌, subst}
use Rattle.std.specs.List.{AllByRecursion, flat_map}
use Rattle.std.proofs.lemmas.List.{length-map}
use Rattle.certificate.specs.declared.plan.Certificate.{Certificate}
use Rattle.certificate.specs.declared.line.Line.{Line}
use Rattle.certificate.specs.declared.line.Line.TheVariants as lines
use Rattle.certificate.specs.CertificateText.{CertificateText, line}
use Rattle.text_words.specs.Words.{Lacks}
use Rattle.certificate.specs.BadLine.{Begins, IsBadLine}
use Rattle.certificate.specs.Line.{IsLine, Follows, last_of, words_of}
use Rattle.certificate.proofs.Said.{no_feed}
use Rattle.certificate.proofs.Listed.{text_of, AreLines, lines_of, text-lines_of, AreLines-lines_of, cut_line, nonempty, goes_on}
use Rattle.certificate.proofs.Order.{in_order, follows_last}

-- the lines of a certificate behind those that its text begins with
pub lines_left : (done : List Line) (rest : List ℕ) (certificate : Certificate) → AreLines (lines.Witness ∷ done) → CertificateText (text_of (lines.Witness ∷ done) ++ rest) certificate → (tail : List Line) × (lines_of certificate ≡ done ++ tail) × (rest ≡ text_of tail) × AreLines tail
lines_left done rest certificate h text =
    let left = goes_on (lines.Witness ∷ done) (lines.Witness ∷ lines_of certificate) rest h (AreLines-lines_of certificate text.kept_to text.numbers) (text.spelled ∙ sym (text-lines_of certificate)) in
    (left.0, cc (left.1), left.2, left.3)

-- the next line of a certificate may stand behind those ahead of it
pub next_follows : (done : List Line) (words rest : List ℕ) (certificate : Certificate) → AreLines (lines.Witness ∷ done) → Lacks 10 words → CertificateText (text_of (lines.Witness ∷ done) ++ (line words ++ rest)) certificate → (l : Line) × IsLine words l × Follows (last_of lines.Witness done) l
next_follows done words rest certificate h lacks text =
    let left = lines_left done (line words ++ rest) certificate h text in
    next (left.0) left.1 left.2 left.3
  where
    next : (tail : List Line) → lines_of certificate ≡ done ++ tail → line words ++ rest ≡ text_of tail → AreLines tail → (l : Line) × IsLine words l × Follows (last_of lines.Witness done) l
    next [] all is are = absurd (nonempty words rest is)
    next (l ∷ tail) all is are =
        let first = cut_line words (words_of l) rest (text_of tail) lacks (no_feed (words_of l) l are.0) is in
        (l, rw first.0 are.0, follows_last lines.Witness l done tail (rw all at (in_order certificate text.kept_to)))

-- a text stops being a certificate's behind lines that begin one, where what comes next may not stand there
pub bad_line_at : (text rest : List ℕ) (done : List Line) → AreLines done → text ≡ text_of done ++ rest → Begins (text_of done) → ((words more : List ℕ) → rest ≡ line words ++ more → Lacks 10 words → Begins (text_of done ++ line words) → ⊥) → ((certificate : Certificate) → CertificateText text certificate → ⊥) → IsBadLine text (length done + 1)
bad_line_at text rest done are split begins stops none = record {
  ahead = map words_of done;
  rest = rest;
  split = split ∙ ap (λ front. front ++ rest) (sym (spelled done));
  each_a_line = each done are;
  counted = ap (λ n. n + 1) (length-map done words_of);
  begins = subst Begins (sym (spelled done)) begins;
  stops = λ words more e lacks b. stops words more e lacks (subst (λ (front : List ℕ). Begins (front ++ line words)) (spelled done) b);
  none = none;
}
  where
    spelled : (ls : List Line) → flat_map line (map words_of ls) ≡ text_of ls
    spelled [] = refl
    spelled (l ∷ ls) = ap (λ r. line (words_of l) ++ r) (spelled ls)

    each : (ls : List Line) → AreLines ls → AllByRecursion (Lacks 10) (map words_of ls)
    each [] h = tt
    each (l ∷ ls) h = (no_feed (words_of l) l h.0, each ls h.1)
