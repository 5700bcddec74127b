-- The bad line, at each place where the reader stops.
use Rattle.std.proofs.Common.{◌≡◌, ℕ, ◌+◌, List, [], ◌∷◌, ◌++◌, length, refl, sym, ap, ◌∙◌, arith, codes, append_assoc, subst, length-append}
use Rattle.std.proofs.lemmas.List.{append-nil}
use Rattle.certificate.specs.declared.plan.Bind.{Bind}
use Rattle.certificate.specs.declared.plan.Place.{Place}
use Rattle.certificate.specs.declared.plan.EraPlan.{EraPlan}
use Rattle.certificate.specs.declared.plan.Certificate.{Certificate}
use Rattle.certificate.specs.declared.line.Line.{Line}
use Rattle.certificate.specs.declared.line.Line.TheVariants as lines
use Rattle.certificate.specs.CertificateText.{CertificateText, IsCertificate, line, bind_lines, era_lines}
use Rattle.certificate.specs.Draft.{AreBinds, ArePlaces, spelled_by}
use Rattle.std.specs.List.{flat_map}
use Rattle.text_words.specs.Words.{Lacks}
use Rattle.certificate.specs.BadLine.{Begins, IsBadLine}
use Rattle.certificate.specs.Line.{IsLine, Follows, last_of, words_of, behind_first}
use Rattle.text_words.proofs.Cuts.{split_same, no_split}
use Rattle.certificate.proofs.Said.{no_feed}
use Rattle.certificate.proofs.Listed.{text_of, AreLines, lines_of, text-append, text-behind_first, AreLines-behind_first, cut_line, all_append}
use Rattle.certificate.proofs.Order.{NotEnd, in_order, follows_last, last-lines_of, goes_on_behind, last-append}
use Rattle.certificate.proofs.Finished.{CertificateText-finished, finished}
use Rattle.certificate.proofs.Begun.{lines_left, next_follows, bad_line_at}

as_cut : (words more : List ℕ) → line words ++ more ≡ words ++ 10 ∷ more
as_cut words more = append_assoc words (10 ∷ []) more

line_once : (rest words after other more : List ℕ) → rest ≡ words ++ 10 ∷ after → Lacks 10 words → rest ≡ line other ++ more → Lacks 10 other → words ≡ other
line_once rest words after other more e lacks is none =
    (split_same 10 words other after more lacks none (sym e ∙ is ∙ as_cut other more)).0

no_line : (rest words more : List ℕ) → Lacks 10 rest → rest ≡ line words ++ more → ⊥
no_line rest words more lacks e = no_split 10 rest words more lacks (e ∙ as_cut words more)

nothing : AreBinds []
nothing = record { rising = tt; handles = tt }

no_places : ArePlaces [] []
no_places = record { ended = tt; numbers = tt; in_last = tt }

-- the first line
begins_with_witness : (words rest : List ℕ) (certificate : Certificate) → Lacks 10 words → CertificateText (line words ++ rest) certificate → words ≡ codes "witness 1"
begins_with_witness words rest certificate lacks text =
    let tail = bind_lines certificate.binds ++ (flat_map era_lines certificate.eras ++ line (codes "end")) in
    (cut_line words (codes "witness 1") rest tail lacks (no_feed (codes "witness 1") lines.Witness refl) text.spelled).0

empty_begins : Begins []
empty_begins = record {
  certificate = finished [] [] [];
  rest = spelled_by [] [] [] ++ line (codes "end");
  whole = CertificateText-finished [] [] [] nothing no_places;
}

pub no_first : (text : List ℕ) → ((rest : List ℕ) → text ≡ line (codes "witness 1") ++ rest → ⊥) → IsBadLine text 1
no_first text other =
    bad_line_at text text [] tt refl empty_begins
    (λ words more e none b. other more (e ∙ ap (λ w. line w ++ more) (begins_with_witness words b.rest b.certificate none b.whole)))
    (λ certificate whole. other (bind_lines certificate.binds ++ (flat_map era_lines certificate.eras ++ line (codes "end"))) whole.spelled)

-- a draft
draft_begins : (binds : List Bind) (eras : List EraPlan) (places : List Place) → AreBinds binds → ArePlaces eras places → Begins (text_of (lines.Witness ∷ behind_first binds eras places))
draft_begins binds eras places kept numbers = record {
  certificate = finished binds eras places;
  rest = line (codes "end");
  whole = subst (λ (t : List ℕ). CertificateText (t ++ line (codes "end")) (finished binds eras places)) (sym (text-behind_first binds eras places)) (CertificateText-finished binds eras places kept numbers);
}

as_lines : (text rest : List ℕ) (binds : List Bind) (eras : List EraPlan) (places : List Place) → text ≡ spelled_by binds eras places ++ rest → text ≡ text_of (lines.Witness ∷ behind_first binds eras places) ++ rest
as_lines text rest binds eras places e = e ∙ ap (λ t. t ++ rest) (sym (text-behind_first binds eras places))

not_whole : (rest : List ℕ) (done : List Line) (certificate : Certificate) → Lacks 10 rest → NotEnd (last_of lines.Witness done) → AreLines (lines.Witness ∷ done) → CertificateText (text_of (lines.Witness ∷ done) ++ rest) certificate → ⊥
not_whole rest done certificate lacks goes are whole =
    let left = lines_left done rest certificate are whole in go left.0 left.1 left.2
  where
    go : (tail : List Line) → lines_of certificate ≡ done ++ tail → rest ≡ text_of tail → ⊥
    go [] all is =
        let same : last_of lines.Witness done ≡ lines.End = ap (last_of lines.Witness) (sym (all ∙ append-nil done)) ∙ last-lines_of certificate in
        subst NotEnd same goes
    go (l ∷ tail) all is = no_line rest (words_of l) (text_of tail) lacks is

pub missing : (text rest : List ℕ) (binds : List Bind) (eras : List EraPlan) (places : List Place) → text ≡ spelled_by binds eras places ++ rest → AreBinds binds → ArePlaces eras places → Lacks 10 rest → IsBadLine text (length (behind_first binds eras places) + 1 + 1)
missing text rest binds eras places e kept numbers lacks =
    let done = behind_first binds eras places in
    let are = AreLines-behind_first binds eras places kept numbers in
    let split = as_lines text rest binds eras places e in
    let more : length (lines.Witness ∷ done) + 1 ≡ length done + 1 + 1 = omega arith in
    subst (IsBadLine text) more
    (bad_line_at text rest (lines.Witness ∷ done) are split (draft_begins binds eras places kept numbers) (λ words more e none b. no_line rest words more lacks e)
    (λ certificate whole. not_whole rest done certificate lacks (goes_on_behind binds eras places) are (subst (λ (t : List ℕ). CertificateText t certificate) split whole)))

pub refused : (text rest words after : List ℕ) (binds : List Bind) (eras : List EraPlan) (places : List Place) → text ≡ spelled_by binds eras places ++ rest → AreBinds binds → ArePlaces eras places → rest ≡ words ++ 10 ∷ after → Lacks 10 words → ((l : Line) → IsLine words l → ArePlaces eras places → Follows (last_of lines.Witness (behind_first binds eras places)) l → ⊥) → IsBadLine text (length (behind_first binds eras places) + 1 + 1)
refused text rest words after binds eras places e kept numbers cut lacks stops =
    let done = behind_first binds eras places in
    let are = AreLines-behind_first binds eras places kept numbers in
    let split = as_lines text rest binds eras places e in
    let more : length (lines.Witness ∷ done) + 1 ≡ length done + 1 + 1 = omega arith in
    let no_text : (other behind : List ℕ) (certificate : Certificate) → words ≡ other → CertificateText (text_of (lines.Witness ∷ done) ++ (line other ++ behind)) certificate → ⊥ =
    λ other behind certificate same whole.
    let next = next_follows done words behind certificate are lacks (subst (λ (w : List ℕ). CertificateText (text_of (lines.Witness ∷ done) ++ (line w ++ behind)) certificate) (sym same) whole) in
    stops next.0 next.1 numbers next.2 in
    subst (IsBadLine text) more
    (bad_line_at text rest (lines.Witness ∷ done) are split (draft_begins binds eras places kept numbers)
    (λ other more e none b. no_text other b.rest b.certificate (line_once rest words after other more cut lacks e none) (subst (λ (t : List ℕ). CertificateText t b.certificate) (append_assoc (text_of (lines.Witness ∷ done)) (line other) b.rest) b.whole))
    (λ certificate whole. no_text words after certificate refl (subst (λ (t : List ℕ). CertificateText t certificate) (split ∙ ap (λ r. text_of (lines.Witness ∷ done) ++ r) (cut ∙ sym (as_cut words after))) whole)))

-- behind the last line
nothing_follows : (draft : List Line) (l : Line) → Follows (last_of lines.Witness (draft ++ lines.End ∷ [])) l → ⊥
nothing_follows draft l follows = subst (λ (last : Line). Follows last l) (last-append lines.Witness draft (lines.End ∷ [])) follows

nothing_left : (draft : List Line) (after : List ℕ) (certificate : Certificate) → IsCertificate certificate → (after ≡ [] → ⊥) → (tail : List Line) → lines_of certificate ≡ (draft ++ lines.End ∷ []) ++ tail → after ≡ text_of tail → ⊥
nothing_left draft after certificate kept more [] all is = more is
nothing_left draft after certificate kept more (l ∷ tail) all is =
    nothing_follows draft l (follows_last lines.Witness l (draft ++ lines.End ∷ []) tail (rw all at (in_order certificate kept)))

pub behind_end : (text rest words after : List ℕ) (binds : List Bind) (eras : List EraPlan) (places : List Place) → text ≡ spelled_by binds eras places ++ rest → AreBinds binds → ArePlaces eras places → rest ≡ words ++ 10 ∷ after → words ≡ codes "end" → (after ≡ [] → ⊥) → IsBadLine text (length (behind_first binds eras places) + 1 + 1 + 1)
behind_end text rest words after binds eras places e kept numbers cut ends more =
    let draft = behind_first binds eras places in
    let done = draft ++ lines.End ∷ [] in
    let are = all_append (λ l. IsLine (words_of l) l) (lines.Witness ∷ draft) (lines.End ∷ []) (AreLines-behind_first binds eras places kept numbers) (refl, tt) in
    let whole_text : text_of (lines.Witness ∷ done) ≡ spelled_by binds eras places ++ line (codes "end") =
    text-append (lines.Witness ∷ draft) (lines.End ∷ []) ∙ ap (λ t. t ++ line (codes "end")) (text-behind_first binds eras places) in
    let after_end : rest ≡ line (codes "end") ++ after = cut ∙ ap (λ w. w ++ 10 ∷ after) ends in
    let split : text ≡ text_of (lines.Witness ∷ done) ++ after =
    e ∙ ap (λ r. spelled_by binds eras places ++ r) after_end ∙ sym (append_assoc (spelled_by binds eras places) (line (codes "end")) after) ∙ ap (λ t. t ++ after) (sym whole_text) in
    let begins : Begins (text_of (lines.Witness ∷ done)) = record {
      certificate = finished binds eras places;
      rest = [];
      whole = subst (λ (t : List ℕ). CertificateText t (finished binds eras places)) (sym (append-nil (text_of (lines.Witness ∷ done)) ∙ whole_text)) (CertificateText-finished binds eras places kept numbers);
    } in
    let length_is : length (lines.Witness ∷ done) + 1 ≡ length draft + 1 + 1 + 1 = omega (arith, length-append draft (lines.End ∷ [])) in
    subst (IsBadLine text) length_is
    (bad_line_at text after (lines.Witness ∷ done) are split begins
    (λ other behind is none b. let next = next_follows done other b.rest b.certificate are none (subst (λ (t : List ℕ). CertificateText t b.certificate) (append_assoc (text_of (lines.Witness ∷ done)) (line other) b.rest) b.whole) in
    nothing_follows draft next.0 next.2)
    (λ certificate whole. let left = lines_left done after certificate are (subst (λ (t : List ℕ). CertificateText t certificate) split whole) in
    nothing_left draft after certificate whole.kept_to more left.0 left.1 left.2))
