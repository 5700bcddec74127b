-- Lines that are written one behind the other.
use Rattle.std.proofs.Common.{◌≡◌, ℕ, ◌+◌, ◌≤◌, List, [], ◌∷◌, ◌++◌, length, take, Option, Some, None, refl, sym, ap, subst, ◌∙◌, arith, append-nil, length-append}
use Rattle.std.specs.Io.KnownBytes.{Appends}
use Rattle.std.proofs.lemmas.List.{take_all}
use Rattle.std.proofs.Math.Seq.{take-append-add}
use Rattle.std.proofs.lemmas.List.Elements.{All-nil, All-push}
use Rattle.xdr_records.proofs.Marks.{length-concat-push}
use Rattle.history_lines.specs.Printable.{IsLine}
use Rattle.showing_command.specs.Shown.{AreLines}
use Rattle.program_streams.specs.Streams.{AppendsFront}
use Rattle.program_streams.proofs.Fronts.{both}

-- lines were written
abbrev pub IsShown : Option (List ℕ) → Option (List ℕ) → Type 0
IsShown old new = (text : List ℕ) × AreLines text × Appends old new text

-- a front of lines was written
abbrev pub IsShownInPart : Option (List ℕ) → Option (List ℕ) → Type 0
IsShownInPart old new = (text : List ℕ) × AreLines text × AppendsFront old new text

nothing : (held : Option (List ℕ)) → Appends held held []
nothing None = tt
nothing (Some xs) = sym (append-nil xs)

pub none_shown : (held : Option (List ℕ)) → IsShown held held
none_shown held = ([], ([], All-nil IsLine, refl), nothing held)

more_lines : (text line : List ℕ) → AreLines text → IsLine line → AreLines (text ++ line)
more_lines text line so one =
    (so.0 ++ line ∷ [], All-push IsLine so.0 line so.1 one, ap (λ l. l ++ line) so.2 ∙ sym (length-concat-push so.0 line))

pub one_shown : (old mid new : Option (List ℕ)) (line : List ℕ) → IsShown old mid → IsLine line → Appends mid new line → IsShown old new
one_shown old mid new line so one wrote = (so.0 ++ line, more_lines so.0 line so.1 one, both old mid new so.0 line so.2 wrote)

-- what is whole is a front of itself
pub whole_shown : (old new : Option (List ℕ)) → IsShown old new → IsShownInPart old new
whole_shown old new so = (so.0, so.1, (length so.0, omega arith, subst (Appends old new) (sym (take_all (length so.0) so.0 (omega arith))) so.2))

front_of : (text line : List ℕ) (count : ℕ) → text ++ take count line ≡ take (length text + count) (text ++ line)
front_of text line count = sym (take-append-add text line count)

pub part_shown : (old mid new : Option (List ℕ)) (line : List ℕ) → IsShown old mid → IsLine line → AppendsFront mid new line → IsShownInPart old new
part_shown old mid new line so one wrote =
    let text = so.0 ++ line in
    let le : length so.0 + wrote.0 ≤ length text = omega (arith, wrote.1, length-append so.0 line) in (
      text,
      more_lines so.0 line so.1 one,
      (length so.0 + wrote.0, le, subst (Appends old new) (front_of so.0 line wrote.0) (both old mid new so.0 (take wrote.0 line) so.2 wrote.2)),
    )
