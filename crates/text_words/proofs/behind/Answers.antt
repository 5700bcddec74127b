-- A slice without a front that it has: the front, and the rest.
use Rattle.std.proofs.Common.{◌≡◌, ℕ, true, false, List, ◌++◌, ◌+◌, length, take, drop, Option, Some, None, MatchOption, sym, ap, ◌∙◌, nat_eq}
use Rattle.std.specs.Cmp.Lexicographic.{pointwise, same_text, other_text}
use Rattle.std.proofs.Math.Seq.{take-append_seam}
use Rattle.std.proofs.lemmas.List.{take-append-drop}
use Rattle.text_words.proofs.behind.Goals as goal

after_front : {R : Type 0} (now : R → List ℕ) (text front : List ℕ) (r : Option R) → MatchOption r (pointwise nat_eq (take (length front) text) front ≡ false) (λ x. (pointwise nat_eq (take (length front) text) front ≡ true) × (now x ≡ drop (length front) text) × (length (now x) + length front ≡ length text)) → MatchOption r ((rest : List ℕ) → text ≡ front ++ rest → ⊥) (λ x. text ≡ front ++ now x)
after_front now text front None h = λ rest e.
    other_text (take (length front) text) front (sym h) (ap (take (length front)) e ∙ take-append_seam front rest)
after_front now text front (Some x) h =
    let front_is = same_text (take (length front) text) front (sym h.0) in
    sym (take-append-drop (length front) text) ∙ ap (λ a. a ++ drop (length front) text) front_is ∙ ap (λ b. front ++ b) (sym h.1)

pub returns : goal.returns
returns c = after_front (λ x. x.now) c.args.text.now c.args.front.now _ c.strip_prefix.ensures.cases
