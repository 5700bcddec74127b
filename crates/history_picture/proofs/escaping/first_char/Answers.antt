use Rattle.std.proofs.Common.{◌≡◌, sym, ap, subst, ◌∙◌, ℕ, ◌<◌, ◌≤◌, List, length, take, Some}
use Rattle.std.proofs.lemmas.List.{length-take-le}
use Rattle.history_picture.proofs.EscapingLaws.{first_char-some, first_char-none, size-within, spelled-first}
use Rattle.history_picture.proofs.escaping.first_char.Goals as goal

-- the front has as many bytes as were found
front : (n : ℕ) (bytes : List ℕ) → (0 < n) × (n ≤ length bytes) → length (take n bytes) ≡ n
front n bytes within = length-take-le n bytes within.1

pub returns-in_default-clause-value : goal.returns-in_default-clause-value
returns-in_default-clause-value c = first_char-none c.args.bytes.now (sym c.in_default.is ∙ c.decode-found.ensures.char)

pub slice_bounds-result-end : goal.slice_bounds-result-end
slice_bounds-result-end c =
    let size = c.decode-found.result.1 in
    sym (front size c.args.bytes.now (size-within c.args.bytes.now size c.requires c.decode-found.ensures.size))

pub returns-clause-value : goal.returns-clause-value
returns-clause-value c =
    let size = c.decode-found.result.1 in
    let bytes = c.args.bytes.now in
    ap (λ (k : ℕ). Some (c.in-Some.character, k)) (front size bytes (size-within bytes size c.requires c.decode-found.ensures.size))
    ∙ first_char-some bytes c.in-Some.character size (sym c.in-Some.is ∙ c.decode-found.ensures.char) c.decode-found.ensures.size

pub returns-clause-spelled : goal.returns-clause-spelled
returns-clause-spelled c =
    spelled-first c.args.bytes.now c.in-Some.character c.decode-found.result.1 (sym c.in-Some.is ∙ c.decode-found.ensures.char) c.decode-found.ensures.size

pub returns-clause-within : goal.returns-clause-within
returns-clause-within c =
    let size = c.decode-found.result.1 in
    let bytes = c.args.bytes.now in
    let within = size-within bytes size c.requires c.decode-found.ensures.size in
    subst (λ (k : ℕ). (0 < k) × (k ≤ length bytes)) (sym (front size bytes within)) within
