-- A line that is written piece by piece.
use Rattle.std.proofs.Common.{◌≡◌, ℕ, ◌+◌, ◌≤◌, List, ◌++◌, ◌-◌, length, take, drop, Option, Some, None, sym, ap, subst, ◌∙◌, arith, append_assoc, take-add, take_all, length-drop}
use Rattle.std.specs.Io.KnownBytes.{Appends, Keeps}

-- two pieces, one behind the other
pub both : (old mid new : Option (List ℕ)) (front more : List ℕ) → Appends old mid front → Appends mid new more → Appends old new (front ++ more)
both None mid new front more a b = tt
both (Some xs) None new front more a b = absurd a
both (Some xs) (Some ys) None front more a b = absurd b
both (Some xs) (Some ys) (Some zs) front more a b = b ∙ ap (λ l. l ++ more) a ∙ append_assoc xs front more

-- a piece more of the line
pub one_more : (old mid new : Option (List ℕ)) (line : List ℕ) (n m : ℕ) → Appends old mid (take n line) → Appends mid new (take m (drop n line)) → Appends old new (take (n + m) line)
one_more old mid new line n m a b = subst (Appends old new) (sym (take-add n m line)) (both old mid new (take n line) (take m (drop n line)) a b)

-- nothing more
pub kept : (old mid new : Option (List ℕ)) (bytes : List ℕ) → Appends old mid bytes → Keeps mid new → Appends old new bytes
kept None mid new bytes a k = tt
kept (Some xs) None new bytes a k = absurd a
kept (Some xs) (Some ys) None bytes a k = absurd k
kept (Some xs) (Some ys) (Some zs) bytes a k = k ∙ a

-- the whole line
pub whole : (old new : Option (List ℕ)) (line : List ℕ) (n : ℕ) → n ≡ length line → Appends old new (take n line) → Appends old new line
whole old new line n all a = subst (Appends old new) (take_all n line (omega (arith, all))) a

-- a write that took m bytes of what was left
pub goes_on : (old mid new : Option (List ℕ)) (line : List ℕ) (n m : ℕ) → n ≤ length line → m ≤ length (take (length line - n) (drop n line))
    → Appends old mid (take n line) → Appends mid new (take m (take (length line - n) (drop n line))) → (n + m ≤ length line) × Appends old new (take (n + m) line)
goes_on old mid new line n m le bound before bytes =
    let left : take (length line - n) (drop n line) ≡ drop n line = take_all (length line - n) (drop n line) (omega (arith, length-drop n line)) in
    let within : m ≤ length (drop n line) = subst (λ (l : List ℕ). m ≤ length l) left bound in
    let wrote : Appends mid new (take m (drop n line)) = subst (λ (l : List ℕ). Appends mid new (take m l)) left bytes in
    (omega (arith, within, le, length-drop n line), one_more old mid new line n m before wrote)
