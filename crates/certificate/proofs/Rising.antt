-- The order of handles, as a test has told it.
use Rattle.std.proofs.Common.{◌≡◌, ℕ, true, List, Some, sym, ap, ◌∙◌, refl, Ordering}
use Rattle.std.specs.Ordering.{nat_cmp, is_some_and, is_lt}
use Rattle.std.specs.Cmp.{Agrees}
use Rattle.std.specs.Cmp.Lexicographic.{slice_cmp, slice_partial_cmp, lists_agrees}
use Rattle.std.specs.declared.cmp.Ordering.TheVariants.{Less, Equal, Greater}

pub less : (o : Ordering) → is_lt o ≡ true → o ≡ Less
less Less h = refl
less Equal h = cc
less Greater h = cc

-- a test `<` on two texts
pub less_text : (xs ys : List ℕ) → is_some_and is_lt (slice_partial_cmp (λ x y. Some (nat_cmp x y)) xs ys) ≡ true → slice_cmp nat_cmp xs ys ≡ Less
less_text xs ys h =
    let agrees : Agrees (slice_partial_cmp (λ x y. Some (nat_cmp x y))) (slice_cmp nat_cmp) = lists_agrees (λ x y. refl) in
    less (slice_cmp nat_cmp xs ys) (sym (ap (is_some_and is_lt) (agrees xs ys)) ∙ h)

pub text_less : (xs ys : List ℕ) → slice_cmp nat_cmp xs ys ≡ Less → is_some_and is_lt (slice_partial_cmp (λ x y. Some (nat_cmp x y)) xs ys) ≡ true
text_less xs ys h =
    let agrees : Agrees (slice_partial_cmp (λ x y. Some (nat_cmp x y))) (slice_cmp nat_cmp) = lists_agrees (λ x y. refl) in
    ap (is_some_and is_lt) (agrees xs ys) ∙ ap is_lt h
