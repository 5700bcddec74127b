-- The first bind that may not stand where it stands, one bind on.
use Rattle.std.proofs.Common.{◌≡◌, ℕ, suc, ◌+◌, ◌<◌, Bool, not, cond, List, ◌∷◌, length, get_or, drop, Option, Some, refl, sym, ap, ◌∙◌, arith, drop-cons}
use Rattle.std.specs.List.{position_from}
use Rattle.std.specs.Ordering.{nat_cmp, is_some_and, is_lt}
use Rattle.std.specs.Cmp.{Agrees}
use Rattle.std.specs.Cmp.Lexicographic.{slice_cmp, slice_partial_cmp, lists_agrees}
use Rattle.certificate.specs.declared.plan.Bind.{Bind}
use Rattle.certificate.specs.Parts.{is_below, with_ahead, is_no_rise}

-- a test `<` on two texts
pub below_text : (xs ys : List ℕ) (t : Bool) → is_some_and is_lt (slice_partial_cmp (λ x y. Some (nat_cmp x y)) xs ys) ≡ t → is_below xs ys ≡ t
below_text xs ys t h =
    let agrees : Agrees (slice_partial_cmp (λ x y. Some (nat_cmp x y))) (slice_cmp nat_cmp) = lists_agrees (λ x y. refl) in
    sym (ap (is_some_and is_lt) (agrees xs ys)) ∙ h

next_bind : (binds : List Bind) (i : ℕ) (bind : Bind) → i < length binds → bind ≡ get_or binds i bind → drop i binds ≡ bind ∷ drop (i + 1) binds
next_bind binds i bind h e =
    let more : i + 1 ≡ suc i = omega arith in
    drop-cons binds i bind h ∙ ap (λ b. b ∷ drop (suc i) binds) (sym e) ∙ ap (λ j. bind ∷ drop j binds) (sym more)

-- of the binds behind one with this handle the first that may not stand where it stands, numbered from n on
abbrev pub bad_from : ℕ → List ℕ → List Bind → Option ℕ
bad_from n ahead binds = position_from is_no_rise n (with_ahead ahead binds)

pub bind_step : (n : ℕ) (ahead handle : List ℕ) (binds : List Bind) (i : ℕ) (bind : Bind) (t : Bool) → i < length binds → bind ≡ get_or binds i bind → handle ≡ bind.handle → is_below ahead handle ≡ t
    → bad_from n ahead (drop i binds) ≡ cond (not t) (Some n) (bad_from (n + 1) handle (drop (i + 1) binds))
bind_step n ahead handle binds i bind t h e same test =
    ap (bad_from n ahead) (next_bind binds i bind h e)
    ∙ ap (λ x. cond (not (is_below ahead x)) (Some n) (bad_from (n + 1) x (drop (i + 1) binds))) (sym same)
    ∙ ap (λ s. cond (not s) (Some n) (bad_from (n + 1) handle (drop (i + 1) binds))) test
