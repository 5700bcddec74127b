-- What is read where no test fails, and only there.
use Rattle.std.proofs.Common.{◌≡◌, Bool, true, false, cond, List, [], ◌∷◌, refl, arith}
use Rattle.std.specs.Prelude.{Result, Ok, Err}
use Rattle.packet_layers.specs.declared.passed.PassedOver.{PassedOver}
use Rattle.packet_layers.specs.Reading.{◌>>=◌, given, tested}

abbrev pub AllPass : List (Bool × PassedOver) → Type 0
AllPass [] = Unit {0}
AllPass (test ∷ tests) = (test.0 ≡ true) × AllPass tests

pub one_passed : {A : Type 0} (b : Bool) (reason : PassedOver) (next : Result A PassedOver) (x : A) → cond b next (Err reason) ≡ Ok x → (b ≡ true) × (next ≡ Ok x)
one_passed true reason next x e = (refl, e)
one_passed false reason next x e = absurd cc

pub all_passed : {A : Type 0} (tests : List (Bool × PassedOver)) (next : Result A PassedOver) (x : A) → tested tests next ≡ Ok x → AllPass tests × (next ≡ Ok x)
all_passed [] next x e = (tt, e)
all_passed (test ∷ tests) next x e =
    let first = one_passed test.0 test.1 (tested tests next) x e in
    let others = all_passed tests next x first.1 in
    ((first.0, others.0), others.1)

pub passed_again : {A : Type 0} (tests : List (Bool × PassedOver)) (next : Result A PassedOver) → AllPass tests → tested tests next ≡ next
passed_again [] next pass = refl
passed_again (test ∷ tests) next pass = rw pass.0 (passed_again tests next pass.1)

pub given_is : {A : Type 0} (x y : A) → given x ≡ given y → x ≡ y
given_is x y e = cc

pub bind_ok : {A B : Type 0} (r : Result A PassedOver) (f : A → Result B PassedOver) (y : B) → (r >>= f) ≡ Ok y → (x : A) × (r ≡ Ok x) × (f x ≡ Ok y)
bind_ok (Ok x) f y e = (x, refl, e)
bind_ok (Err reason) f y e = absurd cc
