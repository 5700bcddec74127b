-- values of tests and chains
use Rattle.std.proofs.Common.{◌≡◌, Bool, true, false, List, [], ◌∷◌, Option, Some, None, refl, ap, ◌∙◌}
use Rattle.std.specs.Prelude.{◌&&◌, ◌||◌}
use Rattle.std.specs.Option.{option_map_or}
use Rattle.std.specs.List.{list_any, list_all}

pub and_true : (b : Bool) → (b && true) ≡ b
and_true true = refl
and_true false = refl

pub and_false : (b : Bool) → (b && false) ≡ false
and_false true = refl
and_false false = refl

pub second_passes : (a b : Bool) → (a && b) ≡ true → b ≡ true
second_passes true b e = e
second_passes false b e = absurd (cc)

pub first_passes : (a b : Bool) → (a && b) ≡ true → a ≡ true
first_passes true b e = refl
first_passes false b e = absurd (cc)

pub same_on : {X : Type 0} (f g : X → Bool) (o : Option X) (b : Bool) → ((x : X) → o ≡ Some x → f x ≡ g x) → option_map_or f o b ≡ option_map_or g o b
same_on f g None b same = refl
same_on f g (Some x) b same = same x refl

pub any_on : {X : Type 0} (f g : X → Bool) (xs : List X) → ((x : X) → f x ≡ g x) → list_any f xs ≡ list_any g xs
any_on f g [] same = refl
any_on f g (x ∷ xs) same = ap (λ b. b || list_any f xs) (same x) ∙ ap (λ b. g x || b) (any_on f g xs same)

pub all_on : {X : Type 0} (f g : X → Bool) (xs : List X) → ((x : X) → f x ≡ g x) → list_all f xs ≡ list_all g xs
all_on f g [] same = refl
all_on f g (x ∷ xs) same = ap (λ b. b && list_all f xs) (same x) ∙ ap (λ b. g x && b) (all_on f g xs same)
