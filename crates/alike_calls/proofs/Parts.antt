-- values of tests and chains, and what filling leaves of a node
use Rattle.std.proofs.Common.{◌≡◌, ℕ, Bool, true, false, cond, List, [], ◌∷◌, Option, Some, None, refl, ap, ◌∙◌}
use Rattle.std.specs.Prelude.{◌&&◌, ◌||◌, is_some, is_none, IfSome, option_and_then, option_map}
use Rattle.std.specs.Option.{option_map_or}
use Rattle.std.specs.List.{list_any, list_all}
use Rattle.tree_nodes.specs.declared.node.Node.{Node}
use Rattle.tree_nodes.specs.declared.node.File.{File}
use Rattle.tree_nodes.specs.declared.node.Content.{Content}
use Rattle.tree_nodes.specs.declared.node.Content.TheVariants as contents
use Rattle.alike_calls.specs.Alike.{IsFilling, FillsFiles}

-- ---- tests

pub same_on : {X : Type 0} (f g : X → Bool) (o : Option X) (b : Bool) → ((x : X) → f x ≡ g x) → option_map_or f o b ≡ option_map_or g o b
same_on f g None b same = refl
same_on f g (Some x) b same = same x

pub any_on : {X : Type 0} (f g : X → Bool) (xs : List X) → ((x : X) → f x ≡ g x) → list_any f xs ≡ list_any g xs
any_on f g [] same = refl
any_on f g (x ∷ xs) same = ap (λ b. b || list_any f xs) (same x) ∙ ap (λ b. g x || b) (any_on f g xs same)

pub all_on : {X : Type 0} (f g : X → Bool) (xs : List X) → ((x : X) → f x ≡ g x) → list_all f xs ≡ list_all g xs
all_on f g [] same = refl
all_on f g (x ∷ xs) same = ap (λ b. b && list_all f xs) (same x) ∙ ap (λ b. g x && b) (all_on f g xs same)

pub then_on : {X Y : Type 0} (f g : X → Option Y) (o : Option X) → ((x : X) → f x ≡ g x) → option_and_then f o ≡ option_and_then g o
then_on f g None same = refl
then_on f g (Some x) same = same x

-- ---- what is there, turned into something else

pub some_mapped : {X Y : Type 0} (f : X → Y) (o : Option X) → is_some (option_map f o) ≡ is_some o
some_mapped f None = refl
some_mapped f (Some x) = refl

pub none_mapped : {X Y : Type 0} (f : X → Y) (o : Option X) → is_none (option_map f o) ≡ is_none o
none_mapped f None = refl
none_mapped f (Some x) = refl

pub test_mapped : {X Z : Type 0} (h : X → Z) (f : X → X) (o : Option X) (z : Z) → ((x : X) → h (f x) ≡ h x) → option_map_or h (option_map f o) z ≡ option_map_or h o z
test_mapped h f None z same = refl
test_mapped h f (Some x) z same = same x

pub then_mapped : {X Z : Type 0} (h : X → Option Z) (f : X → X) (o : Option X) → ((x : X) → h (f x) ≡ h x) → option_and_then h (option_map f o) ≡ option_and_then h o
then_mapped h f None same = refl
then_mapped h f (Some x) same = same x

pub map_mapped : {X Z : Type 0} (h : X → Z) (f : X → X) (o : Option X) → ((x : X) → h (f x) ≡ h x) → option_map h (option_map f o) ≡ option_map h o
map_mapped h f None same = refl
map_mapped h f (Some x) same = ap (λ z. Some z) (same x)

-- ---- what is said of a value, where there is one

pub when_set : {X : Type 0} (P : X → Type 0) (b : Bool) (o : Option X) → IfSome (cond b o None) P → b ≡ true → IfSome o P
when_set P true o said e = said
when_set P false o said e = absurd (cc)

pub of_mapped : {X Y : Type 0} (P : Y → Type 0) (f : X → Y) (o : Option X) → IfSome (option_map f o) P → IfSome o (λ x. P (f x))
of_mapped P f None said = tt
of_mapped P f (Some x) said = said

pub if_turned : {X : Type 0} (P Q : X → Type 0) (o : Option X) → ((x : X) → P x → Q x) → IfSome o P → IfSome o Q
if_turned P Q None turns said = tt
if_turned P Q (Some x) turns said = turns x said

pub if_then : {X Y : Type 0} (P : X → Type 0) (Q : Y → Type 0) (f : X → Option Y) (o : Option X) → ((x : X) → P x → IfSome (f x) Q) → IfSome o P → IfSome (option_and_then f o) Q
if_then P Q f None turns said = tt
if_then P Q f (Some x) turns said = turns x said

-- ---- contents

-- what sees of a file its verifier alone sees no filling
pub same_filling : {X : Type 0} (g : Content → X) → ((bytes : List ℕ) (file : File) → g (contents.File (record { bytes = bytes; verifier = file.verifier })) ≡ g (contents.File file))
    → (was now : Content) → IsFilling was now → g now ≡ g was
same_filling g files contents.Directory now is = ap g is
same_filling g files (contents.File file) now is = ap g is.1 ∙ files is.0 file
same_filling g files (contents.Link target) now is = ap g is

pub same_kind : {X : Type 0} (fill : Node → Node) → FillsFiles fill → (g : Content → X)
    → ((bytes : List ℕ) (file : File) → g (contents.File (record { bytes = bytes; verifier = file.verifier })) ≡ g (contents.File file)) → (node : Node) → g (fill node).content ≡ g node.content
same_kind fill fills g files node = same_filling g files node.content (fill node).content (fills.content node)
