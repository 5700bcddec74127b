-- For the prover.
-- nodes as data: by its code a proof tells a tree from another
use Rattle.std.specs.Prelude.{◌≡◌, ◌⊎◌, ℕ, List, Option, refl}
use Rattle.std.specs.Coded.{Coded, code_by, coded_ℕ, coded_list, coded×, coded⊎, coded_option}
use mathlib.Core.Logic.{inl, inr}
use Rattle.tree_stores.specs.nfs3_types_specs.declared.attributes.Verifier.{Verifier}
use Rattle.tree_nodes.specs.declared.node.Node.{Node}
use Rattle.tree_nodes.specs.declared.node.File.{File}
use Rattle.tree_nodes.specs.declared.node.Content.{Content}
use Rattle.tree_nodes.specs.declared.node.Content.TheVariants as contents

abbrev pub verifier_code : Coded Verifier
verifier_code = code_by ℕ coded_ℕ (λ v. v.value) (λ n. record { value = n }) (λ _. refl)

abbrev pub file_code : Coded File
file_code = code_by (List ℕ × Option Verifier) (coded× (coded_list coded_ℕ) (coded_option verifier_code)) (λ f. (f.bytes, f.verifier)) (λ p. record { bytes = p.0; verifier = p.1 }) (λ _. refl)

-- a directory as a number, so that each kind has a part of its own
abbrev pub parts : Content → ℕ ⊎ (File ⊎ List ℕ)
parts contents.Directory = inl 0
parts (contents.File file) = inr (inl file)
parts (contents.Link text) = inr (inr text)

abbrev pub content_of : ℕ ⊎ (File ⊎ List ℕ) → Content
content_of (inl _) = contents.Directory
content_of (inr (inl file)) = contents.File file
content_of (inr (inr text)) = contents.Link text

pub content_of-parts : (content : Content) → content_of (parts content) ≡ content
content_of-parts contents.Directory = refl
content_of-parts (contents.File file) = refl
content_of-parts (contents.Link text) = refl

abbrev pub content_code : Coded Content
content_code = code_by (ℕ ⊎ (File ⊎ List ℕ)) (coded⊎ coded_ℕ (coded⊎ file_code (coded_list coded_ℕ))) parts content_of content_of-parts

abbrev pub node_code : Coded Node
node_code = code_by (ℕ × Content) (coded× coded_ℕ content_code) (λ n. (n.object, n.content)) (λ p. record { object = p.0; content = p.1 }) (λ _. refl)
