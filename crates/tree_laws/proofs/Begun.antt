-- the example behind a start runs
use Rattle.std.proofs.Common.{◌≡◌, ℕ, List, [], ◌∷◌, Option, Some, None, refl, sym, ap, ◌∙◌, subst}
use Rattle.std.specs.Prelude.{IsSome, option_and_then}
use Rattle.std.specs.FinMap as map
use Rattle.nfs3_types.specs.declared.calls.NfsCall.{NfsCall}
use Rattle.nfs3_types.specs.declared.replies.Outcome.{Outcome}
use Rattle.replay_law.specs.Run.{TakenStep, state_after}
use Rattle.tree_starts.specs.Start.{is_parent, is_free, fault_from}
use Rattle.tree_starts.specs.declared.object.StartObject.{StartObject}
use Rattle.tree_starts.specs.declared.object.StartNode.TheVariants as kinds
use Rattle.tree_starts.specs.declared.profile.Profile.TheVariants.{Strict}
use Rattle.tree_nodes.specs.declared.node.Node.{Node}
use Rattle.tree_nodes.specs.declared.node.Content.TheVariants as contents
use Rattle.tree_nodes.specs.Files.{file_node}
use Rattle.tree_nodes.specs.Tree.{Names, Tree, opening}
use Rattle.file_tree.specs.Setting.{next_in}
use Rattle.file_tree.specs.StartTree.{with_object, start_tree}
use Rattle.tree_laws.specs.Outcomes.{step}
use Rattle.tree_laws.specs.Example.{first_objects, first_handles, read_first, first_read, write_behind, written_behind, get_attributes, four_long, StartsRight, IsRunBehind}
use Rattle.tree_laws.proofs.Replayed.{root, Has, put, entries_opening}

pub starts_right : StartsRight
unfolding fault_from is_parent is_free
starts_right = refl

abbrev d : Names
d = (100 ∷ []) ∷ []

abbrev df : Names
df = (100 ∷ []) ∷ (102 ∷ []) ∷ []

abbrev file : List ℕ → Node
file bytes = file_node 2 bytes None

abbrev directory : Node
directory = record { object = 1; content = contents.Directory }

abbrev first_directory : StartObject
first_directory = record { parent = 0; name = 100 ∷ []; node = kinds.Directory }

abbrev first_file : StartObject
first_file = record { parent = 1; name = 102 ∷ []; node = kinds.File (97 ∷ 98 ∷ 99 ∷ []) }

abbrev abc : Node
abc = file (97 ∷ 98 ∷ 99 ∷ [])

abbrev abcz : Node
abcz = file (97 ∷ 98 ∷ 99 ∷ 122 ∷ [])

-- ---- the start

with_directory : (t : Tree) → Has t (([], root) ∷ []) → with_object t 1 first_directory ≡ map.insert t d directory
with_directory t is = simp is

with_file : (t : Tree) → Has t (([], root) ∷ (d, directory) ∷ []) → with_object t 2 first_file ≡ map.insert t df abc
with_file t is = simp is

abbrev one : Tree
one = map.insert opening d directory

abbrev two : Tree
two = map.insert one df abc

has_one : Has one (([], root) ∷ (d, directory) ∷ [])
has_one = put opening (([], root) ∷ []) d directory entries_opening

has_two : Has two (([], root) ∷ (d, directory) ∷ (df, abc) ∷ [])
has_two = put one _ df abc has_one

begins : start_tree first_objects ≡ two
begins = ap (λ t. with_object t 2 first_file) (with_directory opening entries_opening) ∙ with_file one has_one

-- ---- the steps

abbrev Next : Tree → ℕ → NfsCall → Outcome → Option Tree
Next = next_in Strict 2 first_handles

was_read : (t : Tree) → Has t (([], root) ∷ (d, directory) ∷ (df, abc) ∷ []) → Next t 1 read_first first_read ≡ Some t
was_read t is = simp is

abbrev three : Tree
three = map.insert two df abcz

has_three : Has three (([], root) ∷ (d, directory) ∷ (df, abcz) ∷ [])
has_three = put two _ df abcz has_two

was_written : Next two 2 write_behind written_behind ≡ Some three
was_written = simp (has_two, has_three)

was_told : (t : Tree) → Has t (([], root) ∷ (d, directory) ∷ (df, abcz) ∷ []) → Next t 3 get_attributes four_long ≡ Some t
was_told t is = simp is

run : (start next : Tree) (one : TakenStep NfsCall Outcome) (behind : List (TakenStep NfsCall Outcome)) → Next start one.number one.call one.outcome ≡ Some next
    → IsSome (state_after Next next behind) → IsSome (state_after Next start (one ∷ behind))
run start next one behind goes later = subst (λ o. IsSome (option_and_then (λ after. state_after Next after behind) o)) (sym goes) later

pub runs_behind : IsRunBehind
runs_behind =
    subst (λ t. IsSome (state_after Next t (step 1 read_first first_read ∷ step 2 write_behind written_behind ∷ step 3 get_attributes four_long ∷ []))) (sym begins)
    (run two two (step 1 read_first first_read) (step 2 write_behind written_behind ∷ step 3 get_attributes four_long ∷ []) (was_read two has_two)
    (run two three (step 2 write_behind written_behind) (step 3 get_attributes four_long ∷ []) was_written
    (run three three (step 3 get_attributes four_long) [] (was_told three has_three) refl)))
