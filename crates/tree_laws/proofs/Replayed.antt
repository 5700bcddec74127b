-- the example runs
use Rattle.std.proofs.Common.{◌≡◌, ℕ, ◌⊎◌, inl, inr, cond, List, [], ◌∷◌, Some, None, refl, sym, ap, ◌∙◌, subst}
use Rattle.std.specs.Prelude.{IsSome, option_and_then}
use Rattle.std.specs.FinMap as map
use Rattle.std.specs.FinMap.Entries as es
use Rattle.tree_nodes.specs.declared.node.Node.{Node}
use Rattle.tree_nodes.specs.declared.node.Content.TheVariants as contents
use Rattle.tree_nodes.specs.Files.{file_node}
use Rattle.tree_nodes.specs.Tree.{Names, Tree, path_cmp, opening}
use Rattle.tree_nodes.proofs.Entries.{path_total, entries_empty}
use Rattle.file_tree.specs.Success.{next_tree}
use Rattle.nfs3_types.specs.declared.calls.NfsCall.{NfsCall}
use Rattle.nfs3_types.specs.declared.replies.Outcome.{Outcome}
use Rattle.replay_law.specs.Run.{TakenStep, state_after}
use Rattle.tree_nodes.specs.Moved.{moved, moved_entries, put_all}
use Rattle.tree_nodes.proofs.Entries.{path_ties}
use Rattle.tree_nodes.proofs.Found.{tied}
use Rattle.tree_laws.proofs.Staying.{get_left}
use Rattle.tree_laws.specs.Outcomes.{step}
use Rattle.tree_laws.specs.Example.{handles, create, write, two_written, read, two_read, look_up, none_found, set_size, make_directory, remove_directory, rename_file, rename_directory, make_link, remove_file, unseen, IsRun}
use Rattle.file_tree.proofs.StartStep.{is_or_isnt, get_put}

abbrev pub root : Node
root = record { object = 0; content = contents.Directory }

abbrev first : List (Names × Node)
first = ([], root) ∷ []

pub entries_opening : map.entries opening ≡ first
unfolding opening
entries_opening = map.entries-insert path_total map.empty [] root ∙ ap (es.put path_cmp [] root) (entries_empty path_cmp Node)

abbrev f : Names
f = (102 ∷ []) ∷ []

abbrev d : Names
d = (100 ∷ []) ∷ []

abbrev e : Names
e = (101 ∷ []) ∷ []

abbrev l : Names
l = (108 ∷ []) ∷ []

abbrev dg : Names
dg = (100 ∷ []) ∷ (103 ∷ []) ∷ []

abbrev eg : Names
eg = (101 ∷ []) ∷ (103 ∷ []) ∷ []

abbrev file : List ℕ → Node
file bytes = file_node 1 bytes (Some (record { value = 7 }))

abbrev directory : ℕ → Node
directory object = record { object = object; content = contents.Directory }

abbrev target : Node
target = record { object = 11; content = contents.Link (101 ∷ []) }

-- the entries of a tree, and those that a change makes of them
abbrev pub Has : Tree → List (Names × Node) → Type 0
Has tree xs = map.entries tree ≡ xs

pub put : (t : Tree) (xs : List (Names × Node)) (p : Names) (node : Node) → Has t xs → Has (map.insert t p node) (es.put path_cmp p node xs)
put t xs p node is = map.entries-insert path_total t p node ∙ ap (es.put path_cmp p node) is

all_put : List (Names × Node) → List (Names × Node)
all_put [] = []
all_put (x ∷ xs) = es.put path_cmp x.0 x.1 (all_put xs)

put_in_none : (xs : List (Names × Node)) → Has (put_all map.empty xs) (all_put xs)
unfolding all_put
put_in_none [] = entries_empty path_cmp Node
put_in_none (x ∷ xs) = put (put_all map.empty xs) (all_put xs) x.0 x.1 (put_in_none xs)

has_moved : (t : Tree) (xs : List (Names × Node)) (p q : Names) → Has t xs → Has (moved t p q) (all_put (moved_entries p q xs))
has_moved t xs p q is = put_in_none (moved_entries p q (map.entries t)) ∙ ap (λ (ys : List (Names × Node)). all_put (moved_entries p q ys)) is

-- a node that is put at a free path and taken away leaves the tree
put_and_removed : (t : Tree) (p : Names) (node : Node) → map.get t p ≡ None → map.remove (map.insert t p node) p ≡ t
put_and_removed t p node free = map.same_map path_total path_ties _ _ same where
  same : (q : Names) → map.get (map.remove (map.insert t p node) p) q ≡ map.get t q
  same q = go (is_or_isnt q p) where
    go : (q ≡ p) ⊎ (q ≡ p → ⊥) → map.get (map.remove (map.insert t p node) p) q ≡ map.get t q
    go (inl is) = map.get-remove path_total (map.insert t p node) p q ∙ ap (λ b. cond b None (map.get (map.insert t p node) q)) (tied q p is) ∙ sym (ap (map.get t) is ∙ free)
    go (inr isnt) = get_left (map.insert t p node) p q isnt ∙ get_put t p q node isnt

-- ---- the steps

created : (t : Tree) → Has t (([], root) ∷ []) → next_tree handles t 1 create unseen ≡ Some (map.insert t f (file []))
created t is = simp (map.get-entries t, map.len-entries t, is)

written : (t : Tree) → Has t (([], root) ∷ (f, file []) ∷ []) → next_tree handles t 2 write two_written ≡ Some (map.insert t f (file (0 ∷ 120 ∷ 121 ∷ [])))
written t is = simp is

abbrev three_bytes : List (Names × Node)
three_bytes = ([], root) ∷ (f, file (0 ∷ 120 ∷ 121 ∷ [])) ∷ []

was_read : (t : Tree) → Has t three_bytes → next_tree handles t 3 read two_read ≡ Some t
was_read t is = simp is

not_found : (t : Tree) → Has t three_bytes → next_tree handles t 4 look_up none_found ≡ Some t
not_found t is = simp (map.get-entries t, is)

was_cut : (t : Tree) → Has t three_bytes → next_tree handles t 5 set_size unseen ≡ Some (map.insert t f (file (0 ∷ 120 ∷ [])))
was_cut t is = simp is

abbrev two_bytes : Node
two_bytes = file (0 ∷ 120 ∷ [])

abbrev one_file : List (Names × Node)
one_file = ([], root) ∷ (f, two_bytes) ∷ []

made : (t : Tree) → Has t one_file → next_tree handles t 6 make_directory unseen ≡ Some (map.insert t d (directory 6))
made t is = simp (map.get-entries t, map.len-entries t, is)

unmade : (t : Tree) → Has t (([], root) ∷ (d, directory 6) ∷ (f, two_bytes) ∷ []) → next_tree handles t 7 remove_directory unseen ≡ Some (map.remove t d)
unmade t is = simp (map.get-entries t, is)

made_again : (t : Tree) → Has t one_file → next_tree handles t 8 make_directory unseen ≡ Some (map.insert t d (directory 8))
made_again t is = simp (map.get-entries t, map.len-entries t, is)

renamed : (t : Tree) → Has t (([], root) ∷ (d, directory 8) ∷ (f, two_bytes) ∷ []) → next_tree handles t 9 rename_file unseen ≡ Some (moved t f dg)
renamed t is = simp (map.get-entries t, is)

directory_renamed : (t : Tree) → Has t (([], root) ∷ (d, directory 8) ∷ (dg, two_bytes) ∷ []) → next_tree handles t 10 rename_directory unseen ≡ Some (moved t d e)
directory_renamed t is = simp (map.get-entries t, is)

linked : (t : Tree) → Has t (([], root) ∷ (e, directory 8) ∷ (eg, two_bytes) ∷ []) → next_tree handles t 11 make_link unseen ≡ Some (map.insert t l target)
linked t is = simp (map.get-entries t, map.len-entries t, is)

removed : (t : Tree) → Has t (([], root) ∷ (e, directory 8) ∷ (eg, two_bytes) ∷ (l, target) ∷ []) → next_tree handles t 12 remove_file unseen ≡ Some (map.remove t eg)
removed t is = simp (map.get-entries t, is)

-- ---- the run

run : (start next : Tree) (one : TakenStep NfsCall Outcome) (behind : List (TakenStep NfsCall Outcome)) → next_tree handles start one.number one.call one.outcome ≡ Some next
    → IsSome (state_after (next_tree handles) next behind) → IsSome (state_after (next_tree handles) start (one ∷ behind))
run start next one behind goes later = subst (λ o. IsSome (option_and_then (λ after. state_after (next_tree handles) after behind) o)) (sym goes) later

abbrev Runs : Tree → List (TakenStep NfsCall Outcome) → Type 0
Runs t behind = IsSome (state_after (next_tree handles) t behind)

abbrev from_twelve : List (TakenStep NfsCall Outcome)
from_twelve = step 12 remove_file unseen ∷ []

abbrev from_eleven : List (TakenStep NfsCall Outcome)
from_eleven = step 11 make_link unseen ∷ from_twelve

abbrev from_ten : List (TakenStep NfsCall Outcome)
from_ten = step 10 rename_directory unseen ∷ from_eleven

abbrev from_nine : List (TakenStep NfsCall Outcome)
from_nine = step 9 rename_file unseen ∷ from_ten

abbrev from_eight : List (TakenStep NfsCall Outcome)
from_eight = step 8 make_directory unseen ∷ from_nine

abbrev from_seven : List (TakenStep NfsCall Outcome)
from_seven = step 7 remove_directory unseen ∷ from_eight

abbrev from_six : List (TakenStep NfsCall Outcome)
from_six = step 6 make_directory unseen ∷ from_seven

abbrev from_five : List (TakenStep NfsCall Outcome)
from_five = step 5 set_size unseen ∷ from_six

abbrev from_four : List (TakenStep NfsCall Outcome)
from_four = step 4 look_up none_found ∷ from_five

abbrev from_three : List (TakenStep NfsCall Outcome)
from_three = step 3 read two_read ∷ from_four

abbrev from_two : List (TakenStep NfsCall Outcome)
from_two = step 2 write two_written ∷ from_three

runs_from_ten : (t : Tree) → Has t (([], root) ∷ (d, directory 8) ∷ (dg, two_bytes) ∷ []) → Runs t from_ten
unfolding all_put
runs_from_ten t is =
    let next = moved t d e in
    let moves : Has next (([], root) ∷ (e, directory 8) ∷ (eg, two_bytes) ∷ []) = has_moved t _ d e is in
    let last = map.insert next l target in
    let links : Has last (([], root) ∷ (e, directory 8) ∷ (eg, two_bytes) ∷ (l, target) ∷ []) = put next _ l target moves in
    run t next (step 10 rename_directory unseen) from_eleven (directory_renamed t is)
    (run next last (step 11 make_link unseen) from_twelve (linked next moves) (run last (map.remove last eg) (step 12 remove_file unseen) [] (removed last links) refl))

runs_from_eight : (t : Tree) → Has t one_file → Runs t from_eight
unfolding all_put
runs_from_eight t is =
    let next = map.insert t d (directory 8) in
    let made : Has next (([], root) ∷ (d, directory 8) ∷ (f, two_bytes) ∷ []) = put t one_file d (directory 8) is in
    let last = moved next f dg in
    let moves : Has last (([], root) ∷ (d, directory 8) ∷ (dg, two_bytes) ∷ []) = has_moved next _ f dg made in
    run t next (step 8 make_directory unseen) from_nine (made_again t is) (run next last (step 9 rename_file unseen) from_ten (renamed next made) (runs_from_ten last moves))

runs_from_six : (t : Tree) → Has t one_file → Runs t from_six
runs_from_six t is =
    let next = map.insert t d (directory 6) in
    let as_before : map.remove next d ≡ t = put_and_removed t d (directory 6) (map.get-entries t d ∙ ap (es.find path_cmp d) is) in
    run t next (step 6 make_directory unseen) from_seven (made t is)
    (run next (map.remove next d) (step 7 remove_directory unseen) from_eight (unmade next (put t one_file d (directory 6) is))
    (runs_from_eight (map.remove next d) (ap (λ (x : Tree). map.entries x) as_before ∙ is)))

pub all_steps : IsRun
all_steps =
    let empty = map.insert opening f (file []) in
    let has_file : Has empty (([], root) ∷ (f, file []) ∷ []) = put opening first f (file []) entries_opening in
    let three = map.insert empty f (file (0 ∷ 120 ∷ 121 ∷ [])) in
    let has_three : Has three three_bytes = put empty _ f (file (0 ∷ 120 ∷ 121 ∷ [])) has_file in
    let two = map.insert three f two_bytes in
    let has_two : Has two one_file = put three three_bytes f two_bytes has_three in
    run opening empty (step 1 create unseen) from_two (created opening entries_opening)
    (run empty three (step 2 write two_written) from_three (written empty has_file)
    (run three three (step 3 read two_read) from_four (was_read three has_three)
    (run three three (step 4 look_up none_found) from_five (not_found three has_three)
    (run three two (step 5 set_size unseen) from_six (was_cut three has_three) (runs_from_six two has_two)))))
