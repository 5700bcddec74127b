-- records and the changes that they are
use Rattle.std.proofs.Common.{◌≡◌, ℕ, ◌+◌, ◌<◌, List, [], ◌∷◌, ◌++◌, length, take, drop, get_or, map, Some, refl, sym, ap, ◌∙◌, subst, append-nil, arith}
use Rattle.std.specs.Prelude.{option_and_then}
use Rattle.std.specs.List.{AllByRecursion, range_with_len}
use Rattle.std.proofs.lemmas.List.{append_assoc, map-append, take_more, drop_more, take-append-drop, length-take}
use Rattle.std.proofs.lemmas.List.FromFn.{map-range_with_len_more}
use Rattle.journal.specs.declared.change.Change.{Change}
use Rattle.journal.specs.Exactly.{IsOnly}
use Rattle.journal.specs.Journal.{IsJournalRecord}
use Rattle.tree_starts.specs.Start.{IsStart}
use Rattle.tree_starts.specs.declared.object.StartObject.{StartObject}
use Rattle.tree_starts.specs.declared.profile.Profile.{Profile}
use Rattle.tree_nodes.specs.Tree.{Tree}
use Rattle.tree_handles.specs.Binding.{Bindings}
use Rattle.file_tree.specs.StartTree.{start_tree}
use Rattle.journal.specs.declared.rebuild_fault.RebuildFault.{RebuildFault}
use Rattle.journal.specs.declared.rebuild_fault.RebuildFault.TheVariants.{NoRecord, NotLegal, NoMemory}
use Rattle.journal.specs.Rebuilding.{handle_of, bindings_made, AreJournalRecords, object_in, objects_named, IsNumbered}
use Rattle.journal.specs.Taking.{with_handle, tree_behind, IsTaken, StopsAt, AreOnly, grown, Stands, StopsIn}
use Rattle.journal.proofs.Numbers.{pair}
use Rattle.journal.proofs.Growing.{grown-append}

-- ---- lists of records

pub only_are : (records : List (List ℕ)) (changes : List Change) → AreOnly records changes → AreJournalRecords records changes
only_are [] [] a = tt
only_are [] (change ∷ changes) a = absurd a
only_are (bytes ∷ records) [] a = absurd a
only_are (bytes ∷ records) (change ∷ changes) a = (a.0.means, only_are records changes a.1)

only_append : (records : List (List ℕ)) (changes : List Change) (bytes : List ℕ) (change : Change) → AreOnly records changes → IsOnly (IsJournalRecord bytes) change
    → AreOnly (records ++ bytes ∷ []) (changes ++ change ∷ [])
only_append [] [] bytes change a only = (only, tt)
only_append [] (c ∷ changes) bytes change a only = absurd a
only_append (r ∷ records) [] bytes change a only = absurd a
only_append (r ∷ records) (c ∷ changes) bytes change a only = (a.0, only_append records changes bytes change a.1 only)

-- there are no others
pub same_changes : (records : List (List ℕ)) (changes others : List Change) → AreOnly records changes → AreJournalRecords records others → others ≡ changes
same_changes [] [] [] a b = refl
same_changes [] [] (other ∷ others) a b = absurd b
same_changes [] (change ∷ changes) others a b = absurd a
same_changes (bytes ∷ records) [] others a b = absurd a
same_changes (bytes ∷ records) (change ∷ changes) [] a b = absurd b
same_changes (bytes ∷ records) (change ∷ changes) (other ∷ others) a b = λ i. a.0.only other b.0 i ∷ same_changes records changes others a.1 b.1 i

-- the changes of records that have parts have parts
pub record ChangeParts (ahead : List (List ℕ)) (bytes : List ℕ) (behind : List (List ℕ)) (changes : List Change) : Type 0 where
  pub first : List Change
  pub here : Change
  pub rest : List Change
  pub parts : changes ≡ first ++ here ∷ rest
  pub are : AreJournalRecords ahead first
  pub reads : IsJournalRecord bytes here

pub change_parts : (ahead : List (List ℕ)) (bytes : List ℕ) (behind : List (List ℕ)) (changes : List Change) → AreJournalRecords (ahead ++ bytes ∷ behind) changes → ChangeParts ahead bytes behind changes
change_parts [] bytes behind [] a = absurd a
change_parts [] bytes behind (change ∷ changes) a = record { first = []; here = change; rest = changes; parts = refl; are = tt; reads = a.0 }
change_parts (r ∷ ahead) bytes behind [] a = absurd a
change_parts (r ∷ ahead) bytes behind (change ∷ changes) a =
    let p = change_parts ahead bytes behind changes a.1 in
    record { first = change ∷ p.first; here = p.here; rest = p.rest; parts = ap (λ cs. change ∷ cs) p.parts; are = (a.0, p.are); reads = p.reads }

-- ---- one record more

-- the handles of numbers, with one more
pub made_more : (numbers : List ℕ) (number : ℕ) → with_handle (bindings_made numbers) number ≡ bindings_made (numbers ++ number ∷ [])
made_more numbers number = ap (λ pairs. record { root = handle_of 0; pairs = pairs }) (sym (map-append pair numbers (number ∷ [])))

-- those of the objects that stood at first
pub first_more : (n : ℕ) (binds binds' : Bindings) → binds ≡ bindings_made (range_with_len 1 n) → binds' ≡ with_handle binds (n + 1) → binds' ≡ bindings_made (range_with_len 1 (n + 1))
first_more n binds binds' named more =
    more ∙ ap (λ (b : Bindings). with_handle b (n + 1)) named
    ∙ ap (λ pairs. record { root = handle_of 0; pairs = pairs }) (sym (map-range_with_len_more pair 1 n (n + 1) (omega arith)))

-- those of changes
pub named_more : (first : ℕ) (changes : List Change) (change : Change) → objects_named first changes ++ object_in first change ∷ [] ≡ objects_named first (changes ++ change ∷ [])
named_more first changes change =
    append_assoc (range_with_len 1 first) (map (object_in first) changes) (object_in first change ∷ [])
    ∙ ap (λ numbers. range_with_len 1 first ++ numbers) (sym (map-append (object_in first) changes (change ∷ [])))

all_more : (P : Change → Type 0) (changes : List Change) (change : Change) → AllByRecursion P changes → P change → AllByRecursion P (changes ++ change ∷ [])
all_more P [] change all more = (more, tt)
all_more P (c ∷ changes) change all more = (all.0, all_more P changes change all.1 more)

module _ (profile : Profile) (start : List StartObject) where
  abbrev first : ℕ
  first = length start

  pub stands_first : (records : List (List ℕ)) (binds : Bindings) (tree : Tree) → IsStart start → binds ≡ bindings_made (range_with_len 1 (length start)) → tree ≡ start_tree start
      → Stands profile start (take 0 records) binds tree
  stands_first records binds tree is named at_first = record {
    changes = [];
    are = tt;
    numbered = tt;
    names = named ∙ ap bindings_made (sym (append-nil (range_with_len 1 first)));
    start_is = is;
    leads = ap Some (sym at_first);
  }

  pub stands_more : (records : List (List ℕ)) (bytes : List ℕ) (binds binds' : Bindings) (tree tree' : Tree) → Stands profile start records binds tree
      → IsTaken profile (length start) bytes binds tree binds' tree' → Stands profile start (records ++ bytes ∷ []) binds' tree'
  stands_more records bytes binds binds' tree tree' s t = record {
    changes = s.changes ++ t.change ∷ [];
    are = only_append records s.changes bytes t.change s.are t.only;
    numbered = all_more (IsNumbered first) s.changes t.change s.numbered t.made.numbered;
    names = so_far ∙ ap bindings_made (named_more first s.changes t.change);
    start_is = s.start_is;
    leads = grown-append profile first (range_with_len 1 first) (start_tree start) s.changes (t.change ∷ [])
        ∙ ap (option_and_then (λ after. grown profile first (objects_named first s.changes) after (t.change ∷ []))) s.leads
        ∙ ap (option_and_then (λ (after : Tree). Some after)) (ap (λ (b : Bindings). tree_behind profile first b tree t.change) (sym so_far) ∙ t.made.leads);
  } where
    so_far : binds' ≡ bindings_made (objects_named first s.changes ++ object_in first t.change ∷ [])
    so_far =
        t.made.names ∙ ap (λ (b : Bindings). with_handle b (object_in first t.change)) s.names ∙ made_more (objects_named first s.changes) (object_in first t.change)

-- ---- a record that isn't taken

pub stop_parts : (records : List (List ℕ)) (i : ℕ) (bytes : List ℕ) → i < length records → bytes ≡ get_or records i bytes → records ≡ take i records ++ bytes ∷ drop (i + 1) records
stop_parts records i bytes lt is =
    sym (take-append-drop i records) ∙ ap (λ ys. take i records ++ ys) (drop_more records i bytes lt ∙ ap (λ y. y ∷ drop (i + 1) records) (sym is))

pub stop_place : (records : List (List ℕ)) (i number : ℕ) → i < length records → number ≡ i + 1 → number ≡ length (take i records) + 1
stop_place records i number lt is = let so_many = length-take i records in omega (arith, lt, is, so_many)

module _ (profile : Profile) (start : List StartObject) where
  stops_here : (records : List (List ℕ)) (i number : ℕ) (bytes : List ℕ) (binds : Bindings) (tree : Tree) → i < length records → bytes ≡ get_or records i bytes → number ≡ i + 1
      → Stands profile start (take i records) binds tree → (fault : RebuildFault) → StopsAt profile (length start) number bytes binds tree fault → StopsIn profile start records fault
  stops_here records i number bytes binds tree lt is place stands (NoRecord n) stop = record {
    ahead = take i records;
    bad = bytes;
    behind = drop (i + 1) records;
    parts = stop_parts records i bytes lt is;
    place = stop.0 ∙ stop_place records i number lt place;
    binds = binds;
    tree = tree;
    stands = stands;
    why = stop.1;
  }
  stops_here records i number bytes binds tree lt is place stands (NotLegal n) stop = record {
    ahead = take i records;
    bad = bytes;
    behind = drop (i + 1) records;
    parts = stop_parts records i bytes lt is;
    place = stop.0 ∙ stop_place records i number lt place;
    binds = binds;
    tree = tree;
    stands = stands;
    why = stop.1;
  }
  stops_here records i number bytes binds tree lt is place stands NoMemory stop = tt

  pub stands_next : (records : List (List ℕ)) (i count : ℕ) (bytes seen : List ℕ) (binds binds' : Bindings) (tree tree' : Tree) → i < length records → bytes ≡ get_or records i bytes → seen ≡ bytes
      → count ≡ length start → Stands profile start (take i records) binds tree → IsTaken profile count seen binds tree binds' tree' → Stands profile start (take (i + 1) records) binds' tree'
  stands_next records i count bytes seen binds binds' tree tree' lt is same counted s t =
      subst (λ rs. Stands profile start rs binds' tree') (sym (take_more records i bytes lt ∙ ap (λ y. take i records ++ y ∷ []) (sym is)))
      (stands_more profile start (take i records) bytes binds binds' tree tree' s
      (subst (λ (n : ℕ). IsTaken profile n bytes binds tree binds' tree') counted (subst (λ (b : List ℕ). IsTaken profile count b binds tree binds' tree') same t)))

  pub stops_next : (records : List (List ℕ)) (i count number : ℕ) (bytes seen : List ℕ) (binds : Bindings) (tree : Tree) → i < length records → bytes ≡ get_or records i bytes → seen ≡ bytes
      → count ≡ length start → number ≡ i + 1 → Stands profile start (take i records) binds tree → (fault : RebuildFault) → StopsAt profile count number seen binds tree fault
      → StopsIn profile start records fault
  stops_next records i count number bytes seen binds tree lt is same counted place s fault stop =
      stops_here records i number bytes binds tree lt is place s fault
      (subst (λ (n : ℕ). StopsAt profile n number bytes binds tree fault) counted (subst (λ (b : List ℕ). StopsAt profile count number b binds tree fault) same stop))
