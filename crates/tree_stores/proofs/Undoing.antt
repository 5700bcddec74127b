-- what a file is to be turned to, and back
use Rattle.std.proofs.Common.{◌≡◌, ℕ, ◌+◌, ◌<◌, ◌≤◌, ◌⊎◌, inl, inr, List, length, sym, ap, ◌∙◌, arith}
use Rattle.std.specs.Prelude.{max, slice_index}
use Rattle.std.proofs.lemmas.Bool.{cases_lt}
use Rattle.nfs3_types.specs.Limits.{file_limit}
use Rattle.tree_stores.specs.declared.file_bytes.changes.FileUndo.{FileUndo}
use Rattle.tree_stores.specs.Files.{resized, written}
use Rattle.tree_stores.specs.Paged.{changed, listed, overwritten, cut, IsFile}
use Rattle.tree_stores.specs.Undo.{Restores}
use Rattle.tree_stores.proofs.Places.{by_places, cut_below, cut_above, read_resized, read_written, read_file, length-resized, length-written, length-listed, file_of, list_of}

-- the list's bytes are the file's
file_reads : (f : ℕ → ℕ) (size : ℕ) (xs : List ℕ) → IsFile f size → listed f size ≡ xs → slice_index xs ≡ f
file_reads f size xs file view = ap slice_index (sym view) ∙ read_file f size file

file_length : (f : ℕ → ℕ) (size : ℕ) (xs : List ℕ) → listed f size ≡ xs → length xs ≡ size
file_length f size xs view = ap length (sym view) ∙ length-listed f size

-- ---- pages that turn a file to what a write or a cut makes of it

pub write_restores : (f : ℕ → ℕ) (size : ℕ) (xs : List ℕ) → IsFile f size → listed f size ≡ xs → (undo : FileUndo) (offset : ℕ) (added : List ℕ)
    → undo.size ≡ max size (offset + length added) → offset + length added ≤ file_limit → changed undo.changes.items f ≡ overwritten f offset added
    → Restores undo xs (written xs offset added)
write_restores f size xs file view undo offset added n fits e =
    let small = file.limit in
    let count = file_length f size xs view in
    let long = length-written xs offset added in record {
      size = omega arith;
      limit = omega arith;
      bytes = read_written xs offset added ∙ ap (λ (g : ℕ → ℕ). overwritten g offset added) (file_reads f size xs file view) ∙ sym e ∙ ap (changed undo.changes.items) (sym (file_reads f size xs file view));
    }

pub cut_restores : (f : ℕ → ℕ) (size : ℕ) (xs : List ℕ) → IsFile f size → listed f size ≡ xs → (undo : FileUndo)
    → undo.size ≤ file_limit → changed undo.changes.items f ≡ cut f undo.size
    → Restores undo xs (resized xs undo.size)
cut_restores f size xs file view undo fits e = record {
  size = length-resized xs undo.size;
  limit = fits;
  bytes = read_resized xs undo.size ∙ ap (λ (g : ℕ → ℕ). cut g undo.size) (file_reads f size xs file view) ∙ sym e ∙ ap (changed undo.changes.items) (sym (file_reads f size xs file view));
}

-- nothing is cut where a file grows
pub grown : (f : ℕ → ℕ) (size larger : ℕ) → IsFile f size → size ≤ larger → f ≡ cut f larger
grown f size larger file h = by_places f (cut f larger) (λ i. go i (cases_lt i larger)) where
  go : (i : ℕ) → (i < larger) ⊎ (larger ≤ i) → f i ≡ cut f larger i
  go i (inl p) = sym (cut_below f larger i p)
  go i (inr p) = file.ended i (omega arith) ∙ sym (cut_above f larger i p)

-- ---- the pages put

-- what stands then
stands : (f g : ℕ → ℕ) (size : ℕ) (xs before : List ℕ) → IsFile f size → listed f size ≡ xs → (undo : FileUndo) → Restores undo xs before → g ≡ changed undo.changes.items f
    → g ≡ slice_index before
stands f g size xs before file view undo restores e = e ∙ ap (changed undo.changes.items) (sym (file_reads f size xs file view)) ∙ sym restores.bytes

pub restored_file : (f g : ℕ → ℕ) (size : ℕ) (xs before : List ℕ) → IsFile f size → listed f size ≡ xs → (undo : FileUndo) → Restores undo xs before → g ≡ changed undo.changes.items f
    → IsFile g undo.size
restored_file f g size xs before file view undo restores e = file_of g undo.size before restores.size restores.limit (stands f g size xs before file view undo restores e)

pub restored_list : (f g : ℕ → ℕ) (size : ℕ) (xs before : List ℕ) → IsFile f size → listed f size ≡ xs → (undo : FileUndo) → Restores undo xs before → g ≡ changed undo.changes.items f
    → listed g undo.size ≡ before
restored_list f g size xs before file view undo restores e = list_of g undo.size before restores.size (stands f g size xs before file view undo restores e)

-- the pages that stood there turn it back
pub turned_back : (f g : ℕ → ℕ) (size larger : ℕ) (xs : List ℕ) → IsFile f size → listed f size ≡ xs → IsFile g larger → (redo : FileUndo) → redo.size ≡ size → changed redo.changes.items g ≡ f
    → Restores redo (listed g larger) xs
turned_back f g size larger xs file view there redo n e = record {
  size = file_length f size xs view ∙ sym n;
  limit = let fits = file.limit in omega arith;
  bytes = file_reads f size xs file view ∙ sym e ∙ ap (changed redo.changes.items) (sym (read_file g larger there));
}
