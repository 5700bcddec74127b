-- each byte of what is cut, filled or written
use Rattle.std.proofs.Common.{◌≡◌, ℕ, ◌+◌, ◌-◌, ◌<◌, ◌≤◌, ◌⊎◌, inl, inr, List, ◌++◌, length, take, drop, replicate, refl, sym, ap, ◌∙◌, arith, length-append, length-drop}
use Rattle.std.specs.Prelude.{slice_index, max}
use Rattle.std.proofs.lemmas.Bool.{cases_lt}
use Rattle.std.proofs.lemmas.List.{length-take, take_all, get_or_append_left, get_or-append_right, get_or-take, get_or-drop, get_or-replicate, get_or_past}
use Rattle.tree_stores.specs.Files.{resized, written}
use Rattle.file_tree.proofs.Planned.{resized_long}

pub resized_byte : (bytes : List ℕ) (size i : ℕ) → i < size → slice_index (resized bytes size) i ≡ slice_index bytes i
resized_byte bytes size i within = go (cases_lt i (length bytes)) where
  go : (i < length bytes) ⊎ (length bytes ≤ i) → slice_index (resized bytes size) i ≡ slice_index bytes i
  go (inl inside) = get_or_append_left (take size bytes) (replicate (size - length bytes) 0) 0 i (omega (arith, length-take size bytes)) ∙ get_or-take size bytes i 0 within
  go (inr past) = ap (λ (xs : List ℕ). slice_index (xs ++ replicate (size - length bytes) 0) i) (take_all size bytes (omega arith))
      ∙ get_or-append_right bytes (replicate (size - length bytes) 0) (length bytes) i 0 refl past
      ∙ get_or-replicate (size - length bytes) (i - length bytes) 0 0 (omega arith) ∙ sym (get_or_past bytes i 0 past)

module _ (old : List ℕ) (offset : ℕ) (added : List ℕ) where
  front_length : length (resized old offset ++ added) ≡ offset + length added
  front_length = omega (arith, length-append (resized old offset) added, resized_long old offset)

  pub written_length : length (written old offset added) ≡ max (length old) (offset + length added)
  written_length =
      omega (arith, length-append (resized old offset ++ added) (drop (offset + length added) old), length-drop (offset + length added) old, front_length)

  pub written_new : (i : ℕ) → i < length added → slice_index (written old offset added) (offset + i) ≡ slice_index added i
  written_new i within =
      let same : offset + i - offset ≡ i = omega arith in
      get_or_append_left (resized old offset ++ added) (drop (offset + length added) old) 0 (offset + i) (omega (arith, front_length))
      ∙ get_or-append_right (resized old offset) added offset (offset + i) 0 (resized_long old offset) (omega arith) ∙ ap (slice_index added) same

  pub written_ahead : (i : ℕ) → i < offset → slice_index (written old offset added) i ≡ slice_index old i
  written_ahead i ahead =
      get_or_append_left (resized old offset ++ added) (drop (offset + length added) old) 0 i (omega (arith, front_length))
      ∙ get_or_append_left (resized old offset) added 0 i (omega (arith, resized_long old offset)) ∙ resized_byte old offset i ahead

  pub written_behind : (i : ℕ) → offset + length added ≤ i → slice_index (written old offset added) i ≡ slice_index old i
  written_behind i behind =
      let same : offset + length added + (i - (offset + length added)) ≡ i = omega arith in
      get_or-append_right (resized old offset ++ added) (drop (offset + length added) old) (offset + length added) i 0 front_length behind
      ∙ get_or-drop (offset + length added) old (i - (offset + length added)) 0 ∙ ap (slice_index old) same
