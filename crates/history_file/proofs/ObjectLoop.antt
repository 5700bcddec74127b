-- Reading starting objects one after the other, as a loop does.
use Rattle.std.proofs.Common.{◌≡◌, ℕ, suc, ◌-◌, ◌+◌, ◌≤◌, ◌<◌, List, [], ◌∷◌, ◌++◌, Result, Ok, Err, refl, sym, ap, ◌∙◌, append_assoc, append-nil, arith}
use Rattle.std.proofs.lemmas.List.{map_push}
use Rattle.xdr_records.specs.Unread.{Unread, At}
use Rattle.xdr_records.specs.Reading.{bound, Told}
use Rattle.tree_starts.specs.Start.{key_of, keys_of}
use Rattle.tree_starts.specs.declared.object.StartObject.{StartObject}
use Rattle.history_file.specs.declared.fault.FileFault.{FileFault}
use Rattle.history_file.specs.declared.items.ItemFault.{ItemFault}
use Rattle.history_file.specs.declared.items.ItemFault.TheVariants as told_by
use Rattle.history_file.specs.Starting.{object, objects}
use Rattle.history_file.specs.FileReading.{reading_of, told, with_front}

abbrev pub Rest : Type 0
Rest = Result (List StartObject × Unread) (At FileFault)

-- what is still to be read behind these, of so many
abbrev pub left : ℕ → List StartObject → ℕ → Unread → Rest
left count front i old = with_front front (reading_of (objects (count - i) (keys_of front) (i + 1)) old)

regroup : (front : List StartObject) (o : StartObject) (read : Rest) → with_front front (bound read (λ x. Ok (o ∷ x.0, x.1))) ≡ with_front (front ++ o ∷ []) read
regroup front o (Ok x) = ap (λ (os : List StartObject). Ok (os, x.1)) (sym (append_assoc front (o ∷ []) x.0))
regroup front o (Err f) = refl

pub goes_on : (front : List StartObject) (count i : ℕ) (old : Unread) (o : StartObject) (new : Unread) (total : Rest) → i < count → reading_of (object (keys_of front) (i + 1)) old ≡ Ok (o, new)
    → left count front i old ≡ total → left count (front ++ o ∷ []) (i + 1) new ≡ total
unfolding objects
goes_on front count i old o new total lt h so_far =
    let k : count - i ≡ suc (count - (i + 1)) = omega arith in
    let keys : keys_of (front ++ o ∷ []) ≡ keys_of front ++ key_of o ∷ [] = map_push key_of front o in
    let one : left count front i old ≡ left count (front ++ o ∷ []) (i + 1) new =
    rw (k, h, keys) (regroup front o (reading_of (objects (count - (i + 1)) (keys_of front ++ key_of o ∷ []) ((i + 1) + 1)) new)) in
    sym one ∙ so_far

pub stops : (fault : ItemFault) (front : List StartObject) (count i : ℕ) (old : Unread) (total : Rest) → i < count → Told (told fault) (reading_of (object (keys_of front) (i + 1)) old)
    → left count front i old ≡ total → Told (told fault) total
unfolding objects
stops told_by.NoMemory front count i old total lt h so_far = tt
stops (told_by.Fault at f) front count i old total lt h so_far =
    let k : count - i ≡ suc (count - (i + 1)) = omega arith in
    let one : left count front i old ≡ Err (record { at = at; kind = f }) = rw (k, h) refl in
    sym so_far ∙ one

pub is_done : (front : List StartObject) (count i : ℕ) (old : Unread) (total : Rest) → count ≤ i → left count front i old ≡ total → total ≡ Ok (front, old)
unfolding objects
is_done front count i old total le so_far =
    let k : count - i ≡ 0 = omega arith in
    let one : left count front i old ≡ Ok (front, old) = rw k (ap (λ (os : List StartObject). Ok (os, old)) (append-nil front)) in
    sym so_far ∙ one
