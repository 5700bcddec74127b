-- Reading events one after the other, as a loop does.
use Rattle.std.proofs.Common.{◌≡◌, ℕ, suc, ◌-◌, ◌+◌, ◌≤◌, ◌<◌, List, [], ◌∷◌, ◌++◌, Result, Ok, Err, refl, sym, ap, ◌∙◌, append_assoc, append-nil, arith}
use Rattle.xdr_records.specs.Unread.{Unread, At}
use Rattle.xdr_records.specs.Reading.{bound, Told}
use Rattle.history_file.specs.declared.fault.FileFault.{FileFault}
use Rattle.history_file.specs.declared.items.ItemFault.{ItemFault}
use Rattle.history_file.specs.declared.items.ItemFault.TheVariants as told_by
use Rattle.history_file.specs.Event.{Event}
use Rattle.history_file.specs.HistoryFile.{event, events}
use Rattle.history_file.specs.FileReading.{reading_of, told, with_front}

abbrev pub Rest : Type 0
Rest = Result (List Event × Unread) (At FileFault)

regroup : (front : List Event) (e : Event) (read : Rest) → with_front front (bound read (λ x. Ok (e ∷ x.0, x.1))) ≡ with_front (front ++ e ∷ []) read
regroup front e (Ok x) = ap (λ (es : List Event). Ok (es, x.1)) (sym (append_assoc front (e ∷ []) x.0))
regroup front e (Err f) = refl

pub goes_on : (front : List Event) (count i : ℕ) (old : Unread) (e : Event) (new : Unread) (total : Rest) → i < count → reading_of (event (i + 1)) old ≡ Ok (e, new)
    → with_front front (reading_of (events (count - i) (i + 1)) old) ≡ total → with_front (front ++ e ∷ []) (reading_of (events (count - (i + 1)) ((i + 1) + 1)) new) ≡ total
unfolding events
goes_on front count i old e new total lt h so_far =
    let k : count - i ≡ suc (count - (i + 1)) = omega arith in
    let one : with_front front (reading_of (events (count - i) (i + 1)) old) ≡ with_front (front ++ e ∷ []) (reading_of (events (count - (i + 1)) ((i + 1) + 1)) new) = rw (k, h) (regroup front e (reading_of (events (count - (i + 1)) ((i + 1) + 1)) new)) in
    sym one ∙ so_far

pub stops : (fault : ItemFault) (front : List Event) (count i : ℕ) (old : Unread) (total : Rest) → i < count → Told (told fault) (reading_of (event (i + 1)) old)
    → with_front front (reading_of (events (count - i) (i + 1)) old) ≡ total → Told (told fault) total
unfolding events
stops told_by.NoMemory front count i old total lt h so_far = tt
stops (told_by.Fault at f) front count i old total lt h so_far =
    let k : count - i ≡ suc (count - (i + 1)) = omega arith in
    let one : with_front front (reading_of (events (count - i) (i + 1)) old) ≡ Err (record { at = at; kind = f }) = rw (k, h) refl in
    sym so_far ∙ one

pub is_done : (front : List Event) (count i : ℕ) (old : Unread) (total : Rest) → count ≤ i → with_front front (reading_of (events (count - i) (i + 1)) old) ≡ total → total ≡ Ok (front, old)
unfolding events
is_done front count i old total le so_far =
    let k : count - i ≡ 0 = omega arith in
    let one : with_front front (reading_of (events (count - i) (i + 1)) old) ≡ Ok (front, old) = rw k (ap (λ (es : List Event). Ok (es, old)) (append-nil front)) in
    sym so_far ∙ one
