-- A loop that reads a list: the items so far, and what is still to be read.
use Rattle.std.proofs.Common.{◌≡◌, ℕ, suc, ◌+◌, ◌-◌, ◌<◌, Bool, true, false, List, [], ◌∷◌, ◌++◌, Option, Some, None, Result, Ok, Err, refl, sym, ap, ◌∙◌, append_assoc, arith}
use Rattle.std.proofs.lemmas.List.{append-nil}
use Rattle.xdr_records.specs.declared.fault.XdrFault.{XdrFault}
use Rattle.xdr_records.specs.Unread.{Unread, At}
use Rattle.xdr_records.specs.Items.{flag_at}
use Rattle.xdr_records.specs.Reading.{item_here, with_first, items_at, Told}

-- the items read so far, and those to come
abbrev pub with_front : {A F : Type 0} → List A → Result (List A × Unread) F → Result (List A × Unread) F
with_front front (Ok others) = Ok (front ++ others.0, others.1)
with_front front (Err fault) = Err fault

pub with_front-nil : {A F : Type 0} (r : Result (List A × Unread) F) → with_front [] r ≡ r
with_front-nil (Ok others) = refl
with_front-nil (Err fault) = refl

pub with_front-first : {A F : Type 0} (front : List A) (x : A) (r : Result (List A × Unread) F) → with_front front (with_first x r) ≡ with_front (front ++ x ∷ []) r
with_front-first {F = F} front x (Ok others) = rw (append_assoc front (x ∷ []) others.0) refl
with_front-first front x (Err fault) = refl

-- want of memory aside, what is told of one step is told of all
told_of : {Y Z F : Type 0} (o : Option F) (step : Result Y F) (total : Result Z F) → ((fault : F) → step ≡ Err fault → total ≡ Err fault) → Told o step → Told o total
told_of None step total through told = tt
told_of (Some fault) step total through told = through fault told

-- front are the items that i rounds of a loop read, old is where the reader stands
module _ {A K : Type 0} (kind_of : XdrFault → K) (item : Unread → Result (A × Unread) (At K)) (front : List A) (total : Result (List A × Unread) (At K)) (count i : ℕ) (old : Unread)
    (below : i < count) (so_far : with_front front (items_at kind_of item (count - i) old) ≡ total) where
  -- behind a true flag there is an item more
  pub one_more : (flag : Bool) (between new : Unread) (x : A) → flag ≡ true → item_here kind_of old.at (flag_at old) ≡ Ok (flag, between) → item between ≡ Ok (x, new) → with_front (front ++ x ∷ []) (items_at kind_of item (count - (i + 1)) new) ≡ total
  one_more flag between new x set at_flag read =
      let n : count - i ≡ suc (count - (i + 1)) = omega arith in
      let step : items_at kind_of item (count - i) old ≡ with_first x (items_at kind_of item (count - (i + 1)) new) = rw (n, at_flag, set, read) refl in
      sym (with_front-first front x (items_at kind_of item (count - (i + 1)) new)) ∙ ap (with_front front) (sym step) ∙ so_far

  -- behind a false flag there is none
  pub no_more : (flag : Bool) (new : Unread) → flag ≡ false → item_here kind_of old.at (flag_at old) ≡ Ok (flag, new) → total ≡ Ok (front, new)
  no_more flag new unset at_flag =
      let n : count - i ≡ suc (count - (i + 1)) = omega arith in
      let step : items_at kind_of item (count - i) old ≡ Ok ([], new) = rw (n, at_flag, unset) refl in
      sym so_far ∙ ap (with_front front) step ∙ ap (λ (xs : List A). Ok (xs, new)) (append-nil front)

  -- no flag
  pub flag_wrong : (o : Option (At K)) → Told o (item_here kind_of old.at (flag_at old)) → Told o total
  flag_wrong o told =
      let n : count - i ≡ suc (count - (i + 1)) = omega arith in
      told_of o (item_here kind_of old.at (flag_at old)) total (λ (fault : At K) (at_flag : item_here kind_of old.at (flag_at old) ≡ Err fault).
      let step : items_at kind_of item (count - i) old ≡ Err fault = rw (n, at_flag) refl in
      sym so_far ∙ ap (with_front front) step) told

  -- no item behind a true flag
  pub item_wrong : (flag : Bool) (between : Unread) → flag ≡ true → item_here kind_of old.at (flag_at old) ≡ Ok (flag, between) → (o : Option (At K)) → Told o (item between) → Told o total
  item_wrong flag between set at_flag o told =
      let n : count - i ≡ suc (count - (i + 1)) = omega arith in
      told_of o (item between) total (λ (fault : At K) (read : item between ≡ Err fault).
      let step : items_at kind_of item (count - i) old ≡ Err fault = rw (n, at_flag, set, read) refl in
      sym so_far ∙ ap (with_front front) step) told
