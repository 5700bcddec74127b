-- Starts of one object more.
use Rattle.std.proofs.Common.{◌≡◌, ℕ, suc, ◌+◌, ◌<◌, ◌≤◌, ◌^◌, Bool, true, false, if◌then◌else◌, not, nat_le, List, [], ◌∷◌, ◌++◌, length, map, get_or, Option, Some, None, refl, sym, ap, ◌∙◌, arith, add-zero, append-nil, append_assoc, zero}
use Rattle.std.specs.Option.{option_or}
use Rattle.std.proofs.lemmas.Bool.{leb-true}
use Rattle.tree_starts.specs.declared.object.StartObject.{StartObject}
use Rattle.tree_starts.specs.declared.fault.StartFault.TheVariants.{BadStart, TooLarge}
use Rattle.tree_starts.specs.Start.{Key, key_of, keys_of, is_parent, may_be_named, fits, object_fault, fault_from, text_limit, IsStart}
use Rattle.tree_starts.specs.Seen.{IsHeld, IsNodeHeld}
use Rattle.tree_starts.specs.declared.object.StartNode.{StartNode}
use Rattle.tree_starts.specs.declared.object.StartNode.TheVariants as nodes

or_assoc : {X : Type 0} (a b c : Option X) → option_or a (option_or b c) ≡ option_or (option_or a b) c
or_assoc None b c = refl
or_assoc (Some x) b c = refl

fst_none : {X : Type 0} (a b : Option X) → option_or a b ≡ None → a ≡ None
fst_none None b is = refl
fst_none (Some x) b is = cc

snd_none : {X : Type 0} (a b : Option X) → option_or a b ≡ None → b ≡ None
snd_none None b is = is
snd_none (Some x) b is = cc

-- the fault of two lists, one behind the other
pub fault_of_both : (ahead : List Key) (k : ℕ) (xs ys : List StartObject) → fault_from ahead k (xs ++ ys) ≡ option_or (fault_from ahead k xs) (fault_from (ahead ++ keys_of xs) (k + length xs) ys)
unfolding fault_from
fault_of_both ahead k [] ys = rw (append-nil, add-zero) refl
fault_of_both ahead k (x ∷ xs) ys =
    let n : k + suc (length xs) ≡ (k + 1) + length xs = omega arith in
    let there : ahead ++ key_of x ∷ map key_of xs ≡ (ahead ++ key_of x ∷ []) ++ map key_of xs = simp append_assoc in
    rw (n, there) (ap (option_or (object_fault ahead k x)) (fault_of_both (ahead ++ key_of x ∷ []) (k + 1) xs ys)
    ∙ or_assoc (object_fault ahead k x) (fault_from (ahead ++ key_of x ∷ []) (k + 1) xs) (fault_from ((ahead ++ key_of x ∷ []) ++ map key_of xs) ((k + 1) + length xs) ys))

-- an object more, that may stand
pub one_more : (xs : List StartObject) (y : StartObject) (n : ℕ) → n ≡ 1 + length xs → fault_from [] 1 xs ≡ None → object_fault (keys_of xs) n y ≡ None → fault_from [] 1 (xs ++ y ∷ []) ≡ None
unfolding fault_from
one_more xs y n is before here =
    fault_of_both [] 1 xs (y ∷ []) ∙ rw (before, sym is) (ap (λ o. option_or o None) here)

fine_of : (k : ℕ) (a b c d : Bool)
    → (if not a then Some (BadStart k) else if not b then Some (TooLarge k) else if not c then Some (BadStart k) else if not d then Some (TooLarge k) else None) ≡ None
    → (b ≡ true) × (d ≡ true)
fine_of k false b c d is = cc
fine_of k true false c d is = cc
fine_of k true true false d is = cc
fine_of k true true true false is = cc
fine_of k true true true true is = (refl, refl)

held_of : (ahead : List Key) (k : ℕ) (o : StartObject) → object_fault ahead k o ≡ None → IsHeld o
held_of ahead k o fine = (small_name fits_both.0, by_node o.node fits_both.1) where
  by_node : (node : StartNode) → fits node ≡ true → IsNodeHeld node
  by_node (nodes.File bytes) small = let h : length bytes ≤ 16777216 = leb-true _ _ small in omega arith
  by_node nodes.Directory small = tt
  by_node (nodes.Link text) small = let h : length text ≤ 1048576 = leb-true _ _ small in omega arith

  small_name : nat_le (length o.name) text_limit ≡ true → length o.name < 2 ^ 32
  small_name small = let h : length o.name ≤ 1048576 = leb-true _ _ small in omega arith

  fits_both : (nat_le (length o.name) text_limit ≡ true) × (fits o.node ≡ true)
  fits_both = fine_of k (is_parent ahead o.parent) (nat_le (length o.name) text_limit) (may_be_named ahead o.parent o.name) (fits o.node) fine

pub start_alone : (xs : List StartObject) → IsStart xs → fault_from [] 1 xs ≡ None
start_alone xs is = by_length (nat_le (length xs) 1000000) is where
  by_length : (b : Bool) → (if b then fault_from [] 1 xs else Some (TooLarge 1000001)) ≡ None → fault_from [] 1 xs ≡ None
  by_length true fine = fine
  by_length false none = cc

-- each object of a start can be held in memory
pub held_at : (ahead : List Key) (k : ℕ) (xs : List StartObject) (i : ℕ) (d : StartObject) → i < length xs → fault_from ahead k xs ≡ None → IsHeld (get_or xs i d)
unfolding fault_from
held_at ahead k [] i d lt fine = absurd (omega arith)
held_at ahead k (x ∷ xs) zero d lt fine = held_of ahead k x (fst_none _ _ fine)
held_at ahead k (x ∷ xs) (suc i) d lt fine = held_at (ahead ++ key_of x ∷ []) (k + 1) xs i d (omega arith) (snd_none _ _ fine)
