use Rattle.std.proofs.Common.{◌≡◌, if◌then◌else◌, Result, Ok, refl, ◌∷◌, ◌++◌, ◌+◌, [], List, length, None, sym, ap, ◌∙◌, arith}
use Rattle.std.specs.Result.{is_ok}
use Rattle.std.proofs.lemmas.List.{map_push}
use Rattle.tree_starts.specs.declared.object.StartObject.{StartObject}
use Rattle.tree_starts.specs.Seen.{seen_object, all_seen}
use Rattle.tree_starts.specs.Start.{Key, keys_of, key_of, object_fault, AllMayStand}
use Rattle.tree_starts.proofs.Growing.{one_more}
use Rattle.tree_starts.proofs.table.StartTable.push.Goals as goal

-- the keys and the objects of one more
more : (keys new : List Key) (old made : List StartObject) (y : StartObject) → keys ≡ keys_of old → new ≡ keys ++ key_of y ∷ [] → made ≡ old ++ y ∷ [] → AllMayStand old
    → object_fault (keys_of old) (length old + 1) y ≡ None → (new ≡ keys_of made) × AllMayStand made
more keys new old made y are grown longer before here =
    rw longer (grown ∙ ap (λ ks. ks ++ key_of y ∷ []) are ∙ sym (map_push key_of old y), one_more old y (length old + 1) (omega arith) before here)

pushed : {X E : Type 0} {u : X} (r : Result X E) {A : Type 0} (x y : A) → r ≡ Ok u → (if is_ok r then x else y) ≡ x
pushed r x y is = rw is refl

pub invariant_of-self-2 : goal.invariant_of-self-2
invariant_of-self-2 c =
    more c.self.inside.keys c.push.new.self (all_seen c.self.inside.seen.items) (all_seen c.push-2.new.self.items) (seen_object c.args.object.now) c.self.invariant.0
    (rw (sym c.is_directory.ensures) c.in_ok-push.ensures.ok) (ap all_seen (c.push-2.ensures.items ∙ pushed c.push-2.result _ _ c.unwrap.ensures) ∙ map_push seen_object c.reserve.new.self.items c.args.object.now ∙ ap (λ xs. all_seen xs ++ seen_object c.args.object.now ∷ []) c.in_ok-reserve.ensures.items) c.self.invariant.1 (rw c.self.view_is c.requires)
