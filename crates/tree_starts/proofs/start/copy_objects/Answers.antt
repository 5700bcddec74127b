use Rattle.std.proofs.Common.{[], subst, arith}
use Rattle.std.proofs.lemmas.List.{length-map, get_or-map}
use Rattle.tree_starts.specs.declared.object.StartObject.{StartObject}
use Rattle.tree_starts.specs.declared.object.StartNode.TheVariants.{Directory}
use Rattle.tree_starts.specs.Seen.{seen_object, all_seen, IsHeld}
use Rattle.tree_starts.proofs.Growing.{held_at, start_alone}
use Rattle.tree_starts.proofs.start.copy_objects.Goals as goal

nothing_there : StartObject
nothing_there = record { parent = 0; name = []; node = Directory }

pub from_seen-requires : goal.from_seen-requires
from_seen-requires c =
    subst IsHeld (get_or-map seen_object c.args.seen.now c.loop-object.object-index _ _ c.loop-object-test.true)
    (held_at [] 1 (all_seen c.args.seen.now) c.loop-object.object-index nothing_there (omega (arith, length-map c.args.seen.now seen_object)) (start_alone _ c.requires))
