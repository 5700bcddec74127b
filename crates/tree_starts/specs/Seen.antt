-- For the prover, and for callers.
-- Starting objects where they lie in memory, as those of the definitions: what the code says to the prover.
use Rattle.std.specs.Prelude.{◌<◌, ◌^◌, List, length, map}
use Rattle.tree_starts.specs.declared.object.StartObject.{StartObject}
use Rattle.tree_starts.specs.declared.object.StartNode.{StartNode}
use Rattle.tree_starts.specs.declared.object.StartNode.TheVariants as nodes
use Rattle.tree_starts.specs.declared.seen.SeenObject.{SeenObject}
use Rattle.tree_starts.specs.declared.seen.SeenNode.{SeenNode}
use Rattle.tree_starts.specs.declared.seen.SeenNode.TheVariants as sees

abbrev pub seen_node : SeenNode → StartNode
seen_node (sees.File bytes) = nodes.File bytes.now
seen_node sees.Directory = nodes.Directory
seen_node (sees.Link text) = nodes.Link text.now

abbrev pub seen_object : SeenObject → StartObject
seen_object o = record { parent = o.parent; name = o.name.now; node = seen_node o.node }

abbrev pub all_seen : List SeenObject → List StartObject
all_seen objects = map seen_object objects

-- it has a length that memory of its own can have: below 2^32 bytes
abbrev pub IsNodeHeld : StartNode → Type 0
IsNodeHeld (nodes.File bytes) = length bytes < 2 ^ 32
IsNodeHeld nodes.Directory = Unit {0}
IsNodeHeld (nodes.Link text) = length text < 2 ^ 32

abbrev pub IsHeld : StartObject → Type 0
IsHeld o = (length o.name < 2 ^ 32) × IsNodeHeld o.node
