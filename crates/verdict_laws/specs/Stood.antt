-- For the prover, and for callers.
-- What an accepted plan makes of the objects that a server held at first, over any number of crashes (RFC 1813, section 3.3.6; section
-- 4.8: what is on stable storage survives a crash).
use Rattle.std.specs.Prelude.{◌≡◌, ℕ, ◌+◌, List, ◌∷◌, ◌++◌, length, slice_get, slice_index, Some}
use Rattle.std.specs.FinMap as map
use Rattle.nfs3_types.specs.declared.calls.ReadArguments.{ReadArguments}
use Rattle.nfs3_types.specs.declared.replies.ReadSuccess.{ReadSuccess}
use Rattle.replay_law.specs.Run.{state_after}
use Rattle.tree_starts.specs.Start.{IsStart}
use Rattle.tree_starts.specs.declared.object.StartObject.{StartObject}
use Rattle.nfs_history.specs.declared.knowing.KnownCalls.{KnownCalls}
use Rattle.certificate.specs.declared.plan.Certificate.{Certificate}
use Rattle.certificate.specs.declared.plan.EraPlan.{EraPlan}
use Rattle.tree_nodes.specs.Tree.{Names, Tree}
use Rattle.tree_nodes.specs.Place as place
use Rattle.file_tree.specs.StartTree.{start_node}
use Rattle.tree_laws.specs.FirstBytes.{ReadsFirst}
use Rattle.tree_laws.specs.ReadBack.{Gives}
use Rattle.tree_laws.specs.StandsOn.{AllSpare}
use Rattle.cut_check.specs.Places.{bindings_of}
use Rattle.witness_check.specs.Run.{steps_of, next_of, base_of}
use Rattle.witness_check.specs.Witness.{IsWitness}
use Rattle.verdict_laws.specs.Kept.{order_seen}

-- of the places that an era sees a READ gives each byte of a starting file, unless a place ahead of it wrote over it
abbrev pub WhatStoodIsRead : Type 0
WhatStoodIsRead =
    (history : KnownCalls) (plan : Certificate) (ahead behind : List EraPlan) (era : EraPlan) (bytes : List ℕ) (read : ReadArguments) (answer : ReadSuccess) (byte : ℕ)
    → IsStart history.head.start → IsWitness history plan → plan.eras ≡ ahead ++ era ∷ behind
    → ReadsFirst history.head.profile history.head.start (bindings_of history.head.root plan.binds) (steps_of history.calls (order_seen ahead era)) bytes read answer byte
    → Gives read answer byte (slice_index bytes byte)

-- in this tree the starting object stands at the path as it was
abbrev pub StandsAsItWas : Tree → ℕ → StartObject → Names → Type 0
StandsAsItWas tree k o path = map.get tree path ≡ Some (start_node (k + 1) o)

-- the places that an era sees lead to a tree, in which a starting object stands as it was where all of them spare its path
abbrev pub WhatStoodIsKept : Type 0
WhatStoodIsKept =
    (history : KnownCalls) (plan : Certificate) (ahead behind : List EraPlan) (era : EraPlan) (k : ℕ) (o : StartObject) (path : Names)
    → IsStart history.head.start → IsWitness history plan → plan.eras ≡ ahead ++ era ∷ behind
    → slice_get history.head.start k ≡ Some o → place.path_of (base_of history) (k + 1) ≡ Some path
    → AllSpare history.head.profile (length history.head.start) (bindings_of history.head.root plan.binds) path (base_of history) (steps_of history.calls (order_seen ahead era))
    → (last : Tree) × (state_after (next_of history plan) (base_of history) (steps_of history.calls (order_seen ahead era)) ≡ Some last) × StandsAsItWas last k o path
