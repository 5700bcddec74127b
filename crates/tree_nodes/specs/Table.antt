-- For the prover.
-- the table of the objects
use Rattle.std.specs.Prelude.{ℕ, List, Option, option_and_then, option_map}
use Rattle.std.specs.Ordering.{nat_cmp}
use Rattle.std.specs.FinMap as map
use Rattle.tree_stores.specs.Names.{Objects}
use Rattle.tree_nodes.specs.declared.table.Entry.{Entry}
use Rattle.tree_nodes.specs.Walk.{Held}

abbrev pub Table : Type 0
Table = map.FinMap nat_cmp Entry

abbrev pub entry_at : Table → ℕ → Option Entry
entry_at entries object = map.get entries object

-- the object of a name
abbrev pub name_in : Objects → List ℕ → Option ℕ
name_in names name = map.get names name

abbrev pub named : Entry → List ℕ → Option ℕ
named entry name = name_in entry.body.names name

-- the names in an object, in their order, with their objects
abbrev pub names_in : Entry → List (List ℕ × ℕ)
names_in entry = map.entries entry.body.names

abbrev pub child : Table → ℕ → List ℕ → Option ℕ
child entries object name = option_and_then (λ entry. named entry name) (entry_at entries object)

abbrev pub placed : Entry → Held
placed entry = (entry.parent, entry.body.name, entry.body.node)

abbrev pub held : Table → ℕ → Option Held
held entries object = option_map placed (entry_at entries object)
