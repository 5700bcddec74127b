-- Connections, each a lane, one more at a time.
use Rattle.std.proofs.Common.{◌≡◌, ◌<◌, ℕ, ◌+◌, List, take, length, get_or, sym, subst}
use Rattle.capture_history.specs.declared.found.Found.{Found}
use Rattle.capture_history.specs.declared.notes.LaneNote.{LaneNote}
use Rattle.capture_history.specs.declared.connection.Connection.{Connection}
use Rattle.capture_history.specs.Lanes.{AreLanes}
use Rattle.capture_history.specs.Lanes.AreLanes.{more}
use Rattle.capture_history.specs.Noting.{IsPut}
use Rattle.capture_history.proofs.Rows.{take_one}

pub lanes_on : (all : List Connection) (i lane : ℕ) (d : Connection) (found : List Found) (told : List LaneNote) (found' : List Found) (told' : List LaneNote) → i < length all → lane ≡ i + 1 → AreLanes i (take i all) found told → IsPut lane (get_or all i d) found told found' told' → AreLanes (i + 1) (take (i + 1) all) found' told'
lanes_on all i lane d found told found' told' h number so_far put = rw (take_one all i d h) (more (get_or all i d) put.0 found' told' so_far (rw (sym number) put.1) (rw (sym number) put.2))

pub lanes_at : (all : List Connection) (i lane : ℕ) (connection : Connection) (found : List Found) (told : List LaneNote) (found' : List Found) (told' : List LaneNote) → i < length all → connection ≡ get_or all i connection → lane ≡ i + 1 → AreLanes i (take i all) found told → IsPut lane connection found told found' told' → AreLanes (i + 1) (take (i + 1) all) found' told'
lanes_at all i lane connection found told found' told' h is number so_far put = lanes_on all i lane connection found told found' told' h number so_far (subst (λ (other : Connection). IsPut lane other found told found' told') is put)
